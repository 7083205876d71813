-- The text written for an image. Assumes nothing.
use Prim.Native.Nat.{ℕ, ◌*◌, ◌≤◌, ◌<◌, ◌^◌}
use mathlib.Core.Path.{◌≡◌, ap, ◌∙◌}
use mathlib.Core.List.{List, []}
use mathlib.Core.Logic.{by_cases}
use native.Mathlib.Omega.{arith}
use native.Mathlib.Decide.{dec_lt}
use borrow.Author.Tests.{lt-ltb, le-ltb}
use lib.ListN.{length}
use Rattle.table.proofs.Fitting.{fitted_length}
use Rattle.lines.specs.Lines.{Holds, Written}
use Rattle.lines.proofs.Bound.{Small, refused_most, accepted_most}
use Rattle.findings.specs.Findings.{findings_of}
use Rattle.turns.specs.Sizing.{sizing_of, sizes_of}
use Rattle.turns.specs.declared.Sizing.{Sizing}
use Rattle.slot.specs.declared.Edition.TheVariants.{One}
use Rattle.turns.specs.declared.Entry.TheVariants.{Ordinary}
use Rattle.reader.specs.Reading.{schema_of}
use Rattle.image.specs.Schema.{Schema}
use Rattle.typeck.specs.Check.{judged, verdict_in, verdict_of, on_accepted, size_table, finding_table, Answered}
use Rattle.typeck.specs.declared.Verdict.{Verdict}
use Rattle.report.specs.Text.{text_of, text_for, count_of, VerdictWritten}

pub accepted_written : (p : ℕ) (v : Verdict) (s f out : List ℕ) (count r : ℕ) → v ≡ Verdict.Accepted count → Small s → Small f
    → Holds p (text_of (Verdict.Accepted count) s f) out r → VerdictWritten p v s f out r
unfolding text_of
accepted_written p v s f out count r e h k w = rw e (record { holds = w; most = λ l m. accepted_most s f count h k l m })

pub refused_written : (p : ℕ) (v : Verdict) (s f out : List ℕ) (number place r : ℕ) → v ≡ Verdict.Refused number place → number < 2 ^ 64 → place < 2 ^ 64
    → Holds p (text_of (Verdict.Refused number place) s f) out r → VerdictWritten p v s f out r
unfolding text_of
refused_written p v s f out number place r e h k w = rw e (record { holds = w; most = λ l m. refused_most number place h k })

-- refusal 12 keeps the count within the table
judged_few : (q : ℕ) (S : Schema) → 6 * count_of (judged q S) ≤ q
unfolding judged
judged_few q S =
    by_cases (dec_lt q (6 * length (findings_of S)))
    (λ h. rw (lt-ltb q (6 * length (findings_of S)) h) (omega arith))
    (λ h. rw (le-ltb q (6 * length (findings_of S)) (omega arith)) (omega arith))

few_in : (q : ℕ) (S : Schema) (z : Sizing) → 6 * count_of (verdict_in q S z) ≤ q
unfolding verdict_in
few_in q S (Sizing.Refused r p) = omega arith
few_in q S Sizing.Accepted = judged_few q S

few : (p q : ℕ) (s : List ℕ) → 6 * count_of (verdict_of Ordinary One p q s) ≤ q
unfolding verdict_of
few p q s = few_in q (schema_of One s) (sizing_of Ordinary One p s)

-- both outcomes leave the table as long as it was
answered_long : (v : Verdict) (p : ℕ) (t : List ℕ) → length t ≡ p → length (on_accepted v p t) ≡ p
answered_long (Verdict.Accepted n) p t e = e
answered_long (Verdict.Refused r i) p t e = fitted_length p []

sizes_long : (p : ℕ) (s : List ℕ) → length (sizes_of Ordinary One p s) ≡ p
unfolding sizes_of
sizes_long p s = fitted_length p _

table_long : (p q : ℕ) (s : List ℕ) → length (size_table Ordinary One p q s) ≡ p
unfolding size_table
table_long p q s = answered_long (verdict_of Ordinary One p q s) p (sizes_of Ordinary One p s) (sizes_long p s)

-- a check with places for 512 slots and 1,000 findings
pub text_is : (s sizes a findings b : List ℕ) (v : Verdict) (p : ℕ) (out : List ℕ) (r : ℕ) → length sizes ≡ 1536 → length findings ≡ 6000
    → Answered Ordinary One s sizes a findings b v → VerdictWritten p v a b out r → Written p (text_for s) out r
unfolding text_for
text_is s sizes a findings b v p out r m n d w =
    let x : v ≡ verdict_of Ordinary One 1536 6000 s = d.answer ∙ ap (λ (k : ℕ). verdict_of Ordinary One k (length findings) s) m ∙ ap (λ (k : ℕ). verdict_of Ordinary One 1536 k s) n in
    let y : a ≡ size_table Ordinary One 1536 6000 s = d.size_table ∙ ap (λ (k : ℕ). size_table Ordinary One k (length findings) s) m ∙ ap (λ (k : ℕ). size_table Ordinary One 1536 k s) n in
    let z : b ≡ finding_table Ordinary One 1536 6000 s = d.finding_table ∙ ap (λ (k : ℕ). finding_table Ordinary One k (length findings) s) m ∙ ap (λ (k : ℕ). finding_table Ordinary One 1536 k s) n in
    let t : text_of v a b ≡ text_of (verdict_of Ordinary One 1536 6000 s) (size_table Ordinary One 1536 6000 s) (finding_table Ordinary One 1536 6000 s) = cc in
    let c = few 1536 6000 s in
    let l : length a ≡ 1536 = ap length y ∙ table_long 1536 6000 s in
    record {
      holds = rw t at w.holds;
      most = rw t at (w.most (omega arith) (omega (arith, ap count_of x)));
    }
