-- From sizes and findings to the answer and the tables that the caller holds. Assumes nothing.
use Prim.Native.Nat.{ℕ, ◌+◌, ◌*◌, ◌^◌, ◌≤◌, ◌<◌}
use mathlib.Core.Path.{◌≡◌, refl, sym, ap, ap₂, subst, ◌∙◌}
use mathlib.Core.List.{List, [], ◌++◌}
use native.Mathlib.Omega.{arith}
use lib.ListN.{length, length-append}
use borrow.Author.Tests.{lt-ltb, le-ltb}
use Rattle.table.specs.Fitted.{fitted}
use Rattle.table.proofs.Fitting.{fitted_length}
use Rattle.image.specs.Schema.{Schema}
use Rattle.reader.specs.Reading.{schema_of}
use Rattle.sizes.specs.Demand.{Demand3}
use Rattle.turns.specs.Sizing.{layout_of, table_by, sizes_of}
use Rattle.turns.specs.Sizing as sizing
use Rattle.turns.specs.declared.Entry.{Entry}
use Rattle.turns.specs.declared.Sizing.{Sizing}
use Rattle.findings.specs.Finding.{noted, rows_of}
use Rattle.findings.specs.Adding.{Adds}
use Rattle.findings.specs.Endless.{endless_of}
use Rattle.findings.specs.Conformance.{conformance_of}
use Rattle.findings.specs.Findings.{findings_of}
use Rattle.findings.specs.declared.Finding.{Finding}
use Rattle.findings.proofs.Adding.{adds_noted}
use Rattle.recursion.specs.Recursion as endless
use Rattle.typeck.specs.Check.{judged, verdict_in, verdict_of, on_accepted, size_table, finding_table, Answered}
use Rattle.typeck.specs.Searching.{Found}
use Rattle.typeck.specs.declared.Verdict.{Verdict}
use Rattle.typeck.proofs.Enough.{limits_enough}
use Rattle.slot.specs.declared.Edition.{Edition}

pub noted_length : (t : List ℕ) (n : ℕ) (l : List Finding) → t ≡ noted n l → length t ≡ n
noted_length t n l e = ap length e ∙ fitted_length n (rows_of l)

-- the findings of both checks, one after the other
pub both_noted : (S : Schema) (before t u : List ℕ) (n k : ℕ) → endless.Checked S before t n → Adds (2 ^ 25) t u n k (conformance_of S 0 S.slots)
    → (k ≡ length (findings_of S)) × (u ≡ noted (length before) (findings_of S))
unfolding findings_of
both_noted S before t u n k c a =
    let E = endless_of S S.declared in
    let C = conformance_of S 0 S.slots in
    (a.answer ∙ ap (λ (m : ℕ). m + length C) c.count ∙ sym (length-append E C), adds_noted a (length before) E (sym c.count) c.table)

module _ (S : Schema) (sizes findings : List ℕ) where
  -- refusal 12
  pub no_places : (count : ℕ) (a b t : List ℕ) → (count ≡ length (findings_of S)) × (t ≡ noted (length findings) (findings_of S))
      → length t < 6 * count → a ≡ fitted (length sizes) [] → b ≡ fitted (length t) [] → Found S sizes a findings b (Verdict.Refused 12 0)
  unfolding judged
  no_places count a b t n h x y =
      let e = n.0 in
      let l = noted_length t (length findings) _ n.1 in
      record {
        answer = simp (lt-ltb (length findings) (6 * length (findings_of S)) (omega arith));
        size_table = x;
        finding_table = y ∙ ap (λ (k : ℕ). fitted k []) l;
      }

  pub all_found : (count : ℕ) (t : List ℕ) → (count ≡ length (findings_of S)) × (t ≡ noted (length findings) (findings_of S))
      → 6 * count ≤ length t → Found S sizes sizes findings t (Verdict.Accepted count)
  unfolding judged
  all_found count t n h =
      let e = n.0 in
      let l = noted_length t (length findings) _ n.1 in
      record {
        answer = simp (le-ltb (length findings) (6 * length (findings_of S)) (omega arith)) (ap Verdict.Accepted e);
        size_table = refl;
        finding_table = n.1;
      }

  -- neither check has anything to find
  pub nothing_found : endless_of S S.declared ≡ [] → conformance_of S 0 S.slots ≡ [] → findings ≡ fitted (length findings) []
      → Found S sizes sizes findings findings (Verdict.Accepted 0)
  unfolding findings_of rows_of
  nothing_found e f h =
      let n : findings_of S ≡ [] = ap₂ ◌++◌ e f in
      all_found 0 findings (ap length (sym n), h ∙ ap (noted (length findings)) (sym n)) (omega arith)

-- the sizes stand, and the findings were looked for
pub found_said : (E : Entry) (ed : Edition) (s sizes findings : List ℕ) (z : Sizing) (mid after cleared b : List ℕ) (r : Verdict) (own : Edition) → sizing.Answered E ed s sizes mid z
    → z ≡ Sizing.Accepted → length cleared ≡ length findings → own ≡ ed → Found (schema_of own s) mid after cleared b r → Answered E ed s sizes after findings b r
unfolding verdict_of verdict_in size_table finding_table sizes_of
found_said E ed s sizes findings z mid after cleared b r own d e q same found =
    let S = schema_of ed s in
    let f = subst (λ (x : Edition). Found (schema_of x s) mid after cleared b r) same found in
    let a : r ≡ verdict_of E ed (length sizes) (length findings) s
    = f.answer ∙ ap (λ (n : ℕ). judged n S) q ∙ ap (verdict_in (length findings) S) (sym e ∙ d.answer) in
    let n : length mid ≡ length sizes = ap length d.table ∙ fitted_length (length sizes) _ in
    record {
      answer = a;
      size_table = f.size_table ∙ ap (λ (k : ℕ). on_accepted r k mid) n ∙ ap (on_accepted r (length sizes)) d.table ∙ ap (λ (v : Verdict). on_accepted v (length sizes) (sizes_of E ed (length sizes) s)) a;
      finding_table = f.finding_table
          ∙ ap (λ (k : ℕ). on_accepted r k (noted k (findings_of S))) q
          ∙ ap (λ (v : Verdict). on_accepted v (length findings) (noted (length findings) (findings_of S))) a;
      demand = λ m h. subst (λ (t : List ℕ). Demand3 (layout_of E) S t) (sym (f.size_table ∙ ap (λ (v : Verdict). on_accepted v (length mid) mid) h)) (d.demand e);
      names = d.names;
      limits = limits_enough ed s;
    }

not_accepted : {n p m : ℕ} → Verdict.Refused n p ≡ Verdict.Accepted m → ⊥
not_accepted e = let z : ◌≡◌ {A = ℕ} 0 1 = cc in omega arith

-- a refusal that comes before findings
pub refused_said : (E : Entry) (ed : Edition) (s sizes findings : List ℕ) (z : Sizing) (n i : ℕ) (after b : List ℕ) → sizing.Answered E ed s sizes after z → z ≡ Sizing.Refused n i
    → b ≡ fitted (length findings) [] → Answered E ed s sizes after findings b (Verdict.Refused n i)
unfolding verdict_of verdict_in size_table finding_table sizes_of
refused_said E ed s sizes findings z n i after b d e q =
    let k = sym d.answer ∙ e in
    let a : Verdict.Refused n i ≡ verdict_of E ed (length sizes) (length findings) s = ap (verdict_in (length findings) (schema_of ed s)) (sym k) in
    record {
      answer = a;
      size_table = d.table ∙ ap (table_by (layout_of E) (length sizes) (schema_of ed s)) k ∙ ap (λ (v : Verdict). on_accepted v (length sizes) (sizes_of E ed (length sizes) s)) a;
      finding_table = q ∙ ap (λ (v : Verdict). on_accepted v (length findings) (noted (length findings) (findings_of (schema_of ed s)))) a;
      demand = λ m h. absurd (not_accepted h);
      names = d.names;
      limits = limits_enough ed s;
    }

-- a table that was cleared
pub cleared_length : (n : ℕ) (u : List ℕ) → u ≡ fitted n [] → length u ≡ n
cleared_length n u e = ap length e ∙ fitted_length n []

pub cleared_itself : (n : ℕ) (u : List ℕ) → u ≡ fitted n [] → u ≡ fitted (length u) []
cleared_itself n u e = e ∙ ap (λ (k : ℕ). fitted k []) (sym (cleared_length n u e))
