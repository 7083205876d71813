-- What reads make of a reader whose bytes are known. Assumes nothing.
use Rattle.std.proofs.Common.{◌≡◌, inl, inr, ℕ, zero, suc, ◌+◌, ◌≤◌, ◌<◌, List, ◌++◌, Option, None, Some, IfSome, Result, Ok, Err, arith, length, take, sym, ap, ◌∙◌, subst, le_refl, append-nil, drop, length-take-le, take_all, drop_at}
use mathlib.Core.Path.{refl}
use borrow.Author.Tests.{ne_eqb}
use lib.Seq.{take-add, take-append-le}
use borrow.Rule.Slice.PartMut.{put_mid, post_of}
use Rattle.std.proofs.lemmas.Slice.{take-put_mid_below}
use Rattle.std.proofs.KnownBytes.{Consumes-trans}
use Rattle.std.specs.Io.{ReadsAtMost}
use Rattle.std.specs.Io.KnownBytes.{Consumes, IsAtEnd, ReadConsumes}
use Rattle.report.specs.Text.{text_for}
use Rattle.vexcheck.proofs.Long.{as_whole}
use Rattle.vexcheck.specs.Input.{step_of, text_of_input, TookAll, AnswersInput}

-- going on means that there were bytes
pub on_further : {E : Type 0} (at next : ℕ) (got : Result ℕ E) → step_of at got ≡ Ok (Some next) → (n : ℕ) × (got ≡ Ok n) × (0 < n) × (next ≡ at + n)
unfolding step_of
on_further at next (Err x) e = let z : ◌≡◌ {A = ℕ} 0 1 = cc in absurd (omega arith)
on_further at next (Ok zero) e = let z : ◌≡◌ {A = ℕ} 0 1 = cc in absurd (omega arith)
on_further {E} at next (Ok (suc k)) e =
    let f : ◌≡◌ {A = Result (Option ℕ) E} (Ok (Some (at + suc k))) (Ok (Some next)) = rw (ne_eqb (suc k) 0 (λ z. omega arith)) at e in
    let q : at + suc k ≡ next = cc in
    (suc k, refl, omega arith, sym q)

-- and the end that there were none
pub at_end : {E : Type 0} (at : ℕ) (got : Result ℕ E) → step_of at got ≡ Ok None → got ≡ Ok 0
unfolding step_of
at_end at (Err x) e = let z : ◌≡◌ {A = ℕ} 0 1 = cc in absurd (omega arith)
at_end at (Ok zero) e = refl
at_end {E} at (Ok (suc k)) e =
    let f : ◌≡◌ {A = Result (Option ℕ) E} (Ok (Some (at + suc k))) (Ok None) = rw (ne_eqb (suc k) 0 (λ z. omega arith)) at e in
    let z : ◌≡◌ {A = ℕ} 0 1 = cc in
    absurd (omega arith)

-- the bytes of a read behind `at` bytes stand behind those of all before it
pub bytes_more : {E : Type 0} (first left after : Option (List ℕ)) (at next k : ℕ) (got : Result ℕ E) (buffer part : List ℕ) → at ≤ length buffer
    → step_of at got ≡ Ok (Some next) → ReadsAtMost got part → Consumes first left (take at buffer) → ReadConsumes left after got part
    → (next ≤ at + length part) × Consumes first after (take next (put_mid at k buffer part))
bytes_more {E} first left after at next k got buffer part h e l before taken =
    let w = on_further at next got e in
    let n = w.0 in
    let bound : n ≤ length part = (subst (λ (r : Result ℕ E). ReadsAtMost r part) w.1 l).0 in
    let bytes : Consumes left after (take n part) = (subst (λ (r : Result ℕ E). ReadConsumes left after r part) w.1 taken).0 in
    let front = take at buffer in
    let behind = post_of at k buffer in
    let f : length front ≡ at = length-take-le at buffer h in
    let grown : take (at + n) (put_mid at k buffer part) ≡ front ++ take n part =
    take-add at n (put_mid at k buffer part)
    ∙ ap (λ (xs : List ℕ). xs ++ take n (drop at (put_mid at k buffer part))) (take-put_mid_below at k buffer part at (le_refl at) h)
    ∙ ap (λ (xs : List ℕ). front ++ xs) (ap (take n) (drop_at front (part ++ behind) at f) ∙ take-append-le n part behind bound) in
    let whole : take next (put_mid at k buffer part) ≡ front ++ take n part = ap (λ (m : ℕ). take m (put_mid at k buffer part)) w.3 ∙ grown in
    (omega (arith, w.3), subst (Consumes first after) (sym whole) (Consumes-trans first left after front (take n part) before bytes))

all_there : (first after : Option (List ℕ)) (front buffer : List ℕ) → Consumes first after front → IsAtEnd after → length front ≤ length buffer
    → IfSome first (λ bytes. front ≡ take (length buffer) bytes)
all_there None after front buffer h end l = tt
all_there (Some bytes) None front buffer h end l = absurd h
all_there (Some bytes) (Some rest) front buffer h end l =
    let e : bytes ≡ front = h ∙ ap (λ (xs : List ℕ). front ++ xs) end ∙ append-nil front in
    sym (take_all (length buffer) front l) ∙ ap (take (length buffer)) (sym e)

-- the input ended
pub all_read : {E : Type 0} (first left after : Option (List ℕ)) (at k : ℕ) (got : Result ℕ E) (buffer part : List ℕ) → at ≤ length buffer → 0 < length part
    → length buffer ≤ length (put_mid at k buffer part) → step_of at got ≡ Ok None → Consumes first left (take at buffer) → ReadConsumes left after got part
    → IfSome first (λ bytes. take at (put_mid at k buffer part) ≡ take (length (put_mid at k buffer part)) bytes)
all_read {E} first left after at k got buffer part h room l e before taken =
    let front = take at buffer in
    let whole = put_mid at k buffer part in
    let last = subst (λ (r : Result ℕ E). ReadConsumes left after r part) (at_end at got e) taken in
    let still : Consumes first after front = subst (Consumes first after) (append-nil front) (Consumes-trans first left after front (take 0 part) before last.0) in
    let fits : length front ≤ length whole = omega (arith, length-take-le at buffer h) in
    let there = all_there first after front whole still (last.1 refl room) fits in
    let kept : take at whole ≡ front = take-put_mid_below at k buffer part at (le_refl at) h in
    subst (λ (xs : List ℕ). IfSome first (λ bytes. xs ≡ take (length whole) bytes)) (sym kept) there

-- the text that is made of it
pub answers_input : {E : Type 0} (left : Option (List ℕ)) (t : Result ℕ E) (buffer text : List ℕ) → 65536 < length buffer → TookAll left t buffer
    → text ≡ text_of_input t buffer → AnswersInput left text
unfolding text_of_input
answers_input None t buffer text l taken e = tt
answers_input (Some bytes) (Err x) buffer text l taken e = inr e
answers_input (Some bytes) (Ok n) buffer text l taken e =
    inl (e ∙ ap text_for taken ∙ as_whole (length buffer) bytes l)
