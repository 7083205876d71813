use Prim.Native.Nat.{◌%◌}
use mathlib.Core.Path.{refl, sym, ap, ◌∙◌}
use native.Mathlib.Omega.{arith}
use native.Mathlib.Nat.{mul-one}
use Rattle.number.specs.Number.{number_at}
use Rattle.number.proofs.Groups.{scaled, scaled_one, scaled_after, ends, short, last, on, tenth, tenth_not, room, fits, full}
use Rattle.number.proofs.read_number.Goals as goal

pub loop-more-init : goal.loop-more-init
unfolding number_at
loop-more-init c = (scaled_one _, refl, omega arith, omega arith, omega arith)

pub returns-then-image-p : goal.returns-then-image-p
unfolding scaled
returns-then-image-p c = sym (c.loop-more.invariant.0 ∙ ap (scaled _ _) (ends _ _ _ _ c.if-image-p.true))

pub returns-then-b-least : goal.returns-then-b-least
unfolding scaled
returns-then-b-least c = let l = c.loop-more in sym (l.invariant.0 ∙ ap (scaled _ _) (short _ _ _ _ (omega arith) (omega arith)))

pub overflow_mul-result : goal.overflow_mul-result
overflow_mul-result c = let l = c.loop-more in omega (arith, fits l.weight l.more l.sum c.wide-b.result (omega arith) l.invariant.1 l.invariant.2 (omega arith))

pub overflow_add-result : goal.overflow_add-result
overflow_add-result c = let l = c.loop-more in omega (arith, fits l.weight l.more l.sum c.wide-b.result (omega arith) l.invariant.1 l.invariant.2 (omega arith))

pub returns-then-b-lt128 : goal.returns-then-b-lt128
unfolding scaled
returns-then-b-lt128 c = let l = c.loop-more in rw c.wide-b.ensures (sym (l.invariant.0 ∙ ap (scaled _ _) (last _ _ _ _ (omega arith) (omega arith) (omega arith) (omega arith))))

pub overflow_mul-sum : goal.overflow_mul-sum
overflow_mul-sum c = let l = c.loop-more in omega (arith, fits l.weight l.more l.sum (c.wide-b.result % 128) (omega arith) l.invariant.1 l.invariant.2 (omega arith))

pub overflow_add-sum : goal.overflow_add-sum
overflow_add-sum c = let l = c.loop-more in omega (arith, fits l.weight l.more l.sum (c.wide-b.result % 128) (omega arith) l.invariant.1 l.invariant.2 (omega arith))

pub overflow_mul-weight : goal.overflow_mul-weight
overflow_mul-weight c = let l = c.loop-more in omega (arith, fits l.weight l.more l.sum (c.wide-b.result % 128) (omega arith) l.invariant.1 l.invariant.2 (omega arith))

pub loop-more-preserved : goal.loop-more-preserved
loop-more-preserved c = let l = c.loop-more in let f = fits l.weight l.more l.sum (c.wide-b.result % 128) (omega arith) l.invariant.1 l.invariant.2 (omega arith) in (rw c.wide-b.ensures (l.invariant.0 ∙ ap (scaled _ _) (on _ _ _ _ (omega arith) (omega arith) (omega arith) (omega arith)) ∙ scaled_after _ _ _ _), room l.weight l.more (omega arith) l.invariant.1, omega arith, omega arith, omega arith)

pub returns-then-image-p-2 : goal.returns-then-image-p-2
unfolding scaled
returns-then-image-p-2 c = let l = c.loop-more in sym (l.invariant.0 ∙ ap (scaled _ _) (ends _ _ _ _ c.if-image-p-2.true))

pub overflow_add-result-then-last-eq1 : goal.overflow_add-result-then-last-eq1
overflow_add-result-then-last-eq1 c = let l = c.loop-more in omega (arith, full l.weight l.more (omega arith) l.invariant.1)

pub returns-then-last-eq1 : goal.returns-then-last-eq1
unfolding scaled
returns-then-last-eq1 c =
    let l = c.loop-more in
    sym (l.invariant.0 ∙ ap (scaled _ _) (tenth _ _ _ _ (omega arith) (omega arith) (omega arith) (omega arith)) ∙ rw mul-one)

pub returns-else-last-eq1 : goal.returns-else-last-eq1
unfolding scaled
returns-else-last-eq1 c =
    let l = c.loop-more in
    sym (l.invariant.0 ∙ ap (scaled _ _) (tenth_not _ _ _ _ (omega arith) (omega arith) (omega arith) (λ e. c.if-last-eq1.false (c.wide-last.ensures ∙ e))))
