use Prim.Native.Nat.{ℕ, ◌<◌}
use mathlib.Core.Path.{◌≡◌, ◌∙◌}
use mathlib.Core.List.{List}
use native.Mathlib.Omega.{arith}
use lib.ListN.{length, get_or, take, length-take}
use lib.Seq.{get_or-take}
use Rattle.wiresize.proofs.Nodes.{slot_few}
use Rattle.once.proofs.Working.{going_start, next_unknown, going_on, going_end}
use Rattle.once.proofs.work_all.Goals as goal

-- the slots that are gone over are the first of the order
within : (m k : ℕ) (order : List ℕ) → k < length (take m order) → k < m
within m k order h = omega (arith, length-take {A = ℕ})

the_slot : (m k i : ℕ) (order : List ℕ) → k < length (take m order) → i ≡ get_or (take m order) k 0 → i ≡ get_or order k 0
the_slot m k i order h e = e ∙ get_or-take m order k 0 (within m k order h)

pub loop-slot-init : goal.loop-slot-init
loop-slot-init c = λ count w. going_start _ _ _ count _ _ w _ c.requires.blank

pub work_slot-visits-requires : goal.work_slot-visits-requires
work_slot-visits-requires c =
    let p = c.requires in
    let k = within _ _ _ c.loop-slot-test.true in
    let i = the_slot _ _ _ _ c.loop-slot-test.true c.from.ensures in
    rw i (p.promise, omega (arith, p.sorted.below _ k, p.promise.count), p.row_room, p.held, omega (arith, p.room), next_unknown _ _ _ _ _ _ _ _ _ _ (c.loop-slot.invariant p.promise.count p.sorted) k)

pub loop-slot-preserved : goal.loop-slot-preserved
loop-slot-preserved c =
    let p = c.requires in
    let k = within _ _ _ c.loop-slot-test.true in
    let i = the_slot _ _ _ _ c.loop-slot-test.true c.from.ensures in
    λ count w. going_on _ _ _ count _ _ w _ _ _ (c.loop-slot.invariant count w) k _ _ (omega (arith, p.room)) (slot_few _ _ _ p.promise _ (omega (arith, p.sorted.below _ k, p.promise.count)))
    (rw i at c.work_slot-visits.ensures)

pub overflow_add-visits : goal.overflow_add-visits
overflow_add-visits c =
    let p = c.requires in
    let k = within _ _ _ c.loop-slot-test.true in
    let i = the_slot _ _ _ _ c.loop-slot-test.true c.from.ensures in
    omega (
      arith,
      k,
      p.sorted.short,
      p.promise.count,
      p.promise.few,
      (going_on _ _ _ p.promise.count _ _ p.sorted _ _ _ (c.loop-slot.invariant p.promise.count p.sorted) k _ _ (omega (arith, p.room)) (slot_few _ _ _ p.promise _ (omega (arith, p.sorted.below _ k, p.promise.count)))
          (rw i at c.work_slot-visits.ensures)).few,
    )

pub returns : goal.returns
returns c = let p = c.requires in going_end _ _ _ p.promise.count _ _ p.sorted _ _ _ (c.loop-slot.invariant p.promise.count p.sorted) (omega (arith, c.loop-slot-test.false, length-take {A = ℕ}, p.order_room))
