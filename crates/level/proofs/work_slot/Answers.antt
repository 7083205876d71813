use native.Mathlib.Omega.{arith}
use mathlib.Core.Path.{ap, subst, ◌∙◌}
use mathlib.Core.List.{List}
use Prim.Native.Nat.{ℕ, ◌*◌}
use lib.Seq.{sets}
use Rattle.level.specs.Level.{answer_row, Unknown}
use Rattle.level.proofs.Answers.{answer_known}
use Rattle.level.proofs.work_slot.Goals as goal

pub slot_answer-filled-requires : goal.slot_answer-filled-requires
slot_answer-filled-requires c = let pre = c.requires in (pre.0, pre.1, pre.2, pre.3, pre.4)

pub put_row-requires : goal.put_row-requires
put_row-requires c = omega (arith, c.requires.1, c.requires.4)

pub returns : goal.returns
returns c =
    let answer = c.slot_answer-filled.ensures in
    let table = c.put_row.ensures ∙ ap (sets c.args.answers.now (3 * c.args.slot)) (c.answer_row.ensures ∙ ap answer_row answer.worked) in
    record {
      table = table;
      visited = answer.visits;
      known = λ e. answer_known _ _ _ (omega (arith, c.requires.1, c.requires.4)) (subst (λ (l : List ℕ). Unknown l c.args.slot) table e);
    }
