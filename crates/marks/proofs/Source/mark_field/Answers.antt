-- Most fields have four bytes and a limit. Assumes nothing.
use mathlib.Core.Path.{sym, ◌∙◌}
use native.Mathlib.Omega.{arith}
use Prim.Native.Nat.{◌+◌}
use Rattle.slot.proofs.FourBytes.{short_bytes}
use Rattle.marks.proofs.Fields.{limit_end, short_marked}
use Rattle.marks.proofs.Source.mark_field.Goals as goal

pub overflow_add-at : goal.overflow_add-at
overflow_add-at c = omega (arith, (short_bytes _ _ _ _ _ _ (sym c.short_field.ensures ∙ c.in-Is.is)).long)

pub returns-in-Is : goal.returns-in-Is
returns-in-Is c =
    let short = sym c.short_field.ensures ∙ c.in-Is.is in
    short_marked _ _ _ _ c.args.self.now.edition _ _ _ short _ (c.mark_short.ensures _ _ _ short) _ (limit_end c.args.self.now.edition _ (c.args.at + 4) c.place_of.ensures c.skip_limit.ensures)
