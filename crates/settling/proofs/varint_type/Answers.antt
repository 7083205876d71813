use mathlib.Core.Path.{sym, ap, ◌∙◌}
use Rattle.sizes.specs.declared.Size.TheVariants.{Bounded}
use Rattle.sizes.specs.declared.Worked.TheVariants.{Sized}
use Rattle.measures.proofs.ByKind.{varint_as}
use Rattle.settling.proofs.Heads.{type_kind}
use Rattle.settling.proofs.varint_type.Goals as goal

pub returns : goal.returns
returns c = record { passed = λ t end q. let k = type_kind _ _ _ _ c.read_head-head.ensures t end q in let p = c.pass_headed.ensures.passed t end q in (p.0 ∙ ap Sized (c.varint_wire_size-size.ensures ∙ ap (Bounded 8) (varint_as t (k.0 ∙ sym c.kind_and_number-kinded.ensures.0) (k.1 ∙ sym c.kind_and_number-kinded.ensures.1))), p.1) }
