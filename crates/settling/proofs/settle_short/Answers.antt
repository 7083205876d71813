use mathlib.Core.Path.{sym, subst}
use Rattle.settling.specs.Steps.{Settles}
use Rattle.settling.specs.declared.Settled.{Settled}
use Rattle.settling.proofs.Settling.{short_leaf_lem, short_varint, short_zigzag, short_name}
use Rattle.settling.proofs.settle_short.Goals as goal

pub returns-in-3 : goal.returns-in-3
returns-in-3 c = λ f s at n h. short_name f s at _ _ _ h c.in-0.is c.in-3.is _ n

pub returns-in_default-kind : goal.returns-in_default-kind
returns-in_default-kind c = λ f s at n h. subst (λ (x : Settled). Settles f s at x) (sym c.sized.ensures) (short_leaf_lem f s at _ _ _ h c.in-0.is _ c.leaf_wire_size.ensures _ n)

pub returns-in-1 : goal.returns-in-1
returns-in-1 c = λ f s at n h. subst (λ (x : Settled). Settles f s at x) (sym c.sized-in-1.ensures) (short_varint f s at _ _ _ h c.in-1.is _ c.varint_wire_size.ensures _ n)

pub returns-in_default : goal.returns-in_default
returns-in_default c = λ f s at n h. subst (λ (x : Settled). Settles f s at x) (sym c.sized-in_default.ensures) (short_zigzag f s at _ _ _ h c.in_default.in_default-own.rest.0.1 c.in_default.in_default-own.rest.1 _ c.zigzag_wire_size.ensures _ n)
