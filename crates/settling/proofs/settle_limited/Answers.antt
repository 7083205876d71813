use mathlib.Core.Logic.{inl, inr}
use Rattle.number.proofs.Reading.{told}
use Rattle.settling.proofs.Elements.{plain_none, plain_other}
use Rattle.settling.proofs.settle_limited.Goals as goal

pub returns-in_default : goal.returns-in_default
returns-in_default c = λ f n e. plain_none f _ _ (told c.read_below.ensures c.in_default.is)

pub settle_elements-requires : goal.settle_elements-requires
settle_elements-requires c = (told c.read_below.ensures c.in-Value.is, inl c.in-5.is)

pub settle_elements-requires-in-7 : goal.settle_elements-requires-in-7
settle_elements-requires-in-7 c = (told c.read_below.ensures c.in-Value.is, inr (inl c.in-7.is))

pub settle_elements-requires-in-8 : goal.settle_elements-requires-in-8
settle_elements-requires-in-8 c = (told c.read_below.ensures c.in-Value.is, inr (inr c.in-8.is))

pub returns-in_default-kind : goal.returns-in_default-kind
returns-in_default-kind c = λ f n e. plain_other f _ _ _ _ (told c.read_below.ensures c.in-Value.is) c.in_default-kind.in_default-kind-own.rest.0.0.1 c.in_default-kind.in_default-kind-own.rest.0.1 c.in_default-kind.in_default-kind-own.rest.1
