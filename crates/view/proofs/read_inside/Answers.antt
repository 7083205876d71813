use mathlib.Core.Path.{sym, ◌∙◌}
use Rattle.view.proofs.Insides.{none_inside, fields_at_lem, variants_at, terminal_at, target_at, body_itself}
use Rattle.view.proofs.read_inside.Goals as goal

pub returns-in_default : goal.returns-in_default
returns-in_default c = none_inside _ _ _ (sym c.read_part.ensures ∙ c.in_default.is)

pub returns-in-1 : goal.returns-in-1
returns-in-1 c = fields_at_lem _ _ _ (sym c.read_part.ensures ∙ c.in-At.is) c.in-1.is c.fields_place.ensures

pub returns-in-4 : goal.returns-in-4
returns-in-4 c = variants_at _ _ _ (sym c.read_part.ensures ∙ c.in-At.is) c.in-4.is c.variants_place.ensures

pub returns-in-5 : goal.returns-in-5
returns-in-5 c = terminal_at _ _ _ (sym c.read_part.ensures ∙ c.in-At.is) c.in-5.is c.terminal_place.ensures

pub returns-in-7 : goal.returns-in-7
returns-in-7 c = target_at _ _ _ (sym c.read_part.ensures ∙ c.in-At.is) c.in-7.is c.target_place.ensures

pub returns-in_default-kind : goal.returns-in_default-kind
returns-in_default-kind c = let r = c.in_default-kind.in_default-kind-own.rest in body_itself _ _ _ (sym c.read_part.ensures ∙ c.in-At.is) r.0.0.0.1 r.0.0.1 r.0.1 r.1
