use mathlib.Core.Path.{sym, ap, ◌∙◌}
use Rattle.number.specs.Grammar.{name}
use Rattle.number.proofs.Reading.{told}
use Rattle.tree.proofs.Shapes.{bits_on, bits_refused, counted_head}
use Rattle.tree.proofs.read_bits.Goals as goal

pub returns-in-At : goal.returns-in-At
unfolding counted_head
returns-in-At c = sym (bits_on _ _ _ _ _ (told c.read_below.ensures c.in-Value.is) ∙ ap (counted_head _) (sym (c.skip_numbers.ensures name) ∙ c.in-At.is))

pub returns-in-Refused-skip_numbers : goal.returns-in-Refused-skip_numbers
unfolding counted_head
returns-in-Refused-skip_numbers c = sym (bits_on _ _ _ _ _ (told c.read_below.ensures c.in-Value.is) ∙ ap (counted_head _) (sym (c.skip_numbers.ensures name) ∙ c.in-Refused-skip_numbers.is))

pub returns-in-Refused : goal.returns-in-Refused
returns-in-Refused c = sym (bits_refused _ _ _ _ _ (told c.read_below.ensures c.in-Refused.is))
