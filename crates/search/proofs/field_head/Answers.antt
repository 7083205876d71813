use mathlib.Core.Path.{sym, ◌∙◌}
use Rattle.number.proofs.Reading.{told}
use Rattle.search.proofs.Searching.{head_is, head_cut, encoding_cut}
use Rattle.search.proofs.field_head.Goals as goal

pub returns-in-At : goal.returns-in-At
returns-in-At c = head_is c.args.frame _ _ _ _ (told c.read_below.ensures c.in-Value.is) _ (sym c.in-At.is ∙ c.read_encoding.ensures)

pub returns-in-Refused-read_encoding : goal.returns-in-Refused-read_encoding
returns-in-Refused-read_encoding c = encoding_cut c.args.frame _ _ _ _ (told c.read_below.ensures c.in-Value.is) _ _ (sym c.in-Refused-read_encoding.is ∙ c.read_encoding.ensures) _

pub returns-in-Refused : goal.returns-in-Refused
returns-in-Refused c = head_cut c.args.frame _ _ _ _ (told c.read_below.ensures c.in-Refused.is) _
