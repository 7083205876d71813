use Rattle.number.proofs.Reading.{told}
use Rattle.meanings.proofs.Arguments.{in_names, names_not}
use Rattle.meanings.proofs.argument.Goals as goal

pub returns-in-Value : goal.returns-in-Value
returns-in-Value c = in_names _ _ _ _ _ _ (told c.read_below.ensures c.in-Value.is) _ _ _ c.argument_in.ensures

pub returns-in-Refused : goal.returns-in-Refused
returns-in-Refused c = λ ps ts b. absurd (names_not _ _ _ _ _ (told c.read_below.ensures c.in-Refused.is) ps b.parameters_end b.parameters_read)
