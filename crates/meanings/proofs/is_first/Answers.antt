use Rattle.number.proofs.Reading.{told}
use Rattle.meanings.proofs.Arguments.{no_count, none_counted, first_here, first_refused}
use Rattle.meanings.proofs.is_first.Goals as goal

pub returns-in-Value-eq0-default : goal.returns-in-Value-eq0-default
returns-in-Value-eq0-default c = none_counted _ _ _ _ _ _ (told c.read_below.ensures c.in-Value-eq0-default.is) c.in-Value-eq0-default.field-0-test

pub returns-in-Value-read_below : goal.returns-in-Value-read_below
returns-in-Value-read_below c = first_here _ _ _ _ _ _ (told c.read_below.ensures c.in-Value.is) c.in-Value.field-0-test.1 _ _ (told c.read_below-in-Value.ensures c.in-Value-read_below.is)

pub returns-in-Refused-read_below : goal.returns-in-Refused-read_below
returns-in-Refused-read_below c = first_refused _ _ _ _ _ _ (told c.read_below.ensures c.in-Value.is) c.in-Value.field-0-test.1 _ _ (told c.read_below-in-Value.ensures c.in-Refused-read_below.is)

pub returns-in-Refused : goal.returns-in-Refused
returns-in-Refused c = no_count _ _ _ _ _ _ (told c.read_below.ensures c.in-Refused.is)
