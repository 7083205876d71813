use Rattle.reader.proofs.Judging.{accepted_table, refused_table}
use Rattle.reader.proofs.read_edition.Goals as goal

pub returns-in-Accepted : goal.returns-in-Accepted
returns-in-Accepted c = accepted_table _ _ _ _ _ c.read_into.ensures c.in-Accepted.is

pub returns-in-Refused : goal.returns-in-Refused
returns-in-Refused c = refused_table _ _ _ _ _ _ c.read_into.ensures c.in-Refused.is
