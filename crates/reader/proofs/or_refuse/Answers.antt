use Rattle.reader.proofs.Telling.{refused_at}
use Rattle.reader.proofs.or_refuse.Goals as goal

pub returns-in-At : goal.returns-in-At
returns-in-At c = refused_at _ _ _ _ c.in-At.is
