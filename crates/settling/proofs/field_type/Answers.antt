use Rattle.settling.proofs.Ended.{at_end, not_stopped}
use Rattle.slot.proofs.Whole.{field_parts_lem}
use Rattle.settling.proofs.Encodings.{code_at}
use Rattle.settling.proofs.field_type.Goals as goal

pub returns-in-At : goal.returns-in-At
returns-in-At c = λ ed x end q. code_at _ _ _ _ _ _ q (at_end _ c.skip_below.ensures (field_parts_lem _ _ _ _ _ _ q).name_read c.in-At.is) c.read_coded.ensures

pub returns-in-Refused : goal.returns-in-Refused
returns-in-Refused c = λ ed x end q. absurd (not_stopped _ c.skip_below.ensures (field_parts_lem _ _ _ _ _ _ q).name_read c.in-Refused.is)
