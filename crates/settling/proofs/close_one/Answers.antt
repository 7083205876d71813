use Rattle.settling.proofs.close_one.Goals as goal

pub returns-in-6 : goal.returns-in-6
returns-in-6 c = record { array = λ e. c.repeat_element.ensures; wrap = λ n. absurd (n c.in-6.is) }

pub returns-in_default : goal.returns-in_default
returns-in_default c = record { array = λ e. absurd (c.in_default.in_default-own.rest.1 e); wrap = λ n. c.wrap_child.ensures }
