use mathlib.Core.Bool.{true≢false}
use borrow.Author.Tests.{eqb-false}
use Rattle.number.proofs.Reading.{told}
use Rattle.order.proofs.Leading.{not_name}
use Rattle.order.proofs.is_name.Goals as goal

pub returns-in-Value : goal.returns-in-Value
returns-in-Value c = λ e test names. not_name test names _ _ _ _ (told c.read_below.ensures c.in-Value.is) (eqb-false _ _ e)
