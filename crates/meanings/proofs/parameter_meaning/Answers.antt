use Rattle.meanings.proofs.Leaves.{table_at, table_none, first_id, first_no_name, not_first}
use Rattle.meanings.proofs.parameter_meaning.Goals as goal

pub returns-then-code-lt2 : goal.returns-then-code-lt2
returns-then-code-lt2 c = table_none _ _ _ _ _ _ c.in-Types.is _ c.place-code.ensures c.if-code-lt2.true _ c.resolve.ensures

pub returns-else-code-lt2 : goal.returns-else-code-lt2
returns-else-code-lt2 c = table_at _ _ _ _ _ _ c.in-Types.is _ c.place-code.ensures c.if-code-lt2.false

pub returns-in-Id : goal.returns-in-Id
returns-in-Id c = first_id _ _ _ _ _ _ _ _ c.in-One.is _ c.is_first.ensures _ c.if-not-is_first.false c.in-Id.is

pub returns-in-NotName : goal.returns-in-NotName
returns-in-NotName c = first_no_name _ _ _ _ _ _ _ _ c.in-One.is _ c.is_first.ensures c.if-not-is_first.false c.in-NotName.is

pub returns-then-not-is_first : goal.returns-then-not-is_first
returns-then-not-is_first c = not_first _ _ _ _ _ _ _ _ c.in-One.is _ c.is_first.ensures _ c.if-not-is_first.true c.resolve-then-not-is_first.ensures
