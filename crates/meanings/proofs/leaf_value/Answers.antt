use Rattle.meanings.proofs.Leaves.{meaning_right, value_itself, value_id, value_type, value_not, value_right}
use Rattle.meanings.proofs.leaf_value.Goals as goal

pub returns-in-Itself : goal.returns-in-Itself
returns-in-Itself c = value_itself _ _ _ _ _ _ _ _ (meaning_right _ _ _ _ _ _ _ _ c.leaf_meaning.ensures) c.in-Itself.is

pub returns-in-Id : goal.returns-in-Id
returns-in-Id c = value_id _ _ _ _ _ _ _ _ (meaning_right _ _ _ _ _ _ _ _ c.leaf_meaning.ensures) _ c.in-Id.is

pub returns-in-Type : goal.returns-in-Type
returns-in-Type c = value_type _ _ _ _ _ _ _ _ (meaning_right _ _ _ _ _ _ _ _ c.leaf_meaning.ensures) _ _ c.in-Type.is (value_right _ _ _ _ c.type_value.ensures)

pub returns-in-NotName : goal.returns-in-NotName
returns-in-NotName c = value_not _ _ _ _ _ _ _ _ (meaning_right _ _ _ _ _ _ _ _ c.leaf_meaning.ensures) c.in-NotName.is
