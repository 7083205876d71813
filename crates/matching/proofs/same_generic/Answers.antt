use mathlib.Core.Path.{sym, ◌∙◌}
use Rattle.meanings.proofs.Ended.{alias_ranked}
use Rattle.matching.proofs.Walk.{generic_id, generic_cut, generic_not}
use Rattle.matching.proofs.same_generic.Goals as goal

pub returns-in-At : goal.returns-in-At
returns-in-At c = generic_id _ _ _ _ _ _ _ (alias_ranked _ _ _ c.requires.ready.promise) _ c.name_of.ensures _ _ _ c.in-Id.is (sym c.in-At.is ∙ c.read_tree.ensures) c.same_id.ensures

pub returns-in-Refused : goal.returns-in-Refused
returns-in-Refused c = generic_cut _ _ _ _ _ _ _ (alias_ranked _ _ _ c.requires.ready.promise) _ c.name_of.ensures _ _ _ (sym c.in-Refused.is ∙ c.read_tree.ensures)

pub returns-in-NotName : goal.returns-in-NotName
returns-in-NotName c = generic_not _ _ _ _ _ _ _ (alias_ranked _ _ _ c.requires.ready.promise) _ c.name_of.ensures _ c.in-NotName.is
