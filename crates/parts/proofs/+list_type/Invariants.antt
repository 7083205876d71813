use Rattle.parts.proofs.+list_type.Given as goal

abbrev pub decreases-list_type : goal.decreases-list_type
decreases-list_type l = l.levels
