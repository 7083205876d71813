use Rattle.search.proofs.Searching.{compare_asked, type_same, type_differs}
use mathlib.Core.Path.{refl}
use Rattle.search.proofs.is_field.Goals as goal

pub types_compatible-requires : goal.types_compatible-requires
types_compatible-requires c = compare_asked _ _ _ _ _ _ _ c.requires

pub returns-in-Same : goal.returns-in-Same
returns-in-Same c = type_same c.args.frame _ _ _ _ _ refl _ c.types_compatible.ensures _ _ c.in-Same.is

pub returns-in-Differs : goal.returns-in-Differs
returns-in-Differs c = type_differs c.args.frame _ _ _ _ _ refl _ c.types_compatible.ensures c.in-Differs.is
