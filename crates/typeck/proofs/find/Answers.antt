use mathlib.Core.Path.{sym, ◌∙◌}
use mathlib.Core.Bool.{true≢false}
use Rattle.order.proofs.Ranks.{none_in_order}
use Rattle.conformance.proofs.Having.{none_lacking}
use Rattle.typeck.proofs.Saying.{nothing_found}
use Rattle.typeck.proofs.find.Goals as goal

pub has_impls-impls-requires : goal.has_impls-impls-requires
has_impls-impls-requires c = c.requires.0

pub is_ordered-requires : goal.is_ordered-requires
is_ordered-requires c = c.requires.0

pub search-requires : goal.search-requires
search-requires c = record { promise = c.requires.0; blank = c.requires.1; order = λ e. sym c.is_ordered.ensures ∙ c.if-is_ordered.true; none = λ e. absurd (true≢false e) }

pub returns-then-is_ordered : goal.returns-then-is_ordered
returns-then-is_ordered c = nothing_found _ _ _ (none_in_order _ (sym c.is_ordered.ensures ∙ c.if-is_ordered.true) _) (none_lacking _ _ _ (sym c.has_impls-impls.ensures ∙ c.if-impls.false)) c.requires.1

pub search-requires-2 : goal.search-requires-2
search-requires-2 c = record { promise = c.requires.0; blank = c.requires.1; order = λ e. absurd (true≢false (sym e)); none = λ e. sym c.has_impls-impls.ensures ∙ e }
