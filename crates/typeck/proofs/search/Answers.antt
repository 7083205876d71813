use native.Mathlib.Omega.{arith}
use Rattle.findings.specs.Finding.{rows_of}
use Rattle.typeck.proofs.Saying.{both_noted, no_places, all_found}
use Rattle.typeck.proofs.search.Goals as goal

pub count_endless-endless-requires : goal.count_endless-endless-requires
unfolding rows_of
count_endless-endless-requires c = (record { promise = c.requires.promise; blank = c.requires.blank }, c.requires.order)

pub count_lacking-count-requires : goal.count_lacking-count-requires
count_lacking-count-requires c = (c.requires.promise, c.requires.none, omega (arith, c.count_endless-endless.ensures.most))

pub overflow_mul-count : goal.overflow_mul-count
overflow_mul-count c = omega (arith, c.count_endless-endless.ensures.most, c.count_lacking-count.ensures.few)

pub returns-then-findings-count : goal.returns-then-findings-count
returns-then-findings-count c = no_places _ _ _ _ _ _ _ (both_noted _ _ _ _ _ _ c.count_endless-endless.ensures c.count_lacking-count.ensures) c.if-findings-count.true c.clear.ensures c.clear_findings.ensures

pub returns : goal.returns
returns c = all_found _ _ _ _ _ (both_noted _ _ _ _ _ _ c.count_endless-endless.ensures c.count_lacking-count.ensures) c.if-findings-count.false
