use Rattle.slot.proofs.FourBytes.{is_short_lem, long_name, no_name, nested_encoding, other_kind}
use Rattle.slot.proofs.short_of.Goals as goal

pub returns-then-number-short_limit : goal.returns-then-number-short_limit
returns-then-number-short_limit c = is_short_lem _ _ _ _ _ c.if-name-lt128.true c.if-name-names.true c.if-encoding-lt3.true _ c.short_limit.ensures c.if-number-short_limit.true

pub returns-else-number-short_limit : goal.returns-else-number-short_limit
returns-else-number-short_limit c = other_kind _ _ _ _ _ c.if-name-lt128.true c.if-name-names.true c.if-encoding-lt3.true _ c.short_limit.ensures c.if-number-short_limit.false

pub returns-else-encoding-lt3 : goal.returns-else-encoding-lt3
returns-else-encoding-lt3 c = nested_encoding _ _ _ _ _ c.if-name-lt128.true c.if-name-names.true c.if-encoding-lt3.false

pub returns-else-name-names : goal.returns-else-name-names
returns-else-name-names c = no_name _ _ _ _ _ c.if-name-lt128.true c.if-name-names.false

pub returns-else-name-lt128 : goal.returns-else-name-lt128
returns-else-name-lt128 c = long_name _ _ _ _ _ c.if-name-lt128.false
