use Rattle.settling.proofs.Elements.{plain_open, plain_limited}
use Rattle.settling.proofs.settle_elements.Goals as goal

pub returns-then-limit-eq0 : goal.returns-then-limit-eq0
returns-then-limit-eq0 c =
    λ f n e.
    let pre = c.requires in
    plain_open f _ _ _ _ pre.0 pre.1 n e c.limit_behind-limit.ensures c.if-limit-eq0.true

pub returns : goal.returns
returns c =
    λ f n e.
    let pre = c.requires in
    plain_limited f _ _ _ _ pre.0 pre.1 n e c.limit_behind-limit.ensures c.if-limit-eq0.false
