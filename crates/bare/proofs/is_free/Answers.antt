use Rattle.bare.proofs.Ordering.{free_is}
use Rattle.bare.proofs.is_free.Goals as goal

pub returns : goal.returns
returns c =
    let p = c.requires in
    free_is _ _ _ _ p.count p.few c.mark_bare.ensures c.has_order.ensures
