use mathlib.Core.Path.{refl, ap, ◌∙◌}
use Rattle.wiresize.specs.Asked.{last_in}
use Rattle.wiresize.proofs.Variants.{one_variant, message_told}
use Rattle.level.specs.declared.Tallied.{Tallied}
use Rattle.level.specs.Level.{varied_of}
use Rattle.level.proofs.Variants.{one_variant_nodes}
use Rattle.level.proofs.level_message.Goals as goal

pub level_variants-requires : goal.level_variants-requires
level_variants-requires c =
    let a = c.requires.0 in
    (record { small = a.small; room = a.room; thing = _; end = _; reads = one_variant _ _ _ a.reads }, c.requires.1)

pub returns-in-Sized : goal.returns-in-Sized
returns-in-Sized c =
    let v = c.level_variants.ensures in
    let e = c.in-Sized.is in
    record {
      worked = λ fs end q. (message_told _ _ _ _ _ _ v.varies (ap (λ (r : Tallied). last_in (varied_of r)) e)).worked fs end q _ refl;
      visits = λ fs end q. v.visits _ _ (one_variant _ _ _ q) _ _ _ e ∙ one_variant_nodes fs;
    }

pub returns-in-Over : goal.returns-in-Over
returns-in-Over c =
    let v = c.level_variants.ensures in
    record {
      worked = λ fs end q. (message_told _ _ _ _ _ _ v.varies (ap (λ (r : Tallied). last_in (varied_of r)) c.in-Over.is)).worked fs end q _ refl;
      visits = λ fs end q. refl;
    }
