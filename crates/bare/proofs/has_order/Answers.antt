-- Each number is a start.
use Prim.Native.Nat.{ℕ}
use native.Mathlib.Omega.{arith}
use mathlib.Core.Bool.{Bool, true, false}
use lib.ListN.{length-replicate, get_or-replicate}
use Rattle.bare.proofs.Ordering.{none_seen, in_order, leads_back}
use Rattle.bare.proofs.has_order.Goals as goal

pub arrange-requires : goal.arrange-requires
arrange-requires c =
    let p = c.requires in (
      p,
      omega (arith, length-replicate {A = Bool} 512 true, p.few),
      record {
        unseen = none_seen _ p.few;
        stack_long = omega (arith, length-replicate {A = ℕ} 512 0, p.few);
        order_long = omega (arith, length-replicate {A = ℕ} 512 0, p.few);
      },
    )

pub returns-in-Done : goal.returns-in-Done
returns-in-Done c = in_order _ _ _ (λ s h. get_or-replicate 512 s true false (omega (arith, c.requires.few))) _ _ c.arrange.ensures _ c.in-Done.is

pub returns-in-Back : goal.returns-in-Back
returns-in-Back c = leads_back _ _ _ (λ s h. get_or-replicate 512 s true false (omega (arith, c.requires.few))) _ _ c.arrange.ensures _ c.in-Back.is
