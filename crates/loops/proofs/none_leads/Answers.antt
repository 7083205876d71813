-- Each slot is asked, up to the first that is of the kind. Assumes nothing.
use mathlib.Core.Path.{◌≡◌, refl}
use mathlib.Core.Bool.{true, false}
use Rattle.std.proofs.Common.{arith, rules, tests}
use Rattle.std.proofs.lemmas.Iterator.{cases_from_any, YieldsList-from_range}
use Rattle.view.specs.Part.{part_at}
use Rattle.loops.specs.Marks.{part_leads}
use Rattle.loops.proofs.Leading.{none_found}
use Rattle.loops.proofs.none_leads.Goals as goal

pub returns : goal.returns
returns c =
    λ ed names p.
    none_found c.args.sort ed names c.args.count c.args.image.now c.args.starts.now p c.any.result
    (cases_from_any _ _ _
    (λ i. part_leads c.args.sort (part_at c.args.image.now c.args.starts.now i) ≡ true)
    (λ i. part_leads c.args.sort (part_at c.args.image.now c.args.starts.now i) ≡ false)
    c.any.ensures.ran (YieldsList-from_range 0 c.args.count c.args.count refl (omega arith))
    (λ i q k. search (rules, tests)) (λ i q k. search (rules, tests)))
