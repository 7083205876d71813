use borrow.Author.Rules.{rules}
use native.Mathlib.Omega.{arith}
use Prim.Native.Nat.{ℕ}
use lib.ListN.{length-replicate}
use Rattle.findings.proofs.Adding.{adds_kept}
use Rattle.view.proofs.Taking.{takes}
use mathlib.Core.Bool.{cond}
use mathlib.Core.List.{[], ◌∷◌}
use Rattle.findings.specs.Adding.{Adds}
use Rattle.conformance.specs.Adding.{own_finding}
use Rattle.conformance.proofs.Required.{finds_hold, at_start, at_end, sought, found_not_added, lacking_added, going_on}
use Rattle.conformance.proofs.check_required_fields.Goals as goal
use Rattle.conformance.proofs.check_required_fields.Goals.{then-not-searched, else-not-searched}

pub loop-k-init : goal.loop-k-init
loop-k-init c = (length-replicate {A = ℕ} 4096 0, λ x. at_start _ _ _ _ _ _ _ _ x _)

pub search_field-searched-requires : goal.search_field-searched-requires
search_field-searched-requires c = sought _ _ _ _ _ _ _ _ _ _ _ _ _ _ c.loop-k-test.true _ _ (takes _ _ c.take-name.ensures) c.loop-k.invariant.0 _ (finds_hold _ _ _ c.requires.paired.promise _ c.read_finds.ensures) _ _ (takes _ _ c.take-fields.ensures) c.requires (c.loop-k.invariant.1 c.requires)

pub add_finding-n-requires : goal.add_finding-n-requires
add_finding-n-requires c = omega (arith, (c.loop-k.invariant.1 c.requires).adds.few, (c.loop-k.invariant.1 c.requires).low, c.requires.paired.before, c.requires.paired.trait_is.few)

pub loop-k-preserved : goal.loop-k-preserved
loop-k-preserved c =
    let found = c.search_field-searched.ensures in
    let added : Adds 1 c.loop-k.findings c.if-not-searched.findings c.loop-k.n c.if-not-searched.n (cond c.search_field-searched.result.found [] (own_finding 4 c.args.slot c.args.impl_def c.loop-k.k ∷ [])) = elim c.if-not-searched.branch [ then-not-searched w ↦ lacking_added _ w.if-not-searched.true w.own_finding.ensures w.findings-is w.n-is w.add_finding-n.ensures | else-not-searched w ↦ found_not_added _ _ w.if-not-searched.false w.findings-is w.n-is ] in
    (search rules, λ x. going_on _ _ _ _ _ _ _ _ _ _ _ _ _ _ c.loop-k-test.true _ _ (takes _ _ c.take-name.ensures) c.loop-k.invariant.0 _ (finds_hold _ _ _ c.requires.paired.promise _ c.read_finds.ensures) _ _ (takes _ _ c.take-fields.ensures) _ found.found _ _ found.look_ups _ found.table _ _ added x (c.loop-k.invariant.1 x))

pub shape_of-findings : goal.shape_of-findings
shape_of-findings c = adds_kept (c.loop-k.invariant.1 c.requires).adds

pub returns : goal.returns
returns c = λ x. at_end _ _ _ _ _ _ _ _ x _ _ _ _ _ _ (c.loop-k.invariant.1 x) (omega (arith, c.loop-k-test.false))
