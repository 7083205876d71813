use native.Mathlib.Omega.{arith}
use mathlib.Core.Path.{refl}
use borrow.Author.Rules.{rules}
use borrow.Author.Tests.{tests}
use mathlib.Core.Bool.{true, false}
use Rattle.reader.specs.Reading.{schema_of}
use Rattle.std.proofs.lemmas.Iterator.{cases_from_any, YieldsList-from_range}
use Rattle.conformance.proofs.Having.{IsImpl, has_from_any}
use Rattle.conformance.proofs.has_impls.Goals as goal

pub returns : goal.returns
returns c =
    let f = c.args.frame in
    let S = schema_of f.edition c.args.image.now in
    has_from_any S f.slots c.requires.count c.any.result
    (cases_from_any _ _ _ (IsImpl S f.slots true) (IsImpl S f.slots false) c.any.ensures.ran (YieldsList-from_range 0 f.slots f.slots refl (omega arith)) (λ x q k. search (rules, tests)) (λ x q k. search (rules, tests)))
