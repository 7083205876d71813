use mathlib.Core.Path.{sym, ◌∙◌}
use Rattle.reader.specs.Reading.{schema_of}
use Rattle.rows.proofs.Storing.{none_yet, found_here, not_here, nowhere}
use Rattle.rows.proofs.lowest_stored.Goals as goal

pub loop-i-init : goal.loop-i-init
loop-i-init c = let a = c.args in none_yet (schema_of a.frame.edition a.image.now) _ (sym c.requires.count)

pub returns-then-brings_size : goal.returns-then-brings_size
returns-then-brings_size c = found_here _ _ _ c.loop-i.invariant c.loop-i-test.true (sym (c.brings_size.ensures _ c.requires c.loop-i-test.true) ∙ c.if-brings_size.true)

pub loop-i-preserved : goal.loop-i-preserved
loop-i-preserved c = not_here _ _ _ c.loop-i.invariant c.loop-i-test.true (sym (c.brings_size.ensures _ c.requires c.loop-i-test.true) ∙ c.if-brings_size.false)

pub returns : goal.returns
returns c = nowhere _ _ _ c.loop-i.invariant c.loop-i-test.false
