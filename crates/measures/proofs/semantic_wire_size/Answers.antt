use Rattle.sizes.specs.Sizes.{semantic_bits}
use Rattle.measures.proofs.Spans.{semantic_rest}
use Rattle.measures.proofs.semantic_wire_size.Goals as goal

pub returns-in-2 : goal.returns-in-2
unfolding semantic_bits
returns-in-2 c = simp c.in-2.is

pub returns-in-3 : goal.returns-in-3
unfolding semantic_bits
returns-in-3 c = simp c.in-3.is

pub returns-in-4 : goal.returns-in-4
unfolding semantic_bits
returns-in-4 c = simp c.in-4.is

pub returns-in-5 : goal.returns-in-5
unfolding semantic_bits
returns-in-5 c = simp c.in-5.is

pub returns-in_default : goal.returns-in_default
returns-in_default c = semantic_rest _ c.in_default.in_default-own.rest.0.0.0.1 c.in_default.in_default-own.rest.0.0.1 c.in_default.in_default-own.rest.0.1 c.in_default.in_default-own.rest.1
