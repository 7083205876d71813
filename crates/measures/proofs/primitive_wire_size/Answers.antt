use native.Mathlib.Omega.{arith}
use Rattle.sizes.specs.Sizes.{primitive_bits}
use Rattle.measures.proofs.Spans.{up, primitive_rest}
use Rattle.measures.proofs.primitive_wire_size.Goals as goal

pub returns-in-0 : goal.returns-in-0
unfolding primitive_bits
returns-in-0 c = simp c.in-0.is

pub returns-in-1 : goal.returns-in-1
unfolding primitive_bits
returns-in-1 c = simp c.in-1.is

pub returns-in-2 : goal.returns-in-2
unfolding primitive_bits
returns-in-2 c = simp c.in-2.is

pub returns-in-3 : goal.returns-in-3
unfolding primitive_bits
returns-in-3 c = simp c.in-3.is

pub returns-in-4 : goal.returns-in-4
unfolding primitive_bits
returns-in-4 c = simp c.in-4.is

pub returns-in-5 : goal.returns-in-5
unfolding primitive_bits
returns-in-5 c = simp c.in-5.is

pub returns-in-6 : goal.returns-in-6
unfolding primitive_bits
returns-in-6 c = simp c.in-6.is

pub returns-in-7 : goal.returns-in-7
unfolding primitive_bits
returns-in-7 c = simp c.in-7.is

pub returns-in-8 : goal.returns-in-8
unfolding primitive_bits
returns-in-8 c = simp c.in-8.is

pub returns-in-9 : goal.returns-in-9
unfolding primitive_bits
returns-in-9 c = simp c.in-9.is

pub returns-in-10 : goal.returns-in-10
unfolding primitive_bits
returns-in-10 c = simp c.in-10.is

pub returns-in-11 : goal.returns-in-11
unfolding primitive_bits
returns-in-11 c = simp c.in-11.is

pub returns-in-12 : goal.returns-in-12
unfolding primitive_bits
returns-in-12 c = simp c.in-12.is

pub returns-in_default : goal.returns-in_default
returns-in_default c = primitive_rest _ (up (up (up (up (up (up (up (up (up (up (up (up (up (omega arith) c.in_default.in_default-own.rest.0.0.0.0.0.0.0.0.0.0.0.0.1) c.in_default.in_default-own.rest.0.0.0.0.0.0.0.0.0.0.0.1) c.in_default.in_default-own.rest.0.0.0.0.0.0.0.0.0.0.1) c.in_default.in_default-own.rest.0.0.0.0.0.0.0.0.0.1) c.in_default.in_default-own.rest.0.0.0.0.0.0.0.0.1) c.in_default.in_default-own.rest.0.0.0.0.0.0.0.1) c.in_default.in_default-own.rest.0.0.0.0.0.0.1) c.in_default.in_default-own.rest.0.0.0.0.0.1) c.in_default.in_default-own.rest.0.0.0.0.1) c.in_default.in_default-own.rest.0.0.0.1) c.in_default.in_default-own.rest.0.0.1) c.in_default.in_default-own.rest.0.1) c.in_default.in_default-own.rest.1)
