use Rattle.sizes.specs.Sizes.{wrap_size, then}
use Rattle.measures.specs.Heads.{wrap_of}
use Rattle.measures.proofs.ByKind.{wrap_rest}
use Rattle.measures.proofs.wrap_wire_size.Goals as goal

pub returns-in-4 : goal.returns-in-4
unfolding wrap_size then wrap_of
returns-in-4 c = rw c.in-4.is c.optional_wire_size.ensures

pub returns-in-10 : goal.returns-in-10
unfolding wrap_size then wrap_of
returns-in-10 c = rw c.in-10.is c.multiply_wire_size.ensures

pub returns-in-11 : goal.returns-in-11
unfolding wrap_size then wrap_of
returns-in-11 c = rw c.in-11.is c.multiply_wire_size-in-11.ensures

pub returns-in-12 : goal.returns-in-12
unfolding wrap_size then wrap_of
returns-in-12 c = rw c.in-12.is c.multiply_wire_size-in-12.ensures

pub returns-in-13 : goal.returns-in-13
unfolding wrap_size then wrap_of
returns-in-13 c = rw c.in-13.is c.multiply_wire_size-in-13.ensures

pub returns-in-14 : goal.returns-in-14
unfolding wrap_size then wrap_of
returns-in-14 c = rw c.in-14.is c.multiply_wire_size-in-14.ensures

pub returns-in-15 : goal.returns-in-15
unfolding wrap_size then wrap_of
returns-in-15 c = rw c.in-15.is c.multiply_wire_size-in-15.ensures

pub returns-in_default : goal.returns-in_default
unfolding wrap_size
returns-in_default c = rw (wrap_rest _ c.in_default.in_default-own.rest.0.0.0.0.0.0.1 c.in_default.in_default-own.rest.0.0.0.0.0.1 c.in_default.in_default-own.rest.0.0.0.0.1 c.in_default.in_default-own.rest.0.0.0.1 c.in_default.in_default-own.rest.0.0.1 c.in_default.in_default-own.rest.0.1 c.in_default.in_default-own.rest.1)
