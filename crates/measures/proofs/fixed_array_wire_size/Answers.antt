use Rattle.measures.proofs.fixed_array_wire_size.Goals as goal

pub returns : goal.returns
returns c = simp (c.multiply_wire_size.ensures, c.drop_largest.ensures)
