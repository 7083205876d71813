use Rattle.measures.proofs.widen.Goals as goal

pub returns : goal.returns
returns c = simp (c.vary.ensures, c.greater_bound.ensures, c.wire_size_max_bits-2.ensures, c.wire_size_max_bits.ensures, c.lesser.ensures, c.wire_size_min_bits-2.ensures, c.wire_size_min_bits.ensures)
