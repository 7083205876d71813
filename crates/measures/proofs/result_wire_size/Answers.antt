use Rattle.measures.proofs.result_wire_size.Goals as goal

pub returns : goal.returns
returns c = simp (c.raise.ensures, c.widen.ensures)
