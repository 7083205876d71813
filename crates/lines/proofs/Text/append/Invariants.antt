use lib.ListN.{take}
use Rattle.lines.specs.Growing.{Grows}
use Rattle.lines.proofs.Text.append.Given as goal

abbrev pub invariant-loop-byte : goal.invariant-loop-byte
invariant-loop-byte l = Grows l.initial.self (take l.byte-index l.text) l.self
