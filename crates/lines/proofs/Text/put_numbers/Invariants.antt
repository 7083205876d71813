use lib.ListN.{take}
use Rattle.lines.specs.Lines.{spaced}
use Rattle.lines.specs.Growing.{Grows}
use Rattle.lines.proofs.Text.put_numbers.Given as goal

abbrev pub invariant-loop-number : goal.invariant-loop-number
invariant-loop-number l = Grows l.initial.self (spaced (take l.number-index l.numbers)) l.self
