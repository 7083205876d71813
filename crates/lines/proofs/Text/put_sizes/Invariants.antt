-- The slots that were gone over have their lines.
use mathlib.Core.Path.{◌≡◌}
use Rattle.std.specs.Iterator.Adapters.{enumerate_source, enumerate_count}
use Rattle.std.specs.Slice.Iter.{chunks_exact_rest, chunks_exact_size}
use Rattle.lines.specs.Lines.{size_lines}
use Rattle.lines.specs.Growing.{Grows}
use Rattle.lines.proofs.Chunks.{Left}
use Rattle.lines.proofs.Text.put_sizes.Given as goal

abbrev pub invariant-loop-slot : goal.invariant-loop-slot
invariant-loop-slot l = let chunks = enumerate_source l.slot-iterator in let slot = enumerate_count l.slot-iterator in record {
  three : chunks_exact_size chunks ≡ 3;
  left : Left 3 l.sizes slot (chunks_exact_rest chunks);
  lines : Grows l.initial.self (size_lines slot l.sizes) l.self;
}
