-- The findings that were gone over have their lines.
use Prim.Native.Nat.{◌+◌}
use mathlib.Core.Path.{◌≡◌}
use lib.ListN.{length}
use Rattle.std.specs.Iterator.Adapters.{take_source, take_count}
use Rattle.std.specs.Slice.Iter.{chunks_exact_rest, chunks_exact_size}
use Rattle.lines.specs.Lines.{found_lines}
use Rattle.lines.specs.Growing.{Grows}
use Rattle.lines.proofs.Chunks.{Left}
use Rattle.lines.proofs.Text.put_findings.Given as goal

abbrev pub invariant-loop-finding : goal.invariant-loop-finding
invariant-loop-finding l = let chunks = take_source l.finding-iterator in record {
  six : chunks_exact_size chunks ≡ 6;
  spare : length l.yielded + take_count l.finding-iterator ≡ l.count;
  left : Left 6 l.findings (length l.yielded) (chunks_exact_rest chunks);
  lines : Grows l.initial.self (found_lines (length l.yielded) l.findings) l.self;
}
