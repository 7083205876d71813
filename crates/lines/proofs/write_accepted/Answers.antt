use Rattle.std.proofs.Common.{rules}
use Rattle.lines.proofs.Pieces.{accepted_text_lem}
use Rattle.lines.proofs.write_accepted.Goals as goal

pub returns : goal.returns
returns c = let h = accepted_text_lem _ _ _ c.new-text.ensures.text c.put_sizes.ensures c.put_findings.ensures c.put_end.ensures in search (rules, h)
