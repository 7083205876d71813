use Rattle.std.proofs.Common.{rules}
use Rattle.lines.proofs.Pieces.{refused_text_lem}
use Rattle.lines.proofs.write_refused.Goals as goal

pub returns : goal.returns
returns c = let h = refused_text_lem _ _ c.new-text.ensures.text c.put_line.ensures in search (rules, h)
