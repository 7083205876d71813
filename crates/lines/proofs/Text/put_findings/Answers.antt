use native.Mathlib.Omega.{arith}
use mathlib.Core.Path.{◌∙◌}
use Rattle.std.proofs.lemmas.List.{length_push}
use Rattle.lines.proofs.Pieces.{no_findings, finding_more}
use Rattle.lines.proofs.Chunks.{none_gone, one_gone, length_all, all_taken}
use Rattle.lines.proofs.Text.put_findings.Goals as goal

pub loop-finding-init : goal.loop-finding-init
loop-finding-init c =
    rw (c.into_iter-finding-iterator.ensures.into_iter_gives, c.take-finding-items.ensures.source, c.take-finding-items.ensures.count)
    (record { six = c.chunks_exact.ensures.size; spare = omega arith; left = none_gone _ _ _ c.chunks_exact.ensures.rest; lines = no_findings _ _ })

pub loop-finding-preserved : goal.loop-finding-preserved
loop-finding-preserved c =
    let g = c.loop-finding.invariant in
    let s = c.in-Some.ensures.steps in
    let six = s.0.1.1 ∙ g.six in
    rw (length_push c.loop-finding.yielded c.in-Some.finding)
    (record {
      six = s.0.0 ∙ g.six;
      spare = omega (arith, g.spare, s.1);
      left = one_gone g.left _ _ s.0.1.0 six;
      lines = finding_more _ _ _ g.left s.0.1.0 six (cc) g.lines c.put_line.ensures;
    })

pub returns : goal.returns
returns c =
    let g = c.loop-finding.invariant in
    let s = c.in-None.ensures.steps in
    let all = all_taken _ _ _ _ _ g.spare (length_all g.left) (λ h. omega (arith, (s h).1.0, g.six)) in
    rw all at g.lines
