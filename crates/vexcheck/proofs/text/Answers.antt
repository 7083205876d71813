use Rattle.vexcheck.proofs.Writing.{failed_written, image_written}
use Rattle.vexcheck.proofs.text.Goals as goal
use Rattle.vexcheck.proofs.text.Goals.{in-Ok, in-Err}

pub returns : goal.returns
returns c =
    elim c.match-taken.branch [ in-Ok w ↦ rw (w.used-is, w.out-is) (image_written _ c.requires.1 _ _ _ _ _ w.in-Ok.is w.report-used.ensures) | in-Err w ↦ rw (w.used-is, w.out-is) (failed_written _ c.requires.1 _ _ _ _ _ w.in-Err.is w.write_refused-used.ensures) ]
