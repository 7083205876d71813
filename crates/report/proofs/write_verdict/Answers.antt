use native.Mathlib.Omega.{arith}
use Rattle.report.proofs.Texts.{accepted_written, refused_written}
use Rattle.report.specs.Text.{text_of}
use Rattle.report.proofs.write_verdict.Goals as goal

pub returns-in-Accepted : goal.returns-in-Accepted
unfolding text_of
returns-in-Accepted c =
    accepted_written _ _ _ _ _ _ _ c.in-Accepted.is
    (record { at = λ i. omega (arith, c.shared_slice_known-1.given i) })
    (record { at = λ i. omega (arith, c.shared_slice_known-2-1.given i) })
    c.write_accepted.ensures

pub returns-in-Refused : goal.returns-in-Refused
unfolding text_of
returns-in-Refused c = refused_written _ _ _ _ _ _ _ _ c.in-Refused.is (omega arith) (omega arith) c.write_refused.ensures
