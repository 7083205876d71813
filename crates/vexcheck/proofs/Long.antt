-- An image that is too long is refused whatever it holds, so that its first 65,537 bytes stand for it. Assumes nothing.
use Rattle.std.proofs.Common.{◌≡◌, ℕ, ◌<◌, List, length, take, arith, sym, ap, ◌∙◌, length-take-le, take_all}
use mathlib.Core.Logic.{by_cases}
use native.Mathlib.Decide.{dec_lt}
use borrow.Author.Tests.{lt-ltb}
use Rattle.slot.specs.declared.Edition.TheVariants.{One}
use Rattle.image.specs.Image.{image_of}
use Rattle.reader.specs.Reading.{reading_of, schema_of}
use Rattle.reader.specs.declared.Reading.{Reading}
use Rattle.turns.specs.Sizing.{sizing_in, sizing_of}
use Rattle.turns.specs.declared.Entry.TheVariants.{Ordinary}
use Rattle.turns.specs.declared.Sizing.{Sizing}
use Rattle.typeck.specs.Check.{verdict_in, verdict_of, size_table, finding_table}
use Rattle.typeck.specs.declared.Verdict.{Verdict}
use Rattle.lines.specs.Lines.{refused_text}
use Rattle.report.specs.Text.{text_of, text_for}

module _ (s : List ℕ) (h : 65536 < length s) where
  long_read : reading_of One s ≡ Reading.Refused 1 0
  unfolding reading_of image_of
  long_read = rw (lt-ltb 65536 (length s) h)

  long_sized : sizing_of Ordinary One 1536 s ≡ Sizing.Refused 1 0
  unfolding sizing_of sizing_in
  long_sized = ap (sizing_in Ordinary 1536 (schema_of One s)) long_read

  long_checked : verdict_of Ordinary One 1536 6000 s ≡ Verdict.Refused 1 0
  unfolding verdict_of verdict_in
  long_checked = ap (verdict_in 6000 (schema_of One s)) long_sized

  pub long_text : text_for s ≡ refused_text 1 0
  unfolding text_for text_of
  long_text = ap (λ (v : Verdict). text_of v (size_table Ordinary One 1536 6000 s) (finding_table Ordinary One 1536 6000 s)) long_checked

pub as_whole : (places : ℕ) (s : List ℕ) → 65536 < places → text_for (take places s) ≡ text_for s
as_whole places s h =
    by_cases (dec_lt places (length s))
    (λ l.
    let e : length (take places s) ≡ places = length-take-le places s (omega arith) in
    long_text (take places s) (omega arith) ∙ sym (long_text s (omega arith)))
    (λ l. ap text_for (take_all places s (omega arith)))
