use mathlib.Core.Path.{sym, ◌∙◌}
use Rattle.image.proofs.Framing.{big, no_names, no_slots, image_read}
use Rattle.image.proofs.read_image.Goals as goal

pub returns-then-image-gt65536 : goal.returns-then-image-gt65536
returns-then-image-gt65536 c =
    let z = big _ _ c.if-image-gt65536.true c.args.starts.now in
    record { answer = z.0; table = z.1 }

pub returns-in-At : goal.returns-in-At
returns-in-At c =
    let z = image_read _ _ c.if-image-gt65536.false _ _ _ _ (sym c.read_front.ensures ∙ c.in-Read.is) _ (sym c.read_slots.ensures.end ∙ c.in-At.is) _ c.read_end.ensures _ _ c.read_slots.ensures.table in
    record { answer = z.0; table = z.1 }

pub returns-in-Refused-read_slots : goal.returns-in-Refused-read_slots
returns-in-Refused-read_slots c =
    let z = no_slots _ _ c.if-image-gt65536.false _ _ _ _ (sym c.read_front.ensures ∙ c.in-Read.is) _ _ (sym c.read_slots.ensures.end ∙ c.in-Refused-read_slots.is) _ _ c.read_slots.ensures.table in
    record { answer = z.0; table = z.1 }

pub returns-in-Refused : goal.returns-in-Refused
returns-in-Refused c =
    let z = no_names _ _ c.if-image-gt65536.false _ _ (sym c.read_front.ensures ∙ c.in-Refused.is) c.args.starts.now in
    record { answer = z.0; table = z.1 }
