-- What edition two adds, and what answers know of it. Two images whose schemas differ in limits that bear on no elements, and in
-- ordinals or bits that keep each highest, are answered alike, by every entry, whatever their editions. So an image of edition two
-- is answered as the one whose retired ones are live; and, where none of its limits bears on elements, as the one of edition one that
-- has them live and no limits. Findings know nothing of limits.
use Rattle.std.specs.Prelude.{ℕ, ◌*◌, ◌≡◌, ltb}
use Rattle.std.proofs.Math.Path.{refl, ap, ap₂}
use Rattle.std.proofs.Common.{sym, ◌∙◌}
use mathlib.Core.List.{List}
use Rattle.std.proofs.Math.Bool.{cond}
use Rattle.std.proofs.Math.ListN.{length, length-map}
use Rattle.table.specs.Fitted.{fitted}
use Rattle.slot.specs.Slot.{Enum, enum, Flags, flags}
use Rattle.slot.specs.declared.Edition.{Edition}
use Rattle.slot.specs.declared.Edition.TheVariants.{One}
use Rattle.graph.specs.Ways.{lowest, if_found}
use Rattle.graph.specs.declared.Lowest.{Lowest}
use Rattle.image.specs.Schema.{Schema, slot_of}
use Rattle.image.specs.Changed.{Change, slot_changed, changed, slot_changed_lem, bare, moved, moved_bare}
use Rattle.image.specs.declared.Frame.{Frame}
use Rattle.reader.specs.Reading.{reading_of, schema_of}
use Rattle.reader.specs.declared.Reading.{Reading}
use Rattle.reader.proofs.Plain.{plain_one}
use Rattle.sizes.specs.declared.Layout.{Layout}
use Rattle.sizes.specs.Widths.{highest, top_of}
use Rattle.sizes.specs.Names.{State}
use Rattle.sizes.specs.Check.{Checked, is_there, stored_slot, check_sizes}
use Rattle.sizes.specs.Check as check
use Rattle.sizes.specs.Changed.{Unlimited, Keeps}
use Rattle.sizes.proofs.Changed.{top_live, brings_changed, sizes_changed, table_changed, moved_keeps, bare_keeps}
use Rattle.turns.specs.Sizing.{layout_of, gated, verdict, worked_in, sizing_in, sizing_of, rows_in, on_sized, table_by, sizes_of}
use Rattle.turns.specs.declared.Entry.{Entry}
use Rattle.turns.specs.declared.Entry.TheVariants.{Ordinary, HeadBoard}
use Rattle.turns.specs.declared.Sizing.{Sizing}
use Rattle.findings.specs.Finding.{noted}
use Rattle.findings.specs.Findings.{findings_of}
use Rattle.findings.proofs.Changed.{findings_changed}
use Rattle.typeck.specs.Check.{judged, verdict_in, verdict_of, on_accepted, size_table, finding_table}
use Rattle.typeck.specs.declared.Verdict.{Verdict}

-- ## A schema that is changed

module _ (c : Change) (S : Schema) (keeps : Keeps c S) where
  slots_changed : length (changed c S).slots ≡ length S.slots
  unfolding changed
  slots_changed = length-map S.slots (slot_changed c)

  rows_changed : (k : Checked) → rows_in (changed c S) k ≡ rows_in S k
  rows_changed (check.accepted st) = table_changed c S keeps st
  rows_changed (check.refused o i) = refl

  stored_changed : stored_slot (changed c S) ≡ stored_slot S
  unfolding stored_slot
  stored_changed = ap₂ (λ (n : ℕ) (st : State). lowest (λ i. is_there (st i)) n 0) slots_changed (brings_changed c S)

  gated_changed : (E : Entry) (z : Sizing) → gated E (changed c S) z ≡ gated E S z
  unfolding gated
  gated_changed Ordinary z = refl
  gated_changed HeadBoard z = ap (λ (l : Lowest). if_found (Sizing.Refused 15) l z) stored_changed

  worked_changed : (L : Layout) (p : ℕ) → worked_in L p (changed c S) ≡ worked_in L p S
  unfolding worked_in
  worked_changed L p =
      ap₂ (λ (n : ℕ) (k : Checked). cond (ltb p (3 * n)) (Sizing.Refused 10 0) (verdict k)) slots_changed (sizes_changed c S keeps L)

  -- the sizes of an image that is read
  sizing_changed : (E : Entry) (p : ℕ) (f g : Frame) → sizing_in E p (changed c S) (Reading.Accepted f) ≡ sizing_in E p S (Reading.Accepted g)
  unfolding sizing_in
  sizing_changed E p f g =
      gated_changed E _ ∙ ap (gated E S) (worked_changed (layout_of E) p)

  table_by_changed : (L : Layout) (p : ℕ) (z : Sizing) → table_by L p (changed c S) z ≡ table_by L p S z
  table_by_changed L p z =
      ap (λ (k : Checked). fitted p (on_sized z (rows_in (changed c S) k))) (sizes_changed c S keeps L)
      ∙ ap (λ (l : List ℕ). fitted p (on_sized z l)) (rows_changed (check_sizes L S))

  verdict_changed : (q : ℕ) (z : Sizing) → verdict_in q (changed c S) z ≡ verdict_in q S z
  unfolding verdict_in judged
  verdict_changed q (Sizing.Refused r p) = refl
  verdict_changed q Sizing.Accepted =
      ap (λ l. cond (ltb q (6 * length l)) (Verdict.Refused 12 0) (Verdict.Accepted (length l))) (findings_changed c S)

-- ## Images

-- two images with one answer and the same tables
pub record Alike (E : Entry) (p q : ℕ) (ed : Edition) (s : List ℕ) (ed' : Edition) (s' : List ℕ) : Type 0 where
  pub answer : verdict_of E ed p q s ≡ verdict_of E ed' p q s'
  pub sizes : size_table E ed p q s ≡ size_table E ed' p q s'
  pub findings : finding_table E ed p q s ≡ finding_table E ed' p q s'

-- both are read
module _ (E : Entry) (p q : ℕ) (ed ed' : Edition) (s s' : List ℕ) (f f' : Frame) (reads : reading_of ed s ≡ Reading.Accepted f) (reads' : reading_of ed' s' ≡ Reading.Accepted f') where
  -- and the schema of the first is that of the second, changed
  module _ (c : Change) (keeps : Keeps c (schema_of ed' s')) (same : schema_of ed s ≡ changed c (schema_of ed' s')) where
    abbrev S : Schema
    S = schema_of ed' s'

    sizing_alike : sizing_of E ed p s ≡ sizing_of E ed' p s'
    unfolding sizing_of
    sizing_alike = ap₂ (sizing_in E p) same reads ∙ sizing_changed c S keeps E p f f' ∙ ap (sizing_in E p S) (sym reads')

    sizes_alike : sizes_of E ed p s ≡ sizes_of E ed' p s'
    unfolding sizes_of
    sizes_alike = ap₂ (table_by (layout_of E) p) same sizing_alike ∙ table_by_changed c S keeps (layout_of E) p (sizing_of E ed' p s')

    answer_alike : verdict_of E ed p q s ≡ verdict_of E ed' p q s'
    unfolding verdict_of
    answer_alike = ap₂ (verdict_in q) same sizing_alike ∙ verdict_changed c S keeps q (sizing_of E ed' p s')

    pub answered_alike : Alike E p q ed s ed' s'
    unfolding size_table finding_table
    answered_alike =
        record {
          answer = answer_alike;
          sizes = ap₂ (λ (v : Verdict) (t : List ℕ). on_accepted v p t) answer_alike sizes_alike;
          findings = ap₂ (λ (v : Verdict) (T : Schema). on_accepted v q (noted q (findings_of T))) answer_alike same
              ∙ ap (λ l. on_accepted (verdict_of E ed' p q s') q (noted q l)) (findings_changed c S);
        }

  -- the retired ones of the second are live in the first
  pub answered_as_moved : schema_of ed s ≡ changed moved (schema_of ed' s') → Alike E p q ed s ed' s'
  answered_as_moved = answered_alike moved (moved_keeps (schema_of ed' s'))

  -- and the first has no limits, so that it may be of edition one, where those of the second bear on no elements
  pub answered_as_one : Unlimited (schema_of ed' s') → schema_of ed s ≡ changed moved_bare (schema_of ed' s') → Alike E p q ed s ed' s'
  answered_as_one free = answered_alike moved_bare (bare_keeps (schema_of ed' s') free)

-- ## Edition one

module _ (s : List ℕ) (i : ℕ) where
  slot_plain : slot_changed bare (slot_of (schema_of One s) i) ≡ slot_of (schema_of One s) i
  slot_plain = sym (slot_changed_lem bare (schema_of One s) i) ∙ ap (λ (T : Schema). slot_of T i) (plain_one s)

  -- an enum's width goes by its live ordinals alone, as in the Rust
  pub enum_by_live : (e : Enum) → slot_of (schema_of One s) i ≡ enum e → top_of e.ordinals ≡ highest 0 e.ordinals.live
  unfolding slot_changed
  enum_by_live e q = top_live e.ordinals (ap (λ (y : Enum). y.ordinals.retired) (held (sym (rw q at slot_plain))))
    where
      held : {y : Enum} → enum e ≡ enum y → e ≡ y
      held r = cc

  -- and that of flags by their live bits
  pub flags_by_live : (g : Flags) → slot_of (schema_of One s) i ≡ flags g → top_of g.bits ≡ highest 0 g.bits.live
  unfolding slot_changed
  flags_by_live g q = top_live g.bits (ap (λ (y : Flags). y.bits.retired) (held (sym (rw q at slot_plain))))
    where
      held : {y : Flags} → flags g ≡ flags y → g ≡ y
      held r = cc
