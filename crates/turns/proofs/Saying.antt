-- From the turns to the answer and the table that the caller holds. Assumes nothing.
use Prim.Native.Nat.{ℕ, ◌*◌, ◌≤◌, ◌<◌}
use mathlib.Core.Path.{◌≡◌, refl, sym, ap, subst, ◌∙◌}
use mathlib.Core.List.{List, []}
use native.Mathlib.Omega.{arith}
use lib.ListN.{length}
use lib.Seq.{sets}
use borrow.Author.Tests.{lt-ltb, le-ltb}
use Rattle.graph.specs.Ways.{if_found}
use Rattle.graph.specs.declared.Lowest.{Lowest}
use Rattle.image.specs.Schema.{Schema}
use Rattle.image.specs.declared.Frame.{Frame}
use Rattle.reader.specs.Reading.{reading_of, schema_of}
use Rattle.reader.specs.declared.Reading.{Reading}
use Rattle.sizes.specs.declared.Operation.{Operation}
use Rattle.sizes.specs.declared.Layout.{Layout}
use Rattle.sizes.specs.Sizes.{refusal_of}
use Rattle.sizes.specs.Check.{Checked, check_sizes, stored_slot, table_of}
use Rattle.sizes.specs.Check as check
use Rattle.sizes.specs.Demand.{Demand3}
use Rattle.sizes.proofs.Whole.{demand3}
use Rattle.rows.proofs.Table.{table_length}
use Rattle.wiresize.proofs.Ends.{names_obey}
use Rattle.table.specs.Fitted.{fitted}
use Rattle.turns.specs.Sizing.{layout_of, gated, verdict, worked_in, sizing_in, sizing_of, rows_in, table_by, sizes_of, Answered, SizesSaid, Through}
use Rattle.turns.specs.declared.Entry.{Entry}
use Rattle.turns.specs.declared.Entry.TheVariants.{Ordinary, HeadBoard}
use Rattle.turns.specs.declared.Sizing.{Sizing}
use Rattle.std.specs.Prelude.{Result, Ok, ⊤}
use Rattle.table.proofs.Fitting.{fitted_front, written_on}
use Rattle.slot.specs.declared.Edition.{Edition}

not_accepted : {n p : ℕ} → Sizing.Refused n p ≡ Sizing.Accepted → ⊥
not_accepted e = let z : ◌≡◌ {A = ℕ} 0 1 = cc in omega arith

-- ## Gates

module _ (E : Entry) (S : Schema) where
  -- what is refused before sizes, whatever comes after
  pub gate_shut : (n p : ℕ) → gated E S Sizing.Accepted ≡ Sizing.Refused n p → (after : Sizing) → Sizing.Refused n p ≡ gated E S after
  unfolding gated
  gate_shut n p e after = by_entry E e
    where
      by_place : (l : Lowest) → if_found (Sizing.Refused 15) l Sizing.Accepted ≡ Sizing.Refused n p → Sizing.Refused n p ≡ if_found (Sizing.Refused 15) l after
      by_place (Lowest.At x) q = sym q
      by_place Lowest.Nowhere q = absurd (not_accepted (sym q))

      by_entry : (E : Entry) → gated E S Sizing.Accepted ≡ Sizing.Refused n p → Sizing.Refused n p ≡ gated E S after
      by_entry Ordinary q = absurd (not_accepted (sym q))
      by_entry HeadBoard q = by_place (stored_slot S) q

  pub gate_open : gated E S Sizing.Accepted ≡ Sizing.Accepted → (after : Sizing) → after ≡ gated E S after
  unfolding gated
  gate_open e after = by_entry E e
    where
      by_place : (l : Lowest) → if_found (Sizing.Refused 15) l Sizing.Accepted ≡ Sizing.Accepted → after ≡ if_found (Sizing.Refused 15) l after
      by_place (Lowest.At x) q = absurd (not_accepted q)
      by_place Lowest.Nowhere q = refl

      by_entry : (E : Entry) → gated E S Sizing.Accepted ≡ Sizing.Accepted → after ≡ gated E S after
      by_entry Ordinary q = refl
      by_entry HeadBoard q = by_place (stored_slot S) q

  -- by the code's steps
  pub gate_ordinary : E ≡ Ordinary → Sizing.Accepted ≡ gated E S Sizing.Accepted
  unfolding gated
  gate_ordinary e = rw e

  module _ (e : E ≡ HeadBoard) (l : Lowest) (q : l ≡ stored_slot S) where
    pub gate_at : (x : ℕ) → l ≡ Lowest.At x → Sizing.Refused 15 x ≡ gated E S Sizing.Accepted
    unfolding gated
    gate_at x a = rw (e, ← q, a)

    pub gate_nowhere : l ≡ Lowest.Nowhere → Sizing.Accepted ≡ gated E S Sizing.Accepted
    unfolding gated
    gate_nowhere a = rw (e, ← q, a)

-- ## The answer

module _ (L : Layout) (S : Schema) (before after : List ℕ) where
  -- refusal 10
  pub few_places : length before < 3 * length S.slots → after ≡ fitted (length before) []
      → SizesSaid L S (worked_in L (length before) S) before after (Sizing.Refused 10 0)
  unfolding worked_in
  few_places h e = record { answers = simp (lt-ltb _ _ h); table = e; demand = λ q. absurd (not_accepted q) }

  module _ (h : 3 * length S.slots ≤ length before) where
    -- refusals 11 and 14
    pub passed_limit : (o : Operation) (i m n : ℕ) → m ≡ refusal_of o → n ≡ length before → check_sizes L S ≡ check.refused o i → after ≡ fitted n []
        → SizesSaid L S (worked_in L (length before) S) before after (Sizing.Refused m i)
    unfolding worked_in
    passed_limit o i m n x l c e =
        record {
          answers = ap (λ (k : ℕ). Sizing.Refused k i) x ∙ simp (le-ltb _ _ h) (sym (ap verdict c));
          table = e ∙ ap (λ (k : ℕ). fitted k []) l;
          demand = λ q. absurd (not_accepted q);
        }

    -- the table
    pub all_passed : (zeros : List ℕ) → zeros ≡ fitted (length before) [] → Through L S zeros after (Ok tt)
        → SizesSaid L S (worked_in L (length before) S) before after Sizing.Accepted
    unfolding worked_in
    all_passed zeros e t =
        let st = t.0 in
        let n = table_length S st in
        let w : after ≡ fitted (length before) (table_of S st) =
        t.2 ∙ ap (λ (l : List ℕ). sets l 0 (table_of S st)) e ∙ written_on (length before) [] (table_of S st) in
        let r = fitted_front (length before) (table_of S st) (omega arith) in
        record {
          answers = simp (le-ltb _ _ h) (sym (ap verdict t.1));
          table = w ∙ ap (λ (x : Checked). fitted (length before) (rows_in S x)) (sym t.1);
          demand = λ q. subst (λ (l : List ℕ). Demand3 L S l) (sym (w ∙ r.1)) (demand3 L S st t.1 r.0);
        }

-- refused before sizes, or not
module _ (E : Entry) (S : Schema) (before after : List ℕ) where
  -- what is due of its layout
  abbrev due : Layout → Sizing
  due L = worked_in L (length before) S

  pub shut_out : (n p : ℕ) → gated E S Sizing.Accepted ≡ Sizing.Refused n p → after ≡ fitted (length before) []
      → SizesSaid (layout_of E) S (gated E S (due (layout_of E))) before after (Sizing.Refused n p)
  shut_out n p g e = record { answers = gate_shut E S n p g _; table = e; demand = λ q. absurd (not_accepted q) }

  pub let_in : gated E S Sizing.Accepted ≡ Sizing.Accepted → (L : Layout) → L ≡ layout_of E → (r : Sizing) → SizesSaid L S (due L) before after r
      → SizesSaid (layout_of E) S (gated E S (due (layout_of E))) before after r
  let_in g L k r said =
      let d = subst (λ (M : Layout). SizesSaid M S (due M) before after r) k said in
      record { answers = d.answers ∙ gate_open E S g _; table = d.table; demand = d.demand }

-- of an image that was read, or refused by reading
module _ (E : Entry) (ed : Edition) (s before after : List ℕ) where
  pub read_said : (f : Frame) (x : Reading) (r : Sizing) → x ≡ reading_of ed s → x ≡ Reading.Accepted f → f.edition ≡ ed
      → SizesSaid (layout_of E) (schema_of f.edition s) (gated E (schema_of f.edition s) (worked_in (layout_of E) (length before) (schema_of f.edition s))) before after r
      → Answered E ed s before after r
  unfolding sizing_of sizes_of sizing_in
  read_said f x r e q m said =
      let d = subst (λ (y : Edition). SizesSaid (layout_of E) (schema_of y s) (gated E (schema_of y s) (worked_in (layout_of E) (length before) (schema_of y s))) before after r) m said in
      let a : r ≡ sizing_of E ed (length before) s = d.answers ∙ ap (sizing_in E (length before) (schema_of ed s)) (sym q ∙ e) in
      record {
        answer = a;
        table = d.table ∙ ap (table_by (layout_of E) (length before) (schema_of ed s)) a;
        demand = d.demand;
        names = names_obey (layout_of E) ed s;
      }

  pub refused_said : (n p : ℕ) (x : Reading) → x ≡ reading_of ed s → x ≡ Reading.Refused n p → after ≡ fitted (length before) [] → Answered E ed s before after (Sizing.Refused n p)
  unfolding sizing_of sizes_of sizing_in
  refused_said n p x e q t =
      let a : Sizing.Refused n p ≡ sizing_of E ed (length before) s = ap (sizing_in E (length before) (schema_of ed s)) (sym q ∙ e) in
      record {
        answer = a;
        table = t ∙ ap (table_by (layout_of E) (length before) (schema_of ed s)) a;
        demand = λ z. absurd (not_accepted z);
        names = names_obey (layout_of E) ed s;
      }

-- what the code's answer says, once it was matched
pub at_through : (L : Layout) (S : Schema) (l rows : List ℕ) (x y : Result ⊤ (Operation × ℕ)) → Through L S l rows x → x ≡ y → Through L S l rows y
at_through L S l rows x y t e = subst (λ (p : Result ⊤ (Operation × ℕ)). Through L S l rows p) e t
