-- What the layers above rely on where no slot is on a loop: chains of newtypes, and of aliases, end. Assumes nothing.
use Prim.Native.Nat.{ℕ, zero, suc, ◌≤◌}
use Rattle.std.specs.Prelude.{◌≡◌, refl, List, [], ◌∷◌, ◌++◌, Bool, true, cond, ◌||◌, eqb, get_or}
use Rattle.std.proofs.Common.{sym, ap, ◌∙◌, arith, eq-eqb}
use Rattle.std.proofs.Math.Bool.{or-true, or_assoc}
use Rattle.tree.specs.Tree.{Tree, Leaf, leaf, wrap, fixed_array, pair, generic}
use Rattle.tree.specs.declared.Sort.TheVariants.{Resolved, Expression}
use Rattle.slot.specs.Slot.{Slot, empty}
use Rattle.graph.specs.Ways.{Ends, has}
use Rattle.graph.specs.declared.Lowest.{Lowest}
use Rattle.loops.specs.Leads.{leaf_slots, terminal_slots, found, generic_slots, slot_leads, leads, loop_of}
use Rattle.loops.specs.Chains.{AllSlots, NewtypesEnd, AllGenerics, AliasesEnd, IsNewtype, IsAlias}
use Rattle.loops.specs.Refusals.{chains_end}

pub has_append : (y : ℕ) (k l : List ℕ) → has y (k ++ l) ≡ (has y k || has y l)
unfolding has
has_append y [] l = refl
has_append y (x ∷ k) l = rw (has_append y k l) (sym (or_assoc (eqb y x) (has y k) (has y l)))

has_itself : (i : ℕ) → has i (i ∷ []) ≡ true
unfolding has
has_itself i = rw (eq-eqb i i refl)

has_left : (y : ℕ) (k l : List ℕ) → has y k ≡ true → has y (k ++ l) ≡ true
has_left y k l h = has_append y k l ∙ rw h

has_right : (y : ℕ) (k l : List ℕ) → has y l ≡ true → has y (k ++ l) ≡ true
has_right y k l h = has_append y k l ∙ rw h (or-true (has y k))

all_slots : (P : ℕ → Type 0) (t : Tree) → ((j : ℕ) → has j (terminal_slots t) ≡ true → P j) → AllSlots P t
unfolding AllSlots terminal_slots
all_slots P (leaf l) h = λ i e. h i (ap (λ (x : Leaf). has i (leaf_slots x)) e ∙ has_itself i)
all_slots P (wrap w t) h = λ f. all_slots P t (λ j m. h j (ap (λ (b : Bool). has j (cond b (terminal_slots t) [])) f ∙ m))
all_slots P (fixed_array t n) h = all_slots P t h
all_slots P (pair p t u) h = λ f.
    let g : (j : ℕ) → has j (terminal_slots t ++ terminal_slots u) ≡ true → P j
    = λ j m. h j (ap (λ (b : Bool). has j (cond b (terminal_slots t ++ terminal_slots u) [])) f ∙ m) in (
      all_slots P t (λ j m. g j (has_left j (terminal_slots t) (terminal_slots u) m)),
      all_slots P u (λ j m. g j (has_right j (terminal_slots t) (terminal_slots u) m)),
    )
all_slots P (generic n t) h = all_slots P t h

all_generics : (finds : List ℕ) (P : ℕ → Type 0) (t : Tree) → ((j : ℕ) → has j (generic_slots finds t) ≡ true → P j) → AllGenerics finds P t
unfolding AllGenerics generic_slots
all_generics finds P (leaf l) h = tt
all_generics finds P (wrap w t) h = all_generics finds P t h
all_generics finds P (fixed_array t n) h = all_generics finds P t h
all_generics finds P (pair p t u) h = (
  all_generics finds P t (λ j m. h j (has_left j (generic_slots finds t) (generic_slots finds u) m)),
  all_generics finds P u (λ j m. h j (has_right j (generic_slots finds t) (generic_slots finds u) m)),
)
all_generics finds P (generic n t) h = (
  λ i e. h i (has_left i (found (get_or finds n 0)) (generic_slots finds t) (ap (λ (x : ℕ). has i (found x)) e ∙ has_itself i)),
  all_generics finds P t (λ j m. h j (has_right j (found (get_or finds n 0)) (generic_slots finds t) m)),
)

module _ (finds : List ℕ) (slots : ℕ → Slot) where
  newtypes : (b i : ℕ) → Ends (IsNewtype slots) (leads Resolved finds slots) b i → NewtypesEnd slots b i
  unfolding NewtypesEnd Ends leads slot_leads
  newtypes zero i h = λ n e. h (n, e)
  newtypes (suc b) i h = λ n e.
      all_slots (λ j. NewtypesEnd slots b j) n.terminal
      (λ j m. newtypes b j (h (n, e) j (ap (λ (x : Slot). has j (slot_leads Resolved finds x)) e ∙ m)))

  aliases : (b i : ℕ) → Ends (IsAlias slots) (leads Expression finds slots) b i → AliasesEnd finds slots b i
  unfolding AliasesEnd Ends leads slot_leads
  aliases zero i h = λ a e. h (a, e)
  aliases (suc b) i h = λ a e.
      all_generics finds (λ j. AliasesEnd finds slots b j) a.target
      (λ j m. aliases b j (h (a, e) j (ap (λ (x : Slot). has j (slot_leads Expression finds x)) e ∙ m)))

  module _ (count : ℕ) (past : (i : ℕ) → count ≤ i → slots i ≡ empty) (few : count ≤ 512) where
    pub newtype_chains : loop_of Resolved finds slots count ≡ Lowest.Nowhere → (i : ℕ) → Ends (IsNewtype slots) (leads Resolved finds slots) 512 i
    newtype_chains =
        chains_end Resolved finds slots count past few (IsNewtype slots)
        (λ i n e. let q = n.1 in let z : ◌≡◌ {A = ℕ} 0 1 = cc in omega arith)

    pub alias_chains : loop_of Expression finds slots count ≡ Lowest.Nowhere → (i : ℕ) → Ends (IsAlias slots) (leads Expression finds slots) 512 i
    alias_chains =
        chains_end Expression finds slots count past few (IsAlias slots)
        (λ i a e. let q = a.1 in let z : ◌≡◌ {A = ℕ} 0 1 = cc in omega arith)

    pub newtypes_end : loop_of Resolved finds slots count ≡ Lowest.Nowhere → (i : ℕ) → NewtypesEnd slots 512 i
    newtypes_end e i = newtypes 512 i (newtype_chains e i)

    pub aliases_end : loop_of Expression finds slots count ≡ Lowest.Nowhere → (i : ℕ) → AliasesEnd finds slots 512 i
    aliases_end e i = aliases 512 i (alias_chains e i)
