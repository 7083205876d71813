-- Marks of a leaf, a type and a field. Assumes nothing.
use Prim.Native.Nat.{ℕ, ◌+◌}
use mathlib.Core.Path.{◌≡◌, refl, sym, ap, ◌∙◌}
use mathlib.Core.List.{List, [], ◌∷◌}
use mathlib.Core.Bool.{true, false, false≢true}
use Rattle.number.specs.Grammar.{done, read}
use Rattle.number.specs.Answers.{next, follow}
use Rattle.number.specs.declared.Next.{Next}
use Rattle.number.proofs.Reading.{given, then_done}
use Rattle.tree.specs.Tree.{Tree, Leaf, leaf, wrap, fixed_array, pair, generic, primitive, sub_byte, semantic, named, bits_inline, qualified, leaf_kind, leaf_number}
use Rattle.tree.specs.TreeAt.{head_at, shape}
use Rattle.tree.specs.Short.{short_leaf}
use Rattle.tree.specs.declared.Sort.TheVariants.{Resolved}
use Rattle.tree.specs.declared.Head.{Head}
use Rattle.tree.proofs.Shapes.{parts}
use Rattle.slot.specs.Field.{type_at, limit_at, Field, field_at}
use Rattle.slot.specs.Short.{short_at}
use Rattle.slot.specs.declared.Short.{Short}
use Rattle.slot.specs.declared.Edition.{Edition}
use Rattle.slot.proofs.FourBytes.{short_reads, short_kind, short_number}
use Rattle.loops.specs.Leads.{leaf_slots, terminal_slots, tree_slots}
use Rattle.loops.specs.Marks.{Led}
use Rattle.loops.proofs.Marking.{led_none, led_as, leaf_none as no_slot, leaf_named as one-slot}
use Rattle.view.specs.Take.{place_of}
use Rattle.view.proofs.Taking.{placed}
use Rattle.order.specs.Order.{bare_leaf, bare_type}
use Rattle.order.proofs.Leading.{TypeAt, no_leaf}
use Rattle.bare.specs.Bare.{type_names}
use Rattle.bare.specs.Steps.{Marks, Typed}
use native.Mathlib.Omega.{arith}

-- ## A leaf

pub leaf_none : (l : Leaf) → (leaf_kind l ≡ 3 → ⊥) → [] ≡ leaf_slots l
unfolding tree_slots terminal_slots
leaf_none l h = no_slot [] l h

pub leaf_named : (l : Leaf) (v : ℕ) → leaf_kind l ≡ 3 → leaf_number l ≡ v → v ∷ [] ≡ leaf_slots l
unfolding tree_slots terminal_slots
leaf_named l v h e = one-slot [] l v h e

-- ## A type

no_name : (t : Tree) → bare_type (λ j. false) t ≡ true → [] ≡ type_names t
unfolding bare_type bare_leaf type_names
no_name (leaf (named j)) h = absurd (false≢true h)
no_name (leaf (primitive p)) h = refl
no_name (leaf (sub_byte g b)) h = refl
no_name (leaf (semantic m)) h = refl
no_name (leaf (bits_inline ns)) h = refl
no_name (leaf (qualified n)) h = refl
no_name (wrap w t) h = refl
no_name (fixed_array t n) h = refl
no_name (pair p t u) h = refl
no_name (generic n t) h = refl

-- what a leaf's kind and number mark
abbrev pub LeafMarked : (m : List ℕ) (row k v : ℕ) (m' : List ℕ) → Type 0
LeafMarked m row k v m' = (l : Leaf) → leaf_kind l ≡ k → leaf_number l ≡ v → Led m row (leaf_slots l) m'

module _ (names : ℕ) (s : List ℕ) (at row : ℕ) (m : List ℕ) where
  pub type_leaf : (k g v n : ℕ) (m' : List ℕ) → shape (read (head_at Resolved names) s at) ≡ Head.Leaf k g v n → LeafMarked m row k v m'
      → Marks (type_at names) type_names s at row m m' n
  unfolding type_names
  type_leaf k g v n m' q w =
      record {
        marked = λ t end e.
            let p = parts Resolved names s at 32 (λ z. omega arith) _ q t end e in
            (led_as row (sym (ap type_names p.1)) (w p.0 p.2 p.4), p.5);
      }

  pub type_other : (x : Head) → ((k g v n : ℕ) → x ≡ Head.Leaf k g v n → ⊥) → shape (read (head_at Resolved names) s at) ≡ x
      → (a : Next) (n : ℕ) → a ≡ next (read (type_at names) s at) → n ≡ place_of a → Marks (type_at names) type_names s at row m m n
  type_other x h q a n f w =
      record {
        marked = λ t end e.
            (led_none row (no_name t (no_leaf (λ j. false) names s at x h q t end e)), placed w (f ∙ ap next e));
      }

  -- ## A field

  pub typed_long : (p : ℕ) (m' : List ℕ) (n : ℕ) → ((ed : Edition) → TypeAt ed names s at p) → Marks (type_at names) type_names s p row m m' n
      → Typed names s at row m m' n
  typed_long p m' n w i =
      record {
        marked = λ ed x end e.
            let y = w ed x end e in
            let r = i.marked x.type y.0 y.1 in
            (r.0, ap (read (limit_at ed) s) r.1 ∙ y.2);
      }

  pub typed_short : (g k v : ℕ) (m' : List ℕ) → short_at names s at ≡ Short.Is g k v → LeafMarked m row k v m' → Typed names s at row m m' (at + 4)
  unfolding type_names
  typed_short g k v m' q w =
      record {
        marked = λ ed x end e.
            let y = then_done (read (limit_at ed) s (at + 4)) _ (sym (short_reads names s at g k v q ed) ∙ e) in
            let r = given y.3 in (
              led_as row (ap (λ (z : Field). type_names z.type) r.0) (w (short_leaf k v) (short_kind names s at g k v q) (short_number names s at g k v q)),
              y.2 ∙ ap (λ (z : Field). done z.limit y.1) r.0 ∙ ap (done x.limit) r.1,
            );
      }

  -- past the limit
  pub field_marked : (ed : Edition) (m' : List ℕ) (n : ℕ) → Typed names s at row m m' n → (l : Next) (r : ℕ) → l ≡ follow (Next.At n) (λ k. next (read (limit_at ed) s k))
      → r ≡ place_of l → Marks (field_at ed names) (λ x. type_names x.type) s at row m m' r
  unfolding follow
  field_marked ed m' n i l r f w =
      record { marked = λ x end e. let y = i.marked ed x end e in (y.0, placed w (f ∙ ap next y.1)) }
