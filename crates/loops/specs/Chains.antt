-- Chains of newtypes, and of aliases, that end. That they do where no slot is on a loop: loops/proofs/Chains.antt.
use Prim.Native.Nat.{ℕ, zero, suc}
use Rattle.std.specs.Prelude.{◌≡◌, List, true, get_or}
use Rattle.tree.specs.Tree.{Tree, leaf, wrap, fixed_array, pair, generic, named}
use Rattle.slot.specs.Slot.{Slot, Newtype, newtype, Alias, alias}
use Rattle.loops.specs.Leads.{followed, followed_pair}

-- P holds of each slot that a type names, elements of Array, Map and Set left out
unfoldable pub AllSlots : (ℕ → Type 0) → Tree → Type 0
AllSlots P (leaf l) = (i : ℕ) → l ≡ named i → P i
AllSlots P (wrap w t) = followed w ≡ true → AllSlots P t
AllSlots P (fixed_array t n) = AllSlots P t
AllSlots P (pair p t u) = followed_pair p ≡ true → AllSlots P t × AllSlots P u
AllSlots P (generic n t) = AllSlots P t

-- from a slot no more than b newtypes follow one another by their terminal types
unfoldable pub NewtypesEnd : (slots : ℕ → Slot) → (b i : ℕ) → Type 0
NewtypesEnd slots zero i = (n : Newtype) → slots i ≡ newtype n → ⊥
NewtypesEnd slots (suc b) i = (n : Newtype) → slots i ≡ newtype n → AllSlots (λ j. NewtypesEnd slots b j) n.terminal

-- P holds of each slot that a generic of an expression finds
unfoldable pub AllGenerics : (finds : List ℕ) → (ℕ → Type 0) → Tree → Type 0
AllGenerics finds P (leaf l) = Unit {0}
AllGenerics finds P (wrap w t) = AllGenerics finds P t
AllGenerics finds P (fixed_array t n) = AllGenerics finds P t
AllGenerics finds P (pair p t u) = AllGenerics finds P t × AllGenerics finds P u
AllGenerics finds P (generic n t) = ((i : ℕ) → get_or finds n 0 ≡ suc i → P i) × AllGenerics finds P t

-- from a slot no more than b aliases follow one another by the generics of their targets
unfoldable pub AliasesEnd : (finds : List ℕ) → (slots : ℕ → Slot) → (b i : ℕ) → Type 0
AliasesEnd finds slots zero i = (a : Alias) → slots i ≡ alias a → ⊥
AliasesEnd finds slots (suc b) i = (a : Alias) → slots i ≡ alias a → AllGenerics finds (λ j. AliasesEnd finds slots b j) a.target

abbrev pub IsNewtype : (slots : ℕ → Slot) → ℕ → Type 0
IsNewtype slots i = (n : Newtype) × (slots i ≡ newtype n)

abbrev pub IsAlias : (slots : ℕ → Slot) → ℕ → Type 0
IsAlias slots i = (a : Alias) × (slots i ≡ alias a)
