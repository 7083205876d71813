-- Fetching a slot's part: by the code's steps, and of a slot that was read. Assumes nothing.
use Prim.Native.Nat.{ℕ, ◌≤◌, ◌<◌}
use mathlib.Core.Path.{◌≡◌, refl, sym, ◌∙◌}
use mathlib.Core.List.{List}
use native.Mathlib.Omega.{arith}
use lib.ListN.{length, get_or}
use borrow.Author.Tests.{le-ltb, lt-ltb}
use Rattle.number.specs.Grammar.{done, refused, below, read}
use Rattle.slot.specs.Slot.{Slot, slot_kind, slot_body_at, slot_at}
use Rattle.slot.proofs.Whole.{slot_parts}
use Rattle.slot.specs.declared.Edition.{Edition}
use Rattle.view.specs.Part.{part_at}
use Rattle.view.specs.declared.Part.{Part}

module _ (s starts : List ℕ) (k : ℕ) where
  pub past : length starts ≤ k → Part.Missing ≡ part_at s starts k
  unfolding part_at
  past h = simp (le-ltb _ _ h)

  pub fetched : k < length starts → (kind body : ℕ) → below 10 s (get_or starts k 0) ≡ done kind body → Part.At kind body ≡ part_at s starts k
  unfolding part_at
  fetched h kind body e = simp (lt-ltb _ _ h, e)

  pub no_kind : k < length starts → (r p : ℕ) → below 10 s (get_or starts k 0) ≡ refused r p → Part.Missing ≡ part_at s starts k
  unfolding part_at
  no_kind h r p e = simp (lt-ltb _ _ h, e)

-- a slot behind its kind
pub record Behind (ed : Edition) (names : ℕ) (s : List ℕ) (x : Slot) (kind body : ℕ) : Type 0 where
  pub kind_is : slot_kind x ≡ kind
  pub end : ℕ
  pub reads : read (slot_body_at ed names kind) s body ≡ done x end

pub body_at : {ed : Edition} {names : ℕ} {s : List ℕ} {x : Slot} {kind body : ℕ} (b : Behind ed names s x kind body) (k : ℕ) → kind ≡ k → read (slot_body_at ed names k) s body ≡ done x b.end
body_at b k e = rw e at b.reads

-- slot k was read where the table says
module _ (ed : Edition) (names : ℕ) (s starts : List ℕ) (k : ℕ) (h : k < length starts) (x : Slot) (end : ℕ) (e : read (slot_at ed names) s (get_or starts k 0) ≡ done x end) where
  -- its part is there
  pub part_there : (body : ℕ) × (part_at s starts k ≡ Part.At (slot_kind x) body) × Behind ed names s x (slot_kind x) body
  part_there =
      let p = slot_parts s ed names (get_or starts k 0) x end e in (
        p.body,
        sym (fetched s starts k h _ _ p.kind_read),
        record { kind_is = refl; end = end; reads = p.body_read },
      )

  -- what the answer of fetching it says
  pub part_holds : (kind body : ℕ) → part_at s starts k ≡ Part.At kind body → Behind ed names s x kind body
  part_holds kind body q = go part_there.0 (sym part_there.1 ∙ q) part_there.2
    where
      go : (b : ℕ) → Part.At (slot_kind x) b ≡ Part.At kind body → Behind ed names s x (slot_kind x) b → Behind ed names s x kind body
      go b q h = let a : slot_kind x ≡ kind = cc in let d : b ≡ body = cc in record { kind_is = a; end = h.end; reads = rw (← a, ← d) h.reads }

  pub not_absent : part_at s starts k ≡ Part.Missing → ⊥
  not_absent q = let p = part_there.1 in let z : ◌≡◌ {A = ℕ} 0 1 = cc in omega arith
