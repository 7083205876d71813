-- Fields of four bytes read as fields. Assumes nothing.
use Prim.Native.Nat.{ℕ, ◌+◌, ◌<◌, ◌≤◌}
use mathlib.Core.Path.{◌≡◌, refl, ap, ◌∙◌}
use mathlib.Core.List.{List}
use mathlib.Core.Bool.{Bool, true, false, cond}
use native.Mathlib.Omega.{arith}
use lib.Dec.{ltb}
use lib.ListN.{length, get_or}
use borrow.Author.Tests.{lt-ltb, le-ltb, ltb-true, ltb-false}
use Rattle.number.specs.Grammar.{name, kind, number, done, below, and_then, read}
use Rattle.number.specs.Answers.{next}
use Rattle.number.specs.declared.Next.{Next}
use Rattle.number.proofs.Reading.{next_then, follow_at, read_bind, read_number, number_on, then_on}
use Rattle.number.proofs.InRange.{byte_in_range}
use Rattle.tree.specs.Tree.{leaf, leaf_kind, leaf_number}
use Rattle.tree.specs.Encoding.{encoding_fill, encoding_at}
use Rattle.tree.specs.declared.Sort.TheVariants.{Resolved}
use Rattle.tree.proofs.Ranges.{each}
use Rattle.tree.proofs.TwoBytes.{limited, number_below, leaf_reads}
use Rattle.tree.proofs.Levels.{nested_on}
use Rattle.slot.specs.Field.{type_at, limit_at, field_at}
use Rattle.slot.specs.declared.Edition.{Edition}
use Rattle.tree.specs.Short.{short_limit, short_leaf}
use Rattle.slot.specs.Short.{short_of, short_at, short_encoding, short_field}
use Rattle.slot.specs.declared.Short.{Short}

-- what is known of the four bytes
pub record Bytes (names : ℕ) (s : List ℕ) (at e k v : ℕ) : Type 0 where
  pub long : at + 4 ≤ length s
  pub name : get_or s at 0 < 128
  pub known : get_or s at 0 < names
  pub encoding : e ≡ get_or s (at + 1) 0
  pub kind : k ≡ get_or s (at + 2) 0
  pub number : v ≡ get_or s (at + 3) 0
  pub coded : e < 3
  pub limit : v < short_limit k

bytes_of : (names n e k v : ℕ) (x y z : ℕ) → short_of n e k v names ≡ Short.Is x y z → (n < 128) × (n < names) × (e < 3) × (v < short_limit k) × (x ≡ e) × (y ≡ k) × (z ≡ v)
unfolding short_of
bytes_of names n e k v x y z h = go (ltb n 128) (ltb n names) (ltb e 3) (ltb v (short_limit k)) refl refl refl refl h
  where
    none_is : Short.Other ≡ Short.Is x y z → ⊥
    none_is f = let q : ◌≡◌ {A = ℕ} 0 1 = cc in omega arith

    go : (a b c d : Bool) → ltb n 128 ≡ a → ltb n names ≡ b → ltb e 3 ≡ c → ltb v (short_limit k) ≡ d
        → cond a (cond b (cond c (cond d (Short.Is e k v) Short.Other) Short.Other) Short.Other) Short.Other ≡ Short.Is x y z
        → (n < 128) × (n < names) × (e < 3) × (v < short_limit k) × (x ≡ e) × (y ≡ k) × (z ≡ v)
    go true true true true p q r t f = (ltb-true _ _ p, ltb-true _ _ q, ltb-true _ _ r, ltb-true _ _ t, cc, cc, cc)
    go true true true false p q r t f = absurd (none_is f)
    go true true false d p q r t f = absurd (none_is f)
    go true false c d p q r t f = absurd (none_is f)
    go false b c d p q r t f = absurd (none_is f)

-- ## The code's tests

module _ (n e k v names : ℕ) where
  pub is_short_lem : n < 128 → n < names → e < 3 → (l : ℕ) → l ≡ short_limit k → v < l → Short.Is e k v ≡ short_of n e k v names
  unfolding short_of
  is_short_lem a b c l i d = simp (lt-ltb _ _ a, lt-ltb _ _ b, lt-ltb _ _ c, lt-ltb v (short_limit k) (omega arith))

  pub long_name : 128 ≤ n → Short.Other ≡ short_of n e k v names
  unfolding short_of
  long_name a = simp (le-ltb _ _ a)

  pub no_name : n < 128 → names ≤ n → Short.Other ≡ short_of n e k v names
  unfolding short_of
  no_name a b = simp (lt-ltb _ _ a, le-ltb _ _ b)

  pub nested_encoding : n < 128 → n < names → 3 ≤ e → Short.Other ≡ short_of n e k v names
  unfolding short_of
  nested_encoding a b c = simp (lt-ltb _ _ a, lt-ltb _ _ b, le-ltb _ _ c)

  pub other_kind : n < 128 → n < names → e < 3 → (l : ℕ) → l ≡ short_limit k → l ≤ v → Short.Other ≡ short_of n e k v names
  unfolding short_of
  other_kind a b c l i d = simp (lt-ltb _ _ a, lt-ltb _ _ b, lt-ltb _ _ c, le-ltb v (short_limit k) (omega arith))

module _ (names : ℕ) (s : List ℕ) (at : ℕ) where
  pub too_near : length s < at + 4 → Short.Other ≡ short_at names s at
  unfolding short_at
  too_near h = simp (lt-ltb _ _ h)

  pub by_bytes : at + 4 ≤ length s → (n e k v : ℕ) → n ≡ get_or s at 0 → e ≡ get_or s (at + 1) 0 → k ≡ get_or s (at + 2) 0 → v ≡ get_or s (at + 3) 0 → (r : Short) → r ≡ short_of n e k v names
      → r ≡ short_at names s at
  unfolding short_at
  by_bytes h n e k v a b c d r f = f ∙ rw (a, b, c, d) (simp (le-ltb _ _ h))

-- ## The field that is read

module _ (names : ℕ) (s : List ℕ) (at e k v : ℕ) (h : short_at names s at ≡ Short.Is e k v) where
  pub short_bytes : Bytes names s at e k v
  unfolding short_at
  short_bytes = go (ltb (length s) (at + 4)) refl h
    where
      go : (b : Bool) → ltb (length s) (at + 4) ≡ b
          → cond b Short.Other (short_of (get_or s at 0) (get_or s (at + 1) 0) (get_or s (at + 2) 0) (get_or s (at + 3) 0) names) ≡ Short.Is e k v → Bytes names s at e k v
      go true p f = let q : ◌≡◌ {A = ℕ} 0 1 = cc in absurd (omega arith)
      go false p f =
          let b = bytes_of names _ _ _ _ e k v f in
          record {
            long = ltb-false _ _ p;
            name = b.0;
            known = b.1;
            encoding = b.4;
            kind = b.5;
            number = b.6;
            coded = omega (arith, b.2, b.4);
            limit = rw (b.5, b.6) b.3;
          }

  byte : (p q limit x : ℕ) → x ≡ get_or s p 0 → p < length s → x < 128 → x < limit → p + 1 ≡ q → below limit s p ≡ done x q
  byte p q limit x i l a b f = byte_in_range s p limit x i l a b ∙ ap (done x) f

  encoding_reads : read (encoding_at 32) s (at + 1) ≡ done (short_encoding e) (at + 2)
  unfolding encoding_at encoding_fill read
  encoding_reads =
      let b = short_bytes in
      nested_on 4 (number kind 4) encoding_fill s (at + 1) 32 (omega arith)
      ∙ then_on _ _ (read_number kind 4 s (at + 1) ∙ byte (at + 1) (at + 2) 4 e b.encoding (omega (arith, b.long)) (omega (arith, b.coded)) (omega (arith, b.coded)) (omega arith))
      ∙ each (λ x. read (encoding_fill (encoding_at 31) x) s (at + 2) ≡ done (short_encoding x) (at + 2)) 0 3 (refl, (refl, (refl, tt))) e (omega arith) (omega (arith, b.coded))

  pub type_reads : read (type_at names) s (at + 2) ≡ done (leaf (short_leaf k v)) (at + 4)
  type_reads =
      let b = short_bytes in
      let third : at + 3 ≡ at + 2 + 1 = omega arith in
      let end : at + 2 + 2 ≡ at + 4 = omega arith in
      leaf_reads Resolved names s (at + 2) k v b.kind (b.number ∙ ap (λ (p : ℕ). get_or s p 0) third) (omega (arith, b.long)) b.limit (omega (arith, number_below k v b.limit)) 32 (omega arith)
      ∙ ap (done (leaf (short_leaf k v))) end

  pub short_reads : (ed : Edition) → read (field_at ed names) s at ≡ and_then (read (limit_at ed) s (at + 4)) (λ l n. done (short_field (get_or s at 0) e k v l) n)
  unfolding field_at read
  short_reads ed =
      let b = short_bytes in
      number_on name names _ s at (get_or s at 0) (at + 1) (byte at (at + 1) names (get_or s at 0) refl (omega (arith, b.long)) b.name b.known refl)
      ∙ read_bind (encoding_at 32) _ s (at + 1)
      ∙ then_on _ _ encoding_reads
      ∙ read_bind (type_at names) _ s (at + 2)
      ∙ then_on _ _ type_reads
      ∙ read_bind (limit_at ed) _ s (at + 4)

  pub short_next : (ed : Edition) → next (read (field_at ed names) s at) ≡ next (read (limit_at ed) s (at + 4))
  short_next ed = ap next (short_reads ed) ∙ next_then (read (limit_at ed) s (at + 4)) _ Next.At (λ l n. refl) ∙ follow_at _

  -- what the kind and the number say of the type
  pub short_kind : leaf_kind (short_leaf k v) ≡ k
  unfolding short_limit
  short_kind =
      each (λ x. v < short_limit x → leaf_kind (short_leaf x v) ≡ x) 0 4 ((λ a. refl), ((λ a. absurd (omega arith)), ((λ a. refl), ((λ a. refl), tt)))) k (omega arith)
      (limited k v short_bytes.limit) short_bytes.limit

  pub short_number : leaf_number (short_leaf k v) ≡ v
  short_number = each (λ x. leaf_number (short_leaf x v) ≡ v) 0 4 (refl, (refl, (refl, (refl, tt)))) k (omega arith) (limited k v short_bytes.limit)
