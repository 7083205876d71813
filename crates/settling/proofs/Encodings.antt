-- Encodings, and where a field's type stands. Assumes nothing.
use Prim.Native.Nat.{ℕ, ◌-◌, ◌<◌, ◌≤◌}
use mathlib.Core.Path.{◌≡◌, sym, ap, subst, ◌∙◌}
use mathlib.Core.List.{List}
use native.Mathlib.Omega.{arith}
use Rattle.number.specs.Grammar.{kind, number, give, ◌>>=◌, too_deep, Outcome, done, refused, and_then, below, read}
use Rattle.number.proofs.Reading.{read_done, then_done, read_number, given}
use Rattle.number.proofs.InRange.{below_is}
use Rattle.tree.specs.Encoding.{Encoding, default, varint, zig_zag, delta, encoding_fill, encoding_at}
use Rattle.tree.proofs.Levels.{nested_deep, nested_on}
use Rattle.slot.specs.Field.{limit_at, Field, field_at}
use Rattle.slot.proofs.Whole.{field_parts_lem}
use Rattle.slot.specs.declared.Edition.{Edition}
use Rattle.settling.specs.Steps.{coded_as, Coding}
use Rattle.settling.specs.declared.Coded.{Coded}

-- what a Delta stands for
pub record Inner (s : List ℕ) (at levels : ℕ) (e : Encoding) (end : ℕ) : Type 0 where
  pub inner : Encoding
  pub reads : read (encoding_at levels) s at ≡ done inner end
  pub same : coded_as e end ≡ coded_as inner end

module _ (s : List ℕ) where
  no_depth : (at : ℕ) (e : Encoding) (end : ℕ) → read (too_deep {A = Encoding} 4) s at ≡ done e end → ⊥
  unfolding too_deep read ◌>>=◌ and_then
  no_depth at e end q = go (below 4 s at) q
    where
      go : (m : Outcome ℕ) → and_then {B = Encoding} m (λ v n. refused 5 at) ≡ done e end → ⊥
      go (done v n) f = let z : ◌≡◌ {A = ℕ} 0 1 = cc in omega arith
      go (refused r p) f = let z : ◌≡◌ {A = ℕ} 0 1 = cc in omega arith

  pub not_too_deep : (at levels : ℕ) → levels ≤ 0 → (e : Encoding) (end : ℕ) → read (encoding_at levels) s at ≡ done e end → ⊥
  unfolding encoding_at
  not_too_deep at levels h e end q = no_depth at e end (sym (nested_deep 4 (number kind 4) encoding_fill s at levels h) ∙ q)

  -- the number of an encoding's kind
  pub encoding_read_lem : (at levels : ℕ) → 0 < levels → (e : Encoding) (end : ℕ) → read (encoding_at levels) s at ≡ done e end
      → (k : ℕ) × (n : ℕ) × (below 4 s at ≡ done k n)
  unfolding encoding_at
  encoding_read_lem at levels h e end q =
      let a = then_done (read (number kind 4) s at) _ (sym (nested_on 4 (number kind 4) encoding_fill s at levels h) ∙ q) in
      (a.0, a.1, sym (read_number kind 4 s at) ∙ a.2)

  module _ (at levels k n : ℕ) (h : 0 < levels) (q : below 4 s at ≡ done k n) (e : Encoding) (end : ℕ) (whole : read (encoding_at levels) s at ≡ done e end) where
    body : read (encoding_fill (encoding_at (levels - 1)) k) s n ≡ done e end
    unfolding encoding_at read and_then
    body = sym (nested_on 4 (number kind 4) encoding_fill s at levels h ∙ rw q) ∙ whole

    ends_as : (x : Encoding) → read (encoding_fill (encoding_at (levels - 1)) k) s n ≡ done x n → coded_as x n ≡ coded_as e end
    ends_as x f = let g = given (sym f ∙ body) in rw (g.0, g.1)

    pub is_plain : k ≡ 0 → Coded.Plain n ≡ coded_as e end
    unfolding encoding_fill read coded_as
    is_plain z = ends_as default (rw z)

    pub is_varint : k ≡ 1 → Coded.Varint n ≡ coded_as e end
    unfolding encoding_fill read coded_as
    is_varint z = ends_as varint (rw z)

    pub is_zigzag : k ≡ 2 → Coded.ZigZag n ≡ coded_as e end
    unfolding encoding_fill read coded_as
    is_zigzag z = ends_as zig_zag (rw z)

    -- an encoding inside Delta
    pub is_delta : (k ≡ 0 → ⊥) → (k ≡ 1 → ⊥) → (k ≡ 2 → ⊥)
        → Inner s n (levels - 1) e end
    unfolding encoding_fill read coded_as
    is_delta a b c =
        let z : k ≡ 3 = omega (arith, (below_is s at 4 k n q).under) in
        let d = read_done (encoding_at (levels - 1)) (λ x. give (delta x)) s n e end (subst (λ (j : ℕ). read (encoding_fill (encoding_at (levels - 1)) j) s n ≡ done e end) z body) in
        let g = given d.rest in
        record { inner = d.first; reads = d.here ∙ ap (done d.first) g.1; same = ap (λ (y : Encoding). coded_as y end) (sym g.0) }

  pub code_at : (ed : Edition) (names at : ℕ) (x : Field) (end : ℕ) → (q : read (field_at ed names) s at ≡ done x end) → {p : ℕ} {r : Coded}
      → p ≡ (field_parts_lem s ed names at x end q).coded → ((e : Encoding) (m : ℕ) → read (encoding_at 32) s p ≡ done e m → r ≡ coded_as e m)
      → (behind : ℕ) × Coding names s x behind r × (read (limit_at ed) s behind ≡ done x.limit end)
  code_at ed names at x end q f h =
      let p = field_parts_lem s ed names at x end q in
      (p.behind, record { place = p.typed; coded = h _ _ (rw f p.encoding_read); reads = p.type_read }, p.limit_read)
