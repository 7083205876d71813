-- Text put behind text in a buffer. Assumes nothing.
use Prim.Native.Nat.{ℕ, ◌+◌, ◌≤◌, ◌<◌}
use mathlib.Core.Path.{◌≡◌, refl, sym, ap, ◌∙◌}
use mathlib.Core.List.{List, [], ◌∷◌, ◌++◌, append_assoc, append-nil}
use native.Mathlib.Omega.{arith}
use lib.ListN.{length, set, replicate, length-append, length-set}
use lib.Seq.{set_out}
use Rattle.table.specs.Fitted.{fitted}
use Rattle.table.proofs.Fitting.{fitted_length, fitted_next, zeros_fitted}
use Rattle.lines.specs.Lines.{Holds, header}
use Rattle.lines.specs.Growing.{Grows}
use Rattle.lines.specs.declared.Text.{Text}

holds_long : {p used : ℕ} {t out : List ℕ} → Holds p t out used → length out ≡ p
holds_long {p} {used} {t} h = ap length h.content ∙ fitted_length p t

-- there is a place for the byte
pub placed : (t u : Text) (v : ℕ) → t.used < length t.out.now → u.out.ghost_name ≡ t.out.ghost_name → u.out.now ≡ set t.out.now t.used v → u.used ≡ t.used + 1
    → Grows t (v ∷ []) u
placed t u v l same e k =
    record {
      same_buffer = same;
      long = ap length e ∙ length-set t.out.now t.used v;
      grown = λ p text h.
          let n = holds_long h in
          let q = h.position in
          let f : t.used ≡ length text = omega arith in
          record {
            content = rw (e, h.content, f) (fitted_next p text v);
            position = omega (arith, length-append text (v ∷ []));
          };
    }

-- there is none
pub left_out : (t : Text) (v : ℕ) → length t.out.now ≤ t.used → Grows t (v ∷ []) t
left_out t v l =
    record {
      same_buffer = refl;
      long = refl;
      grown = λ p text h.
          let n = holds_long h in
          let q = h.position in
          let m = fitted_length p text in
          let k : p ≤ length text = omega arith in
          record {
            content = h.content ∙ sym (set_out (fitted p text) (length text) v (omega arith)) ∙ fitted_next p text v;
            position = omega (arith, length-append text (v ∷ []));
          };
    }

pub nothing : (t : Text) → Grows t [] t
nothing t = record { same_buffer = refl; long = refl; grown = λ p text h. rw append-nil h }

-- one text after another
pub then : {a b c : Text} {x y : List ℕ} → Grows a x b → Grows b y c → Grows a (x ++ y) c
then {a} {b} {c} {x} {y} f g =
    record {
      same_buffer = g.same_buffer ∙ f.same_buffer;
      long = g.long ∙ f.long;
      grown = λ p t h. rw (sym (append_assoc t x y)) (g.grown p (t ++ x) (f.grown p t h));
    }

-- the header in a clear buffer
pub started : {t u : Text} (p : ℕ) → t.out.now ≡ replicate p 0 → t.used ≡ 0 → Grows t header u → Holds p header u.out.now u.used
started p e z g = g.grown p [] (record { content = e ∙ zeros_fitted p; position = omega arith })
