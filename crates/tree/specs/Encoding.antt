-- An encoding in the image: 0 Default, 1 Varint, 2 ZigZag, 3 Delta and then another encoding, 32 levels at most.
use Rattle.std.specs.Prelude.{ℕ, [], ◌∷◌, get_or}
use Rattle.number.specs.Grammar.{kind, Grammar, give, ◌>>=◌, number, nested}
use Rattle.tree.specs.TreeAt.{no_kind}

pub data Encoding : Type 0 where
  default varint zig_zag : Encoding
  delta : Encoding → Encoding

-- what each kind holds, from kind 0 on
unfoldable pub encoding_fill : Grammar Encoding → (k : ℕ) → Grammar Encoding
encoding_fill inner k = get_or (give default ∷ give varint ∷ give zig_zag ∷ (do e ← inner; give (delta e)) ∷ []) k no_kind

unfoldable pub encoding_at : (levels : ℕ) → Grammar Encoding
encoding_at levels = nested 4 (number kind 4) encoding_fill levels
