-- Tables to which names are added, and what each step of listing says of them.
use Rattle.std.specs.Prelude.{ℕ, ◌+◌, ◌*◌, ◌≤◌, ◌<◌, ◌≡◌, List, [], ◌∷◌, Bool, false, cond, ltb, length, get_or, set, take, replicate}
use Rattle.std.proofs.lemmas.List.Edits.{sets}
use Rattle.number.specs.Grammar.{Grammar, done, read}
use Rattle.tree.specs.Tree.{Tree}
use Rattle.tree.specs.TreeAt.{tree_at}
use Rattle.tree.specs.declared.Sort.TheVariants.{Resolved}
use Rattle.slot.specs.Slot.{Slot, empty}
use Rattle.image.specs.declared.Frame.{Frame}
use Rattle.reader.specs.Promise.{Promise}
use Rattle.parts.specs.declared.Names.{Names}
use Rattle.parts.specs.Names.{all_of, slot_names, is_message}

-- a table, of which so many places are used
pub record Filled : Type 0 where
  pub places : List ℕ
  pub used : ℕ

abbrev pub filled : List ℕ → ℕ → Filled
filled l u = record { places = l; used = u }

abbrev pub table : Names → Filled
table n = filled n.parts.now n.used

-- a table that is full stays as it is
unfoldable pub push : ℕ → Filled → Filled
push v t = cond (ltb t.used (length t.places)) (filled (set t.places t.used v) (t.used + 1)) t

unfoldable pub push_all : List ℕ → Filled → Filled
push_all [] t = t
push_all (v ∷ vs) t = push_all vs (push v t)

-- a type of `levels` levels at most
abbrev pub levels_at : (names levels : ℕ) → Grammar Tree
levels_at names levels = tree_at Resolved names levels

-- what stands at a position was listed, and `next` is the position after it
pub record Lists {A : Type 0} (g : Grammar A) (names : A → List ℕ) (s : List ℕ) (at : ℕ) (before after : Filled) (next : ℕ) : Type 0 where
  pub listed : (x : A) (end : ℕ) → read g s at ≡ done x end → (after ≡ push_all (names x) before) × (next ≡ end)

-- a slot was listed
pub record ListsSlot (x : Slot) (before after : Filled) (message : Bool) : Type 0 where
  pub listed : after ≡ push_all (slot_names x) before
  pub marked : message ≡ is_message x

-- an accepted image, empty tables, and a place for each name: a name takes two bytes
pub record Listable (s starts : List ℕ) (f : Frame) (messages : List Bool) (first parts : List ℕ) : Type 0 where
  pub promise : Promise s starts f
  pub marks : messages ≡ replicate 512 false
  pub places : first ≡ replicate 513 0
  pub room : length s ≤ 2 * length parts
  pub few : length parts ≤ 32768

-- the names of slots: which slots are messages, where the names of each start, and the names
pub record Tabled (xs : List Slot) (messages : List Bool) (first before parts : List ℕ) : Type 0 where
  pub marks : length messages ≡ 512
  pub places : length first ≡ 513
  pub message : (i : ℕ) → get_or messages i false ≡ is_message (get_or xs i empty)
  pub ends : (i : ℕ) → i ≤ length xs → get_or first i 0 ≡ length (all_of slot_names (take i xs))
  pub past : (i : ℕ) → length xs < i → get_or first i 0 ≡ 0
  pub content : parts ≡ sets before 0 (all_of slot_names xs)
