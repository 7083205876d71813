-- The image, of either edition: names, slots and declarations, and nothing after them. Refusals 1 to 6.
use Rattle.std.specs.Prelude.{ℕ, zero, suc, ◌^◌, List, [], ◌∷◌, map, cond, length, ltb}
use Rattle.number.specs.Grammar.{slot, count, Grammar, give, ◌>>=◌, number, here, many, Outcome, done, refused, read}
use Rattle.slot.specs.Slot.{Slot, slot_at}
use Rattle.slot.specs.declared.Edition.{Edition}
use Rattle.image.specs.Schema.{Schema}
use Rattle.image.specs.declared.Frame.{Frame}
use Rattle.image.specs.declared.Framed.{Framed}
use Rattle.image.specs.declared.Fronted.{Fronted}
use Rattle.image.specs.declared.Ended.{Ended}

-- how many names there are, what each finds and where that stands, and how many slots there are
pub record Front : Type 0 where
  pub names : ℕ
  pub finds_place : ℕ
  pub finds : List ℕ
  pub slot_count : ℕ

abbrev pub front_with : (names finds_place : ℕ) → (finds : List ℕ) → (slot_count : ℕ) → Front
front_with n p fs c = record { names = n; finds_place = p; finds = fs; slot_count = c }

unfoldable pub front_at : Grammar Front
front_at = do
  n ← number count 4097
  p ← here
  fs ← many n (number slot 513)
  c ← number count 513
  give (front_with n p fs c)

-- a slot, with the position at which it starts
pub record Placed : Type 0 where
  pub start : ℕ
  pub content : Slot

unfoldable pub placed_at : Edition → (names : ℕ) → Grammar Placed
placed_at ed names = do
  p ← here
  x ← slot_at ed names
  give (record { start = p; content = x })

-- how many declarations there are, where they stand, and the slots declared
pub record Declared : Type 0 where
  pub declarations : ℕ
  pub declared_place : ℕ
  pub declared : List ℕ

unfoldable pub declared_at : Grammar Declared
declared_at = do
  c ← number count 1025
  p ← here
  ds ← many c (number slot (2 ^ 32))
  give (record { declarations = c; declared_place = p; declared = ds })

pub record Image : Type 0 where
  pub edition : Edition
  pub front : Front
  pub slots : List Placed
  pub declared : Declared

-- the image of a front and slots, and the declarations that follow them
unfoldable pub end_at : Edition → Front → List Placed → Grammar Image
end_at ed f ss = do
  d ← declared_at
  give (record { edition = ed; front = f; slots = ss; declared = d })

unfoldable pub image_at : Edition → Grammar Image
image_at ed = do
  f ← front_at
  ss ← many f.slot_count (placed_at ed f.names)
  end_at ed f ss

-- refusal 6 at the first byte after the last declaration
unfoldable pub whole : List ℕ → Outcome Image → Outcome Image
whole s (done i n) = cond (ltb n (length s)) (refused 6 n) (done i n)
whole s (refused r p) = refused r p

-- refusal 1 for an image above 65,536 bytes
unfoldable pub image_of : Edition → List ℕ → Outcome Image
image_of ed s = cond (ltb 65536 (length s)) (refused 1 0) (whole s (read (image_at ed) s 0))

-- where the slots start, and what they hold
abbrev pub starts_of : List Placed → List ℕ
starts_of xs = map (λ x. x.start) xs

abbrev pub contents_of : List Placed → List Slot
contents_of xs = map (λ x. x.content) xs

-- so many things of one kind, as far as they are read
abbrev pub ahead : {A : Type 0} → Outcome A → (ℕ → List A) → List A
ahead (done x n) later = x ∷ later n
ahead (refused r p) later = []

unfoldable pub readable : {A : Type 0} → (count : ℕ) → Grammar A → List ℕ → (at : ℕ) → List A
readable zero g s at = []
readable (suc n) g s at = ahead (read g s at) (λ next. readable n g s next)

-- the slots of an image, as far as they are read
abbrev pub slots_after : Edition → List ℕ → Outcome Front → List Placed
slots_after ed s (done f at) = readable f.slot_count (placed_at ed f.names) s at
slots_after ed s (refused r p) = []

unfoldable pub readable_slots : Edition → List ℕ → List Placed
readable_slots ed s = cond (ltb 65536 (length s)) [] (slots_after ed s (read front_at s 0))

-- the schema of an image
unfoldable pub schema_in : Image → Schema
schema_in i = record { finds = i.front.finds; slots = contents_of i.slots; declared = i.declared.declared }

-- where the parts of an image stand
unfoldable pub frame_in : Image → Frame
frame_in i =
    record {
      edition = i.edition;
      names = i.front.names;
      finds = i.front.finds_place;
      slots = i.front.slot_count;
      declarations = i.declared.declarations;
      declared = i.declared.declared_place;
    }

-- what the code's answers say
abbrev pub framed : Outcome Image → Framed
framed (done i n) = Framed.Read (frame_in i)
framed (refused r p) = Framed.Refused r p

abbrev pub fronted : Outcome Front → Fronted
fronted (done f n) = Fronted.Read f.names f.finds_place f.slot_count n
fronted (refused r p) = Fronted.Refused r p

abbrev pub ended : Outcome Declared → Ended
ended (done d n) = Ended.Read d.declarations d.declared_place n
ended (refused r p) = Ended.Refused r p
