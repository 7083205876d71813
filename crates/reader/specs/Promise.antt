-- What the layers above may rely on, once an image was accepted.
use Rattle.std.specs.Prelude.{ℕ, suc, ◌≤◌, ◌<◌, ◌^◌, ◌≡◌, List, false, length, get_or, take}
use Rattle.std.proofs.lemmas.List.Edits.{sets}
use Rattle.number.specs.Grammar.{slot, number, many, done, read}
use Rattle.tree.specs.declared.Sort.TheVariants.{Resolved, Expression}
use Rattle.slot.specs.Slot.{slot_at}
use Rattle.slot.specs.declared.Edition.{Edition}
use Rattle.image.specs.Schema.{slot_of}
use Rattle.image.specs.Image.{Image, image_of, frame_in, starts_of, readable_slots}
use Rattle.image.specs.declared.Frame.{Frame}
use Rattle.view.specs.Inside.{name_count}
use Rattle.loops.specs.Refusals.{OnLoop}
use Rattle.reader.specs.Reading.{is_empty, reading_of, schema_of, starts_table}
use Rattle.reader.specs.Refusals.{Judged}
use Rattle.reader.specs.declared.Reading.{Reading}

-- the image was read whole, as far as refusals 1 to 6 go, and the starts are those of its slots
pub record Seen (s starts : List ℕ) (f : Frame) : Type 0 where
  pub image : Image
  pub end : ℕ
  pub reads : image_of f.edition s ≡ done image end
  pub frame : f ≡ frame_in image
  pub table : (i : ℕ) → i < image.front.slot_count → get_or starts i 0 ≡ get_or (starts_of image.slots) i 0
  pub room : length starts ≡ image.front.slot_count

-- every part of the image reads back as the schema's part at that place; no newtypes lead back to themselves by terminal
-- types, no aliases by generics; every name that finds a slot finds one that is there
pub record Promise (s starts : List ℕ) (f : Frame) : Type 0 where
  pub small : length s ≤ 65536
  pub named : name_count s ≡ f.names
  pub few_names : f.names ≤ 4096
  pub finds_end : ℕ
  pub finds : read (many f.names (number slot 513)) s f.finds ≡ done (schema_of f.edition s).finds finds_end
  pub count : f.slots ≡ length (schema_of f.edition s).slots
  pub few : f.slots ≤ 512
  -- the starts are those of the slots, and no more
  pub room : length starts ≡ f.slots
  pub slots : (i : ℕ) → i < f.slots → (end : ℕ) × (read (slot_at f.edition f.names) s (get_or starts i 0) ≡ done (slot_of (schema_of f.edition s) i) end)
  -- the slots follow one another
  pub run : (at : ℕ) × (end : ℕ) × (read (many f.slots (slot_at f.edition f.names)) s at ≡ done (schema_of f.edition s).slots end)
  pub few_declared : f.declarations ≤ 1024
  pub declared_end : ℕ
  pub declared : read (many f.declarations (number slot (2 ^ 32))) s f.declared ≡ done (schema_of f.edition s).declared declared_end
  pub found : (n i : ℕ) → get_or (schema_of f.edition s).finds n 0 ≡ suc i → is_empty (slot_of (schema_of f.edition s) i) ≡ false
  pub newtypes : (i : ℕ) → OnLoop Resolved (schema_of f.edition s).finds (slot_of (schema_of f.edition s)) i → ⊥
  pub aliases : (i : ℕ) → OnLoop Expression (schema_of f.edition s).finds (slot_of (schema_of f.edition s)) i → ⊥

-- what reading into a table that had `before` says of the answer, of the table and of what is promised of its first places,
-- one for each slot
pub record Answered (ed : Edition) (s before after : List ℕ) (r : Reading) : Type 0 where
  pub answer : r ≡ reading_of ed s
  pub exact : Judged ed s r
  pub table : after ≡ sets before 0 (starts_of (readable_slots ed s))
  pub edition : (f : Frame) → r ≡ Reading.Accepted f → f.edition ≡ ed
  pub promise : (f : Frame) → r ≡ Reading.Accepted f → Promise s (take f.slots after) f

-- what a public entry says of its answer and of the table that it gives: all zero on a refusal
pub record ReadsAs (ed : Edition) (s : List ℕ) (r : Reading) (starts : List ℕ) : Type 0 where
  pub answer : r ≡ reading_of ed s
  pub table : starts ≡ starts_table ed s
  pub exact : Judged ed s r
