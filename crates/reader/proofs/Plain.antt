-- The schema of an image of edition one has no limit, and nothing retired in it; and refusals 7 to 9 look at neither, nor at
-- ordinals and bits. Assumes nothing.
use Prim.Native.Nat.{ℕ, zero, suc}
use mathlib.Core.Path.{◌≡◌, refl, sym, ap, ap₂, fun_ext, ◌∙◌}
use mathlib.Core.List.{List, [], ◌∷◌, map, map-map}
use mathlib.Core.Bool.{Bool, true, false, cond}
use lib.Dec.{ltb}
use lib.ListN.{length, get_or, length-map}
use Rattle.number.specs.Grammar.{Grammar, give, take, place, refuse, ◌>>=◌, number, value, many, counted, Outcome, done, refused, and_then, below, read}
use Rattle.tree.specs.TreeAt.{no_kind}
use Rattle.tree.specs.Encoding.{encoding_at}
use Rattle.tree.specs.declared.Sort.{Sort}
use Rattle.tree.specs.declared.Sort.TheVariants.{Resolved, Expression}
use Rattle.slot.specs.Field.{type_at, span_at, stored_at, Field, limit_at, field_at, fields_at}
use Rattle.slot.specs.Slot.{Slot, empty, message, enum, flags, union, newtype, config, alias, trait, impl, message_at, Ordinals, retired_at, ordinals_at, enum_at, flags_at, union_at, newtype_at, alias_at, trait_at, impl_at, made, slot_table, slot_body_at, slot_at}
use Rattle.slot.specs.declared.Edition.TheVariants.{One}
use Rattle.graph.specs.Ways.{Leads, lowest, lowest_looped, has}
use Rattle.image.specs.Schema.{Schema, slot_of}
use Rattle.image.specs.Image.{front_at, Placed, placed_at, declared_at, Image, end_at, image_at, whole, image_of, contents_of, schema_in}
use Rattle.image.specs.Changed.{Change, field_changed, fields_changed, slot_changed, changed, slot_changed_lem, bare}
use Rattle.image.specs.declared.Frame.{Frame}
use Rattle.loops.specs.Leads.{slot_leads, leads, loop_of}
use Rattle.reader.specs.Reading.{is_empty, lost, lost_name, judged, schema_or, schema_of}

-- ## Edition one

-- what a grammar makes has a property, whatever is read
unfoldable Gives : {A : Type 0} → (A → Type 0) → Grammar A → Type 0
Gives P (give a) = P a
Gives P (take role limit k) = (v : ℕ) → Gives P (k v)
Gives P (place k) = (p : ℕ) → Gives P (k p)
Gives P (refuse r p) = Unit {0}

abbrev Holds : {A : Type 0} → (A → Type 0) → Outcome A → Type 0
Holds P (done a n) = P a
Holds P (refused r p) = Unit {0}

gives_read : {A : Type 0} (P : A → Type 0) (g : Grammar A) (s : List ℕ) (at : ℕ) → Gives P g → Holds P (read g s at)
unfolding Gives read and_then
gives_read P (give a) s at h = h
gives_read P (take role limit k) s at h = go (below limit s at) (λ v n. gives_read P (k v) s n (h v))
  where
    go : (o : Outcome ℕ) → ((v n : ℕ) → Holds P (read (k v) s n)) → Holds P (and_then o (λ v n. read (k v) s n))
    go (done v n) f = f v n
    go (refused r p) f = tt
gives_read P (place k) s at h = gives_read P (k at) s at (h at)
gives_read P (refuse r p) s at h = tt

module _ {A B : Type 0} (P : B → Type 0) where
  -- from what the first part makes
  bind : (Q : A → Type 0) (g : Grammar A) (f : A → Grammar B) → Gives Q g → ((a : A) → Q a → Gives P (f a)) → Gives P (◌>>=◌ g f)
  unfolding Gives ◌>>=◌
  bind Q (give a) f h k = k a h
  bind Q (take role limit j) f h k = λ v. bind Q (j v) f (h v) k
  bind Q (place j) f h k = λ p. bind Q (j p) f (h p) k
  bind Q (refuse r p) f h k = tt

  -- or whatever it makes
  after : (g : Grammar A) (f : A → Grammar B) → ((a : A) → Gives P (f a)) → Gives P (◌>>=◌ g f)
  unfolding Gives ◌>>=◌
  after (give a) f k = k a
  after (take role limit j) f k = λ v. after (j v) f k
  after (place j) f k = λ p. after (j p) f k
  after (refuse r p) f k = tt

-- things that a function leaves as they are, one and many
abbrev Kept : {A : Type 0} → (A → A) → Grammar A → Type 0
Kept f g = Gives (λ x. f x ≡ x) g

run : {A : Type 0} (f : A → A) (n : ℕ) (g : Grammar A) → Kept f g → Kept (map f) (many n g)
unfolding Gives many
run f zero g h = refl
run f (suc n) g h =
    bind _ _ g _ h (λ x e. bind _ _ (many n g) _ (run f n g h) (λ xs d. ap₂ ◌∷◌ e d))

counts : {A : Type 0} (f : A → A) (g : Grammar A) → Kept f g → Kept (map f) (counted g)
unfolding Gives counted ◌>>=◌
counts f g h = λ c. run f c g h

abbrev AllKept : {A : Type 0} → (A → A) → List (Grammar A) → Type 0
AllKept f [] = Unit {0}
AllKept f (g ∷ t) = Kept f g × AllKept f t

entry : {A : Type 0} (f : A → A) (t : List (Grammar A)) → AllKept f t → (k : ℕ) → Kept f (get_or t k no_kind)
unfolding Gives ◌>>=◌
entry f [] h k = λ p. tt
entry f (g ∷ t) h zero = h.0
entry f (g ∷ t) h (suc k) = entry f t h.1 k

ordinals_plain : Kept bare.ordinals (ordinals_at One)
unfolding Gives ordinals_at retired_at ◌>>=◌
ordinals_plain = after _ (counted (number value _)) _ (λ os. refl)

-- a slot of one kind, from what the kind holds
abbrev Plain : {A : Type 0} → (A → Slot) → Grammar A → Type 0
Plain f g = Gives (λ x. slot_changed bare (f x) ≡ f x) g

made_plain : {A : Type 0} (f : A → Slot) (g : Grammar A) → Plain f g → Kept (slot_changed bare) (made f g)
unfolding Gives
made_plain f g h = bind _ _ g _ h (λ x e. e)

other_plain : {A : Type 0} (f : A → Slot) (g : Grammar A) → ((x : A) → slot_changed bare (f x) ≡ f x) → Kept (slot_changed bare) (made f g)
unfolding Gives
other_plain f g h = after _ g _ h

enum_plain : Plain enum (enum_at One)
unfolding Gives enum_at slot_changed ◌>>=◌
enum_plain b x w =
    bind _ _ (ordinals_at One) _ ordinals_plain
    (λ os e. ap (λ (o : Ordinals). enum (record { backing = b; non_exhaustive = x; stored_bits = w; ordinals = o })) e)

flags_plain : Plain flags (flags_at One)
unfolding Gives flags_at slot_changed ◌>>=◌
flags_plain w = bind _ _ (ordinals_at One) _ ordinals_plain (λ os e. ap (λ (o : Ordinals). flags (record { stored_bytes = w; bits = o })) e)

abbrev placed_bare : Placed → Placed
placed_bare x = record { start = x.start; content = slot_changed bare x.content }

module _ (n : ℕ) where
  field_plain : Kept (field_changed bare) (field_at One n)
  unfolding Gives field_at limit_at ◌>>=◌
  field_plain m = after _ (encoding_at 32) _ (λ e. after _ (type_at n) _ (λ t. refl))

  fields_plain : Kept (fields_changed bare) (fields_at One n)
  fields_plain = counts (field_changed bare) (field_at One n) field_plain

  message_plain : Plain message (message_at One n)
  unfolding Gives message_at slot_changed
  message_plain =
      after _ span_at _
      (λ p. after _ stored_at _
      (λ z. bind _ _ (fields_at One n) _ fields_plain (λ fs e. ap (λ (l : List Field). message (record { span = p; stored = z; fields = l })) e)))

  union_plain : Plain union (union_at One n)
  unfolding Gives union_at slot_changed
  union_plain =
      after _ stored_at _
      (λ z. bind _ _ (counted (fields_at One n)) _ (counts (fields_changed bare) (fields_at One n) fields_plain)
      (λ vs e. ap (λ (l : List (List Field)). union (record { stored = z; variants = l })) e))

  slot_plain : Kept (slot_changed bare) (slot_at One n)
  unfolding Gives slot_at slot_body_at slot_changed ◌>>=◌
  slot_plain =
      entry (slot_changed bare) (slot_table One n) (
        refl,
        (
          made_plain message (message_at One n) message_plain,
          (
            made_plain enum (enum_at One) enum_plain,
            (
              made_plain flags (flags_at One) flags_plain,
              (
                made_plain union (union_at One n) union_plain,
                (
                  other_plain newtype (newtype_at n) (λ x. refl),
                  (
                    refl,
                    (other_plain alias (alias_at n) (λ x. refl), (other_plain trait (trait_at n) (λ x. refl), (other_plain impl (impl_at n) (λ x. refl), tt))),
                  ),
                ),
              ),
            ),
          ),
        ),
      )

  placed_plain : Kept placed_bare (placed_at One n)
  unfolding Gives placed_at ◌>>=◌
  placed_plain p = bind _ _ (slot_at One n) _ slot_plain (λ x e. ap (λ (y : Slot). record { start = p; content = y }) e)

-- no limit, and nothing retired
abbrev Bare : Schema → Type 0
Bare S = changed bare S ≡ S

image_plain : Gives (λ i. Bare (schema_in i)) (image_at One)
unfolding Gives image_at end_at schema_in changed
image_plain =
    after _ front_at _
    (λ f. bind _ _ (many f.slot_count (placed_at One f.names)) _ (run placed_bare f.slot_count (placed_at One f.names) (placed_plain f.names))
    (λ ss e. after _ declared_at _
    (λ d. ap (λ (l : List Slot). record { finds = f.finds; slots = l; declared = d.declared })
    (map-map (slot_changed bare) (λ x. x.content) ss ∙ sym (map-map (λ x. x.content) placed_bare ss) ∙ ap contents_of e))))

-- an image of edition one, read or not, has no limit and nothing retired anywhere
pub plain_one : (s : List ℕ) → changed bare (schema_of One s) ≡ schema_of One s
unfolding schema_of image_of whole changed
plain_one s = outer (ltb 65536 (length s))
  where
    inner : (b : Bool) (i : Image) (n : ℕ) → Bare (schema_in i) → Bare (schema_or (cond b (refused 6 n) (done i n)))
    inner true i n h = refl
    inner false i n h = h

    ends : (o : Outcome Image) → Holds (λ i. Bare (schema_in i)) o → Bare (schema_or (whole s o))
    ends (done i n) h = inner (ltb n (length s)) i n h
    ends (refused r p) h = refl

    outer : (b : Bool) → Bare (schema_or (cond b (refused 1 0) (whole s (read (image_at One) s 0))))
    outer true = refl
    outer false = ends (read (image_at One) s 0) (gives_read _ (image_at One) s 0 image_plain)

module _ (c : Change) where
  -- ## Refusals 7 to 9

  empty_changed : (x : Slot) → is_empty (slot_changed c x) ≡ is_empty x
  unfolding slot_changed
  empty_changed empty = refl
  empty_changed (message m) = refl
  empty_changed (enum e) = refl
  empty_changed (flags f) = refl
  empty_changed (union u) = refl
  empty_changed (newtype n) = refl
  empty_changed config = refl
  empty_changed (alias a) = refl
  empty_changed (trait t) = refl
  empty_changed (impl i) = refl

  leads_changed : (sort : Sort) (finds : List ℕ) (x : Slot) → slot_leads sort finds (slot_changed c x) ≡ slot_leads sort finds x
  unfolding slot_leads slot_changed
  leads_changed sort finds empty = refl
  leads_changed sort finds (message m) = refl
  leads_changed sort finds (enum e) = refl
  leads_changed sort finds (flags f) = refl
  leads_changed sort finds (union u) = refl
  leads_changed Resolved finds (newtype n) = refl
  leads_changed Expression finds (newtype n) = refl
  leads_changed sort finds config = refl
  leads_changed Resolved finds (alias a) = refl
  leads_changed Expression finds (alias a) = refl
  leads_changed sort finds (trait t) = refl
  leads_changed sort finds (impl i) = refl

  module _ (S : Schema) where
    lost_changed : (find : ℕ) → lost (slot_of (changed c S)) find ≡ lost (slot_of S) find
    unfolding lost
    lost_changed zero = refl
    lost_changed (suc i) = ap is_empty (slot_changed_lem c S i) ∙ empty_changed (slot_of S i)

    names_changed : (finds : List ℕ) → lost_name finds (slot_of (changed c S)) ≡ lost_name finds (slot_of S)
    unfolding lost_name
    names_changed finds = ap (λ (p : ℕ → Bool). lowest p (length finds) 0) (fun_ext (λ n. lost_changed (get_or finds n 0)))

    loop_changed : (sort : Sort) (finds : List ℕ) (count : ℕ) → loop_of sort finds (slot_of (changed c S)) count ≡ loop_of sort finds (slot_of S) count
    unfolding loop_of leads
    loop_changed sort finds count =
        ap (λ (e : Leads). lowest_looped e count)
        (fun_ext (λ i. fun_ext (λ j. ap (has j) (ap (slot_leads sort finds) (slot_changed_lem c S i) ∙ leads_changed sort finds (slot_of S i)))))

    pub judged_changed : (f : Frame) → judged (changed c S) f ≡ judged S f
    unfolding judged changed
    judged_changed f = rw (names_changed, length-map, loop_changed Resolved, loop_changed Expression)
