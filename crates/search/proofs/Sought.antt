-- A trait field that is searched: its names are looked up, then fields are tried. Assumes nothing.
use Prim.Native.Nat.{ℕ}
use mathlib.Core.Path.{◌≡◌, sym, subst, ◌∙◌}
use mathlib.Core.List.{List}
use mathlib.Core.Bool.{Bool}
use native.Mathlib.Omega.{arith}
use Rattle.number.specs.Grammar.{done, read}
use Rattle.number.proofs.Reading.{given}
use Rattle.tree.specs.Tree.{Tree}
use Rattle.slot.specs.Field.{expression_at}
use Rattle.image.specs.declared.Frame.{Frame}
use Rattle.meanings.specs.Places.{argument_place, looked_up, Sound, Bound, LookAsked, RightLook}
use Rattle.meanings.proofs.Noting.{Noted, looked_noted}
use Rattle.search.specs.Search.{SearchAsked, HasField, FieldSought, FoundIf, LooksUp, PlacesHold}

module _ {s starts : List ℕ} {f : Frame} {finds before : List ℕ} {list start arguments fields count expression : ℕ}
    (a : FieldSought s starts f finds before list start arguments fields count expression) (after : List ℕ) where
  -- the parameters and types of any reading are those that were asked with
  sound_before : (ps : List ℕ) (ts : List Tree) → Bound f.names s list start arguments ps ts → Sound f.names s ps ts before
  sound_before ps ts b =
      let same : a.looks.parameters ≡ ps = (given (sym a.looks.bound.parameters_read ∙ b.parameters_read)).0 in
      let types : a.looks.types ≡ ts = (given (sym a.looks.bound.arguments_read ∙ b.arguments_read)).0 in
      subst (λ (x : List Tree). Sound f.names s ps x before) types (subst (λ (x : List ℕ). Sound f.names s x a.looks.types before) same a.sound)

  noted : (look : LookAsked f.names 32 s expression list start arguments)
      → after ≡ looked_up (argument_place f.names s look.parameters start arguments) look.tree before
      → Noted f.names s look.parameters look.types look.tree before after
  noted look e = looked_noted look a.ready.promise.small before after a.room e

  -- what the table says stays right
  pub still_sound : PlacesHold f.names s list start arguments expression before after → Sound f.names s a.looks.parameters a.looks.types after
  still_sound h =
      let k = a.looks in
      (noted k (h k.parameters k.types k.bound k.tree k.end k.reads)).sound a.sound

  module _ (look_ups next : ℕ) (l : RightLook f.names 32 s expression list start arguments before after look_ups next) where
    abbrev looks : (ps : List ℕ) (ts : List Tree) → Bound f.names s list start arguments ps ts → (e : Tree) (end : ℕ) → read (expression_at f.names) s expression ≡ done e end
        → LookAsked f.names 32 s expression list start arguments
    looks ps ts b e end q = record { few = omega arith; parameters = ps; types = ts; bound = b; tree = e; end = end; reads = q }

    pub looks_up : LooksUp f.names s expression look_ups next
    looks_up e end q = let j = l (looks a.looks.parameters a.looks.types a.looks.bound e end q) in (j.0, j.2)

    pub places_hold : PlacesHold f.names s list start arguments expression before after
    places_hold ps ts b e end q = (l (looks ps ts b e end q)).1

    pub search_asked : SearchAsked s starts f finds after fields count expression
    search_asked =
        let k = a.looks in
        let n = noted k (l k).1 in
        record {
          ready = a.ready;
          list = a.own;
          list_end = a.own_end;
          list_read = a.own_read;
          expressed = record {
            parameters = k.parameters;
            arguments = k.types;
            sound = n.sound a.sound;
            tree = k.tree;
            end = k.end;
            reads = k.reads;
            known = n.known;
          };
        }

    pub found_if : (name : ℕ) (r : Bool) → HasField f s after fields count name expression r → FoundIf f s list start arguments fields count name expression r
    found_if name r h fs m rf ps ts b e end q =
        let n = noted (looks ps ts b e end q) (places_hold ps ts b e end q) in
        h fs m ps ts e end rf (n.sound (sound_before ps ts b)) q n.known
