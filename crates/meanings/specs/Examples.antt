-- Worked examples of meanings. Names: 0 T, 1 U, 2 Box, 3 Twice, 4 Fixed, 5 Second, 6 Both, 7 M, 8 nothing.
--     Box<T> = T    Twice<T> = Box<Box<T>>    Fixed<> = M    Second<T, U> = U    Both<T, T> = T    M is a message, of slot 5
use Rattle.std.specs.Prelude.{ℕ, ◌≡◌, refl, List, [], ◌∷◌, map, cond, eqb}
use Rattle.tree.specs.Tree.{Tree, leaf, primitive, named, qualified, wrap, optional, pair, map_of, generic}
use Rattle.slot.specs.Field.{none}
use Rattle.slot.specs.Slot.{Slot, message, alias}
use Rattle.image.specs.Schema.{Schema, slot_of}
use Rattle.findings.specs.Meaning.{resolved, argument_of, leaf_value, value_of, leaf_meant, substitute, applied, meaning_of}
use Rattle.meanings.specs.Rank.{rank, height, rank_of}
use Rattle.meanings.specs.Occurs.{occurs}
use Rattle.meanings.specs.Places.{looked_up}
use Rattle.meanings.specs.declared.Found.{Found}

abbrev alias_slot : List ℕ → Tree → Slot
alias_slot ps e = alias (record { parameters = ps; target = e })

abbrev schema : Schema
schema =
    record {
      finds = 0 ∷ 0 ∷ 1 ∷ 2 ∷ 3 ∷ 4 ∷ 5 ∷ 6 ∷ 0 ∷ [];
      slots =
          alias_slot (0 ∷ []) (leaf (named 0))
          ∷ alias_slot (0 ∷ []) (generic 2 (generic 2 (leaf (named 0))))
          ∷ alias_slot [] (leaf (named 7))
          ∷ alias_slot (0 ∷ 1 ∷ []) (leaf (named 1))
          ∷ alias_slot (0 ∷ 0 ∷ []) (leaf (named 0))
          ∷ message (record { span = record { offset = 0; length = 0 }; stored = none; fields = [] })
          ∷ [];
      declared = [];
    }

-- an expression, and what it means where the trait's parameter T stands for U8
pub record Line : Type 0 where
  pub expression : Tree
  pub meant : Tree

abbrev pub lines : List Line
lines =
    -- a parameter, in a wrapper too; a qualified name that equals it is resolved, and nothing is found
    record { expression = wrap optional (leaf (named 0)); meant = wrap optional (leaf (primitive 3)) }
    ∷ record { expression = leaf (qualified 0); meant = leaf (named 4294967295) }
    -- names that are no parameters: found, and not found
    ∷ record { expression = leaf (named 7); meant = leaf (named 5) }
    ∷ record { expression = leaf (named 8); meant = leaf (named 4294967295) }
    -- one parameter: of a name, of what is no name, of a parameter that stands for none
    ∷ record { expression = generic 2 (leaf (named 7)); meant = leaf (named 5) }
    ∷ record { expression = generic 2 (wrap optional (leaf (named 7))); meant = leaf (named 4294967295) }
    ∷ record { expression = generic 2 (leaf (named 0)); meant = leaf (named 4294967295) }
    -- a generic within a generic, and one within an alias
    ∷ record { expression = generic 2 (generic 2 (leaf (named 7))); meant = leaf (named 5) }
    ∷ record { expression = generic 3 (leaf (qualified 7)); meant = leaf (named 5) }
    -- no parameter; several, of which the second has no argument; a repeated one
    ∷ record { expression = generic 4 (leaf (primitive 0)); meant = leaf (named 5) }
    ∷ record { expression = generic 5 (leaf (named 7)); meant = leaf (named 4294967295) }
    ∷ record { expression = generic 6 (leaf (named 7)); meant = leaf (named 5) }
    -- generics of what is no alias: a message, a name not found
    ∷ record { expression = generic 7 (leaf (named 7)); meant = leaf (named 4294967295) }
    ∷ record { expression = generic 8 (leaf (named 7)); meant = leaf (named 4294967295) }
    ∷ []

pub lines_hold : map (λ l. meaning_of schema (0 ∷ []) (leaf (primitive 3) ∷ []) l.expression) lines ≡ map (λ l. l.meant) lines
unfolding meaning_of substitute leaf_meant argument_of resolved applied value_of leaf_value slot_of
lines_hold = refl

-- `Twice` leads to `Box`, which leads nowhere
pub ranks : rank_of schema (generic 3 (leaf (named 0))) ≡ 2
unfolding rank height slot_of
ranks = refl

abbrev twice : Tree
twice = pair map_of (leaf (named 0)) (generic 2 (pair map_of (leaf (named 1)) (leaf (qualified 3))))

-- plain names are looked up at each occurrence, in generics too; a generic's own name and a qualified one are not
pub look_ups_lem : occurs twice ≡ 2
unfolding occurs
look_ups_lem = refl

-- where the argument of name 0 stands at 9, and no other name has one: the places of names 0 and 1 are set, no others
pub look_up_places : looked_up (λ n. cond (eqb n 0) (Found.At 9) Found.Nothing) twice (0 ∷ 0 ∷ 0 ∷ 5 ∷ []) ≡ 11 ∷ 1 ∷ 0 ∷ 5 ∷ []
unfolding looked_up
look_up_places = refl
