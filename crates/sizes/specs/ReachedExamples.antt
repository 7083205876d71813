-- What is reached, what leads back to itself, and how many nodes are met: worked cases, by computation. Assumes nothing.
use Rattle.std.specs.Prelude.{◌≡◌, refl, ℕ, List, [], ◌∷◌, map}
use Rattle.tree.specs.Tree.{Tree, wrap, fixed_array, pair, optional, array, vec3, map_of, result_of}
use Rattle.tree.specs.Encoding.{default, varint, delta, zig_zag}
use Rattle.slot.specs.Field.{Stored}
use Rattle.slot.specs.Slot.{Slot}
use Rattle.graph.specs.Ways.{via, lowest, has}
use Rattle.graph.specs.declared.Lowest.{Lowest}
use Rattle.image.specs.Schema.{Schema, slot_of}
use Rattle.sizes.specs.Elements.{limited_element}
use Rattle.sizes.specs.Names.{content_in, content_of}
use Rattle.sizes.specs.Lengths.{type_parts, encoded_parts, element_parts, own_parts, fields_parts, variants_parts, content_parts}
use Rattle.sizes.specs.Nodes.{type_nodes, encoded_nodes, element_nodes, own_nodes, fields_nodes, variants_nodes, content_nodes}
use Rattle.sizes.specs.Reached.{reached_from, leading_back, sum_below, visits_of}
use Rattle.sizes.specs.Examples.{all, declaring, each, of, encoded, a_message, a_union, a_newtype, an_enum, u8, u16, string, slot}

-- the lowest slot that is reached and leads back, and the nodes of what is reached
pub record Case : Type 0 where
  pub of : Schema
  pub back : Lowest
  pub visits : ℕ

abbrev free : Schema → (visits : ℕ) → Case
free S n = record { of = S; back = Lowest.Nowhere; visits = n }

abbrev loops : Schema → (slot visits : ℕ) → Case
loops S i n = record { of = S; back = Lowest.At i; visits = n }

-- a message of one field with a limit
abbrev up_to : ℕ → Tree → Slot
up_to n t = a_message Stored.none (record { field_name = 0; encoding = default; type = t; limit = n } ∷ [])

-- A { B, B }, B { C, C }, C { U8, U8 }
abbrev doubling : List ℕ → Schema
doubling ds = declaring ds (of (slot 1 ∷ slot 1 ∷ []) ∷ of (slot 2 ∷ slot 2 ∷ []) ∷ of (u8 ∷ u8 ∷ []) ∷ [])

-- A { t }; N = newtype Optional<B>, B { N }
abbrev apart : (declared : List ℕ) → (first : Tree) → Schema
apart ds t = declaring ds (of (t ∷ []) ∷ a_newtype (wrap optional (slot 2)) ∷ of (slot 1 ∷ []) ∷ [])

abbrev pub cases : List Case
cases =
    -- each once, declared or not, first or last
    free (doubling (0 ∷ 1 ∷ 2 ∷ [])) 6
    ∷ free (doubling (0 ∷ [])) 6
    ∷ free (doubling (2 ∷ 1 ∷ 1 ∷ [])) 4
    -- a newtype is met once too; enums, missing slots and what is not reached have no nodes
    ∷ free (all (of (slot 1 ∷ wrap optional (slot 1) ∷ []) ∷ a_newtype (pair result_of u8 u16) ∷ [])) 6
    ∷ free (all (of (slot 1 ∷ slot 7 ∷ []) ∷ an_enum 0 (0 ∷ []) ∷ a_newtype u8 ∷ [])) 2
    -- a Varint or ZigZag field is one node and has no parts
    ∷ free (all (encoded varint (wrap optional (slot 0)) ∷ encoded (delta zig_zag) (slot 1) ∷ [])) 2
    ∷ free (all (encoded (delta default) (wrap optional u16) ∷ [])) 2
    -- elements count where a limit bears on them
    ∷ free (all (of (wrap array (wrap optional u8) ∷ pair map_of u8 u16 ∷ []) ∷ [])) 2
    ∷ free (all (up_to 2 (wrap array (wrap optional u8)) ∷ up_to 2 (pair map_of u8 u16) ∷ up_to 2 (wrap vec3 u8) ∷ [])) 8
    -- a union's variants
    ∷ free (all (a_union (each (u8 ∷ []) ∷ [] ∷ each (string ∷ wrap vec3 u8 ∷ []) ∷ []) ∷ [])) 4
    -- A { [A; 0] }, and A { Array<A> } with limit 2 and without
    ∷ loops (all (of (fixed_array (slot 0) 0 ∷ []) ∷ [])) 0 2
    ∷ loops (all (up_to 2 (wrap array (slot 0)) ∷ [])) 0 2
    ∷ free (all (of (wrap array (slot 0) ∷ []) ∷ [])) 1
    -- a loop that no declared message reaches is none, though a newtype on it is declared
    ∷ free (apart (0 ∷ 1 ∷ []) u8) 1
    -- the slot is the lowest on the loop, not one that only leads to it
    ∷ loops (apart (0 ∷ []) (slot 2)) 1 4
    ∷ []

abbrev pub found : List Case → List Case
found cs = map (λ c. record { of = c.of; back = leading_back c.of; visits = visits_of c.of }) cs

pub cases_hold : found cases ≡ cases
unfolding leading_back visits_of reached_from sum_below lowest via has slot_of content_of content_in content_parts variants_parts fields_parts own_parts element_parts encoded_parts type_parts limited_element content_nodes variants_nodes fields_nodes own_nodes element_nodes encoded_nodes type_nodes
cases_hold = refl
