-- Refusal 15 as a reader thinks of it: the head board gives it exactly where the image passes 1 to 9 and a slot brings a size, and its
-- place is the lowest such slot, whatever table is lent. The ordinary check never gives it.
use Rattle.std.specs.Prelude.{ℕ, ◌≡◌, List, ◌↔◌}
use Rattle.std.proofs.Math.Option.{some}
use Rattle.slot.specs.declared.Edition.{Edition}
use Rattle.image.specs.Schema.{Schema}
use Rattle.reader.specs.Reading.{schema_of}
use Rattle.reader.specs.Refusals.{LowestWith, Passes9}
use Rattle.sizes.specs.declared.Size.{Size}
use Rattle.sizes.specs.Check.{brought}
use Rattle.sizes.specs.Demand.{BringsNone}
use Rattle.turns.specs.declared.Entry.TheVariants.{Ordinary, HeadBoard}
use Rattle.turns.specs.declared.Sizing.{Sizing}
use Rattle.turns.specs.Sizing.{sizing_of}

-- a message or union brings a stored size
abbrev pub Brings : Schema → (slot : ℕ) → Type 0
Brings S i = (s : Size) × (brought S i ≡ some s)

pub record Fifteen (ed : Edition) (places : ℕ) (s : List ℕ) : Type 0 where
  pub exactly : (x : ℕ) → (sizing_of HeadBoard ed places s ≡ Sizing.Refused 15 x) ↔ (Passes9 ed s × LowestWith (Brings (schema_of ed s)) x)
  pub ordinary : (x : ℕ) → sizing_of Ordinary ed places s ≡ Sizing.Refused 15 x → ⊥
  -- so what the head board accepts brings none: the provisos of demand 3 that speak of stored sizes hold of it
  pub accepted : sizing_of HeadBoard ed places s ≡ Sizing.Accepted → BringsNone (schema_of ed s)
