-- What the code's steps say of a slot and of what stands in it.
use Rattle.std.specs.Prelude.{ℕ, ◌≡◌, ◌<◌, List, Bool}
use Rattle.std.specs.Bool.{then_some}
use Rattle.std.specs.declared.option.Option.{Option}
use Rattle.number.specs.Grammar.{done, read}
use Rattle.slot.specs.Field.{limit_at, Field}
use Rattle.slot.specs.declared.Edition.{Edition}
use Rattle.reader.specs.Reading.{schema_of}
use Rattle.reader.specs.Promise.{Promise}
use Rattle.order.specs.declared.Origin.{Origin}
use Rattle.order.specs.Order.{leads_on, bare_type}

-- the test of a bare name of the slot
abbrev pub onward : Origin → ℕ → Bool
onward o = leads_on o.up (schema_of o.frame.edition o.image.now) o.slot

-- the slot is one of an accepted image
abbrev pub Within : Origin → Type 0
Within o = Promise o.image.now o.starts.now o.frame × (o.slot < o.frame.slots)

-- the position between a field's type and its limit, if its bare name passes the test
abbrev pub PassesTyped : (test : ℕ → Bool) → Edition → (s : List ℕ) → Field → (end : ℕ) → Option ℕ → Type 0
PassesTyped test ed s x end r = (n : ℕ) × (r ≡ then_some (bare_type test x.type) n) × (read (limit_at ed) s n ≡ done x.limit end)
