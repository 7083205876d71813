-- Contracts of inner functions: the answer and both tables once the sizes stand, and what the search for findings asks.
use Rattle.std.specs.Prelude.{ℕ, ◌≡◌, List, [], Bool, true, false, length}
use Rattle.table.specs.Fitted.{fitted}
use Rattle.image.specs.Schema.{Schema}
use Rattle.image.specs.declared.Frame.{Frame}
use Rattle.reader.specs.Reading.{schema_of}
use Rattle.reader.specs.Promise.{Promise}
use Rattle.findings.specs.Finding.{noted}
use Rattle.findings.specs.Findings.{findings_of}
use Rattle.findings.specs.Conformance.{has_impl}
use Rattle.order.specs.Order.{is_ordered}
use Rattle.typeck.specs.Check.{judged, on_accepted}
use Rattle.typeck.specs.declared.Verdict.{Verdict}

-- what is said of a schema whose sizes stand in the table
pub record Found (S : Schema) (sizes sizes_after findings findings_after : List ℕ) (r : Verdict) : Type 0 where
  pub answer : r ≡ judged (length findings) S
  pub size_table : sizes_after ≡ on_accepted r (length sizes) sizes
  pub finding_table : findings_after ≡ on_accepted r (length findings) (noted (length findings) (findings_of S))

-- an accepted image, what is known of its order and its impls, and a findings table that is all zero
pub record Searchable (s starts : List ℕ) (f : Frame) (in_order impls : Bool) (findings : List ℕ) : Type 0 where
  pub promise : Promise s starts f
  pub blank : findings ≡ fitted (length findings) []
  pub order : in_order ≡ true → is_ordered (schema_of f.edition s) ≡ true
  pub none : impls ≡ false → has_impl (schema_of f.edition s).slots ≡ false
