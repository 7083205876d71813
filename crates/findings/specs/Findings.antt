-- All findings of a schema, in order.
use Rattle.std.specs.Prelude.{List, ◌++◌}
use Rattle.image.specs.Schema.{Schema}
use Rattle.findings.specs.Endless.{endless_of}
use Rattle.findings.specs.Conformance.{conformance_of}
use Rattle.findings.specs.declared.Finding.{Finding}

unfoldable pub findings_of : Schema → List Finding
findings_of S = endless_of S S.declared ++ conformance_of S 0 S.slots
