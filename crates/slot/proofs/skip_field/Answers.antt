use Rattle.number.proofs.Reading.{steps4}
use Rattle.slot.specs.Field.{field_at}
use Rattle.number.specs.Grammar.{name}
use Rattle.slot.proofs.skip_field.Goals as goal

pub returns : goal.returns
unfolding field_at
returns c = steps4 _ _ _ _ _ (λ n e t l. record { field_name = n; encoding = e; type = t; limit = l }) _ _ _ _ _ (c.skip-name.ensures name) c.skip_encoding-encoding.ensures c.skip_tree-limited.ensures c.skip_limit.ensures
