use Rattle.reader.proofs.read_schema_two.Goals as goal

pub returns : goal.returns
returns c = c.read_edition.ensures
