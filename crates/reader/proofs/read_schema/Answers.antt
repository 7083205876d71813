use Rattle.reader.proofs.read_schema.Goals as goal

pub returns : goal.returns
returns c = c.read_edition.ensures
