use Rattle.parts.proofs.Listing.{type_at_lem}
use Rattle.parts.proofs.type_place.Goals as goal

pub returns : goal.returns
returns c = type_at_lem _ _ _ _ _ c.skip_below-name.ensures c.skip_encoding.ensures _ c.place_of.ensures
