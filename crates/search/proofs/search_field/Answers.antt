use Rattle.search.proofs.Sought.{looks_up, places_hold, search_asked, found_if}
use Rattle.search.proofs.search_field.Goals as goal

pub has_field-found-requires : goal.has_field-found-requires
has_field-found-requires c = search_asked c.requires _ _ _ c.look_up-looked.ensures.right

pub returns : goal.returns
returns c =
    record {
      found = found_if c.requires _ _ _ c.look_up-looked.ensures.right _ _ c.has_field-found.ensures;
      look_ups = looks_up c.requires _ _ _ c.look_up-looked.ensures.right;
      table = places_hold c.requires _ _ _ c.look_up-looked.ensures.right;
    }
