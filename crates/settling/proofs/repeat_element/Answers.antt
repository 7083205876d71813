use mathlib.Core.Path.{refl}
use Rattle.number.proofs.Reading.{told}
use Rattle.sizes.specs.Sizes.{then}
use Rattle.settling.proofs.Ended.{not_over, not_refused, counted_as, at_count}
use Rattle.settling.proofs.repeat_element.Goals as goal

pub returns-in-Value : goal.returns-in-Value
unfolding then
returns-in-Value c =
    record {
      next = λ count end q z e. at_count (told c.read_whole.ensures c.in-Value.is) q;
      sized = λ z q. (_, c.in-Sized.is);
      worked = λ count end q. counted_as c.in-Sized.is (told c.read_whole.ensures c.in-Value.is) q c.fixed_array_wire_size.ensures;
    }

pub returns-in-Refused : goal.returns-in-Refused
unfolding then
returns-in-Refused c =
    record {
      next = λ count end q z e. absurd (not_over refl e);
      sized = λ z e. absurd (not_over refl e);
      worked = λ count end q. absurd (not_refused (told c.read_whole.ensures c.in-Refused.is) (q _ c.in-Sized.is));
    }

pub returns-in-Over : goal.returns-in-Over
unfolding then
returns-in-Over c = record { next = λ count end q z e. absurd (not_over c.in-Over.is e); sized = λ z q. absurd (not_over c.in-Over.is q); worked = λ count end q. simp c.in-Over.is }
