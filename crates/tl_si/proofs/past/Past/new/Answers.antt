use Rattle.std.proofs.Common.{ap, sym, ◌∙◌}
use Rattle.tl_si.specs.Places.{Records, places_from, places_of}
use Rattle.tl_si.proofs.Found.{none_found}
use Rattle.tl_si.proofs.past.Past.new.Goals as goal

pub invariant_of-result : goal.invariant_of-result
invariant_of-result c key = ap (λ (r : Records). places_of r key) c.new-2.ensures ∙ none_found key ∙ ap (places_from 0 key) (sym c.new.ensures)
