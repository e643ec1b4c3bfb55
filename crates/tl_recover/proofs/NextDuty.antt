-- The next duty by the first of those that are left.
use Rattle.std.proofs.Common.{◌≡◌, ℕ, List, [], ◌∷◌, Some, None, refl, ap}
use Rattle.tl_base.specs.declared.place.Settings.{Settings}
use Rattle.tl_recover.specs.Duties.{first_of}
use Rattle.tl_recover.specs.Taken.{finding, next_duty}

pub to_first : (settings : Settings) (node : ℕ) (nodes : List ℕ) → Some node ≡ first_of nodes → finding settings node ≡ next_duty settings nodes
to_first settings node [] first = absurd cc
to_first settings node (next ∷ later) first = let same : node ≡ next = cc in ap (finding settings) same

pub to_end : (settings : Settings) (nodes : List ℕ) → None ≡ first_of nodes → next_duty settings [] ≡ next_duty settings nodes
to_end settings [] first = refl
to_end settings (next ∷ later) first = absurd cc
