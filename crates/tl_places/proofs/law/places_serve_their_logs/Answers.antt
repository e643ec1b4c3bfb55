use Rattle.tl_places.proofs.Begun.{are_served}
use Rattle.tl_places.proofs.law.places_serve_their_logs.Goals as goal

pub returns : goal.returns
returns c = are_served
