use Rattle.tl_places.proofs.Begun.{have_opened}
use Rattle.tl_places.proofs.places.Places.new.Goals as goal

pub returns : goal.returns
returns c =
    have_opened c.args.script.now c.args.layout (record { shards = c.in_ok-shards.shards.items; managers = c.in_ok-managers.managers.items }) c.in_ok-shards.ensures
    c.in_ok-managers.ensures
