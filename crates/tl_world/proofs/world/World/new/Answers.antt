use Rattle.std.proofs.Common.{◌≡◌, [], rules, subst}
use Rattle.tl_base.specs.declared.place.Settings.{Settings}
use Rattle.tl_places.specs.Places.{AreAt}
use Rattle.tl_world.proofs.AtFirst.{opens_so}
use Rattle.tl_journal.proofs.Named.{opening_tables, sessions_name}
use Rattle.tl_world.proofs.world.World.new.Goals as goal

pub returns-clause-stands : goal.returns-clause-stands
returns-clause-stands c = λ bound few.
    let empty : c.new-2.result.items ≡ [] = search rules in
    opens_so c.places_serve_their_logs.ensures c.args.script.now c.args.settings.now bound c.requires.least_shards c.requires.greatest_shards
    c.requires.least_managers c.requires.greatest_managers few _ c.new-terms.ensures
    (subst (λ (x : Settings). AreAt c.args.script.now x [] c.in_ok-places.places) c.layout.ensures c.in_ok-places.ensures)
    c.in_ok-slots.ensures c.in_ok-commits.ensures empty

pub new-requires-clause-tables : goal.new-requires-clause-tables
new-requires-clause-tables c = opening_tables c.args.script.now c.args.settings.now c.requires.bound

pub new-requires-clause-writes : goal.new-requires-clause-writes
new-requires-clause-writes c = c.requires.bound.writes

pub open_slots-requires-clause-named : goal.open_slots-requires-clause-named
open_slots-requires-clause-named c = sessions_name c.args.script.now c.args.settings.now c.requires.bound
