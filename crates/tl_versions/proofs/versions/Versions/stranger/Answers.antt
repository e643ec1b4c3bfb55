use Rattle.std.specs.Option.{option_copied}
use Rattle.tl_versions.proofs.Lists.{stranger_found}
use Rattle.tl_versions.proofs.versions.Versions.stranger.Goals as goal

pub returns-in-Some : goal.returns-in-Some
returns-in-Some c =
    let found = stranger_found c.args.snapshot.now c.args.self.now c.count_inside-place.result (option_copied c.get.result) (rw c.list.ensures at c.count_inside-place.ensures) (rw c.self.view_is at c.get.ensures.value) in
    rw c.in-Some.is at found

pub returns-in-None : goal.returns-in-None
returns-in-None c =
    let found = stranger_found c.args.snapshot.now c.args.self.now c.count_inside-place.result (option_copied c.get.result) (rw c.list.ensures at c.count_inside-place.ensures) (rw c.self.view_is at c.get.ensures.value) in
    rw c.in-None.is at found
