use Rattle.std.specs.Option.{option_copied}
use Rattle.tl_descriptor.proofs.Searches.{found_is}
use Rattle.tl_descriptor.proofs.runs.find_run.Goals as goal

pub returns-in-Some : goal.returns-in-Some
returns-in-Some c =
    let found = found_is c.args.base c.args.runs.now c.args.run.now c.count_below.result (option_copied c.get.result) c.requires.apart c.requires.some (rw (← c.as_slice.ensures) c.count_below.ensures) c.get.ensures.value in
    rw c.in-Some.is at found

pub returns-in-None : goal.returns-in-None
returns-in-None c =
    let found = found_is c.args.base c.args.runs.now c.args.run.now c.count_below.result (option_copied c.get.result) c.requires.apart c.requires.some (rw (← c.as_slice.ensures) c.count_below.ensures) c.get.ensures.value in
    rw c.in-None.is at found
