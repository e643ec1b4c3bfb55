use Rattle.std.specs.Option.{option_copied}
use Rattle.tl_versions.proofs.Lists.{visible_found}
use Rattle.tl_versions.proofs.versions.Versions.visible.Goals as goal

pub returns : goal.returns
returns c =
    visible_found c.args.snapshot.now c.args.self.now c.count_outside.result (option_copied c.get.result) (rw c.list.ensures at c.count_outside.ensures) (rw c.self.view_is at c.get.ensures.value)
