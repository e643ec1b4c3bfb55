use Rattle.tl_node.specs.Named.{AreNamed-prop}
use Rattle.tl_node.specs.declared.kept.Core.{Core}
use Rattle.tl_node.proofs.Ending.{reserved}
use Rattle.tl_node.proofs.ends.last.Goals as goal

pub returns-in-Ok : goal.returns-in-Ok
returns-in-Ok c =
    let core : Core = c.args.core.now in
    reserved core (record core { answers = c.reserve.new.self; named = c.core-1.given.0 }) c.args.answer c.last_with_room.result
    (λ i. record core { answers = c.reserve.new.self; named = AreNamed-prop core.catalog core.statements c.core-1.given.0 core.named i }) c.in-Ok.ensures.items
    c.last_with_room.ensures
