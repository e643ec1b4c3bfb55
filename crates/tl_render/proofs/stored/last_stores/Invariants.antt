use Rattle.std.proofs.Common.{◌≡◌, ℕ, List, drop}
use Rattle.std.specs.FinMap as finmap
use Rattle.std.specs.Option.{option_copied}
use Rattle.tl_protocol.specs.Store.{last_of}
use Rattle.tl_render.specs.Stored.{last_stored}
use Rattle.tl_render.proofs.stored.last_stores.Given as goal

-- what is left to be stored over what was stored so far is all
abbrev pub invariant-loop-event : goal.invariant-loop-event
invariant-loop-event l =
    (key : List ℕ) → last_of (option_copied (finmap.get l.stores key)) (last_stored (drop l.event-index l.events) key) ≡ last_stored l.events key
