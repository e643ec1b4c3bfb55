-- How far an attempt to commit is, by what it stores: an own record, or how it ends.
use Rattle.std.specs.Prelude.{◌≡◌, ◌<◌, false, length, None, nat_le, slice_get, IsSome, if◌then◌else◌}
use Rattle.tl_txn.specs.declared.phase.Deciding.{Deciding}
use Rattle.tl_txn.specs.declared.phase.Removing.{Removing}
use Rattle.tl_txn.specs.declared.phase.RemovesAt.{RemovesAt}
use Rattle.tl_txn.specs.declared.phase.RemovesAt.TheVariants as removes
use Rattle.tl_txn.specs.declared.phase.Storing.{Storing}
use Rattle.tl_txn.specs.declared.phase.StoresAt.{StoresAt}
use Rattle.tl_txn.specs.declared.phase.StoresAt.TheVariants as stores
use Rattle.tl_txn.specs.declared.phase.Undoing.{Undoing}

-- ---- it stores its versions, and then its decision

abbrev pub decision : Deciding → Storing
decision d = record { attempt = d.attempt; log = d.log; stored = d.stored; loaded = false }

abbrev pub storing_at : StoresAt → Storing
storing_at (stores.Record s) = s
storing_at (stores.Decision d) = decision d

-- there is an own record in hand, or none is left
abbrev pub IsStoring : StoresAt → Type 0
IsStoring (stores.Record s) = s.stored < length s.attempt.own
IsStoring (stores.Decision d) = slice_get d.attempt.own d.stored ≡ None

-- ---- it removes its versions, and then is undone

abbrev pub undoing : Undoing → Removing
undoing u = record { attempt = u.attempt; log = u.log; rival = u.rival; stored = u.stored; removed = u.removed; loaded = false }

abbrev pub removing_at : RemovesAt → Removing
removing_at (removes.Record r) = r
removing_at (removes.Undone u) = undoing u

-- the own record in hand, of those whose versions are to be removed
abbrev pub IsRemoving : RemovesAt → Type 0
IsRemoving (removes.Record r) = IsSome (if nat_le r.stored r.removed then None else slice_get r.attempt.own r.removed)
IsRemoving (removes.Undone u) = (if nat_le u.stored u.removed then None else slice_get u.attempt.own u.removed) ≡ None
