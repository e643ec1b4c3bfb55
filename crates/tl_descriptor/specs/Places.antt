-- Where a tid is put among the runs.
use Rattle.std.specs.Prelude.{ℕ, zero, suc, ◌+◌, ◌-◌, ◌==◌, List, Option, Some, None, insert, remove, slice_get, slice_set, if◌then◌else◌}
use Rattle.tl_descriptor.specs.declared.run.Run.{Run}

-- the run, where it ends right before the tid
abbrev pub ending_before : ℕ → Option Run → Option Run
ending_before tid None = None
ending_before tid (Some run) = if tid == run.high + 1 then Some run else None

-- the run, where it begins right after the tid
abbrev pub beginning_after : ℕ → Option Run → Option Run
beginning_after tid None = None
beginning_after tid (Some run) = if run.low == tid + 1 then Some run else None

-- the run before this place, where it ends right before the tid
abbrev pub run_before : ℕ → ℕ → List Run → Option Run
run_before tid zero runs = None
run_before tid (suc place) runs = ending_before tid (slice_get runs place)

-- the run at this place, where it begins right after the tid
abbrev pub run_after : ℕ → ℕ → List Run → Option Run
run_after tid place runs = beginning_after tid (slice_get runs place)

-- the runs with the tid at this place, which is joined to the runs before and after it
abbrev pub put_at : ℕ → ℕ → Option Run → Option Run → List Run → List Run
put_at tid place (Some before) (Some after) runs = slice_set (remove runs place) (place - 1) (record { low = before.low; high = after.high })
put_at tid place (Some before) None runs = slice_set runs (place - 1) (record { low = before.low; high = tid })
put_at tid place None (Some after) runs = slice_set runs place (record { low = tid; high = after.high })
put_at tid place None None runs = insert runs place (record { low = tid; high = tid })
