-- What was written so far is what the sink took, and each turn writes a byte.
use Rattle.std.proofs.Common.{◌≡◌, ◌-◌, ◌≤◌, length, take}
use Rattle.tl_io.specs.Told.{append}
use Rattle.tl_io.proofs.writing.write_all.Given as goal

abbrev pub invariant-loop-written : goal.invariant-loop-written
invariant-loop-written g l =
    let held = g.K.Sink.held in
    let faults = g.K.Sink.faults in
    record {
      within : l.written ≤ length l.bytes;
      taken : held l.sink ≡ append (held l.initial.sink) (take l.written l.bytes);
      untouched : l.written ≡ 0 → l.sink ≡ l.initial.sink;
      never_falls : faults l.initial.sink ≤ faults l.sink;
    }

abbrev pub decreases-loop-written : goal.decreases-loop-written
decreases-loop-written g l = length l.bytes - l.written
