-- What was read so far went from the front of the source, and each turn reads a byte by one call.
use Rattle.std.proofs.Common.{◌≡◌, ◌+◌, ◌-◌, ◌≤◌, length}
use Rattle.tl_io.specs.Told.{prepend}
use Rattle.tl_io.proofs.reading.read_all.Given as goal

abbrev pub invariant-loop-buffer : goal.invariant-loop-buffer
invariant-loop-buffer g l =
    let left = g.S.Source.left in
    let faults = g.S.Source.faults in
    let calls = g.S.Source.calls in
    record {
      within : length l.bytes ≤ l.most + 1;
      taken : left l.initial.source ≡ prepend l.bytes (left l.source);
      never_falls : faults l.initial.source ≤ faults l.source;
      -- by no more calls than bytes
      calls : calls l.source ≤ calls l.initial.source + length l.bytes;
    }

abbrev pub decreases-loop-buffer : goal.decreases-loop-buffer
decreases-loop-buffer g l = l.most + 1 - length l.bytes
