use Rattle.std.proofs.Common.{◌∙◌, ◌++◌, ap, take, arith, length-append, length-take}
use Rattle.tl_io.specs.Told.{prepend}
use Rattle.tl_io.proofs.Told.{prepend-prepend}
use Rattle.tl_io.proofs.reading.read_all.Goals as goal

-- the last piece read is gone from the source too
pub returns-in_err-extend_from_slice-clause-front : goal.returns-in_err-extend_from_slice-clause-front
returns-in_err-extend_from_slice-clause-front g c =
    let read = c.in_ok-count.ensures in
    let before = c.loop-buffer.invariant in
    record {
      front = c.loop-buffer.bytes ++ take c.in_ok-count.count c.read.new.buffer;
      within = omega (arith, length-append c.loop-buffer.bytes (take c.in_ok-count.count c.read.new.buffer), length-take c.min-room.result c.loop-buffer.buffer);
      lost = before.taken ∙ ap (prepend c.loop-buffer.bytes) read.bytes ∙ prepend-prepend _ _ _;
    }
