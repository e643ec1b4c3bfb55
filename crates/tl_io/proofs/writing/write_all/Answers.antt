use Rattle.std.proofs.Common.{arith}
use Rattle.tl_io.proofs.Told.{append-take, length-rest}
use Rattle.tl_io.proofs.writing.write_all.Goals as goal

pub loop-written-preserved : goal.loop-written-preserved
loop-written-preserved g c =
    let wrote = c.in_ok-written.ensures in
    let before = c.loop-written.invariant in
    let bytes = c.args.bytes.now in
    let rest = length-rest c.loop-written.written bytes before.within in
    record {
      within = omega arith;
      taken = append-take c.loop-written.written c.in_ok-written.field-0 bytes _ _ _ before.taken wrote.bytes;
      untouched = λ none. absurd (omega (arith, wrote.some (omega arith)));
      never_falls = omega arith;
    }
