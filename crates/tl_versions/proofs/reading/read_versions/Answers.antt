use Rattle.std.proofs.Common.{arith}
use Rattle.tl_versions.proofs.CellReading.{all_fit, rest_of}
use Rattle.tl_versions.proofs.reading.read_versions.Goals as goal

pub distinct_versions-requires : goal.distinct_versions-requires
distinct_versions-requires c =
    all_fit c.in_ok-count.count c.in_ok-count.rest.now (c.in_ok-versions.versions, c.in_ok-versions.after.now)
    (rest_of c.args.bytes.now c.in_ok-count.count c.in_ok-count.rest.now (λ i. omega (arith, c.type_inv.bytes i)) c.in_ok-count.ensures) c.in_ok-versions.ensures
