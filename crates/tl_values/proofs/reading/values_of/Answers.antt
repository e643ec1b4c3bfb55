use Rattle.std.proofs.Common.{◌<◌, length, arith}
use Rattle.std.proofs.lemmas.Bool.Decides.{nat_tests}
use Rattle.std.proofs.lemmas.Result.{err_from_is_err_and}
use Rattle.tl_codec.specs.declared.fault.ReadFault.TheVariants as fault
use Rattle.tl_values.proofs.KeyReading.{begins, ends, falls, one_more, same_error}
use Rattle.tl_values.proofs.reading.values_of.Goals as goal

pub loop-rest-init : goal.loop-rest-init
loop-rest-init c = begins c.args.bytes.now c.new-row.result (λ i. omega (arith, c.type_inv.bytes i)) c.new-row.ensures

pub returns-in_err-value-clause-bad : goal.returns-in_err-value-clause-bad
returns-in_err-value-clause-bad c = λ bad row fits e.
    let p = err_from_is_err_and c.from_residual.result c.from_residual.ensures.1 in
    let some : 0 < length c.loop-rest.rest.now = grind (arith, nat_tests) in
    ends c.in_err-value.field-0.0 c.args.bytes.now c.loop-rest.row c.loop-rest.rest.now c.loop-rest.invariant some c.in_err-value.ensures
    (same_error c.from_residual.result p.0 c.in_err-value.field-0.0 fault.Bad p.1 p.2 bad) row fits e

pub loop-rest-smaller : goal.loop-rest-smaller
loop-rest-smaller c = falls c.loop-rest.rest.now c.in_ok-value.value c.in_ok-value.after.now c.loop-rest.invariant.rest_fits c.in_ok-value.ensures

pub loop-rest-preserved : goal.loop-rest-preserved
loop-rest-preserved c = rw c.in_ok-push.ensures.ok (one_more c.args.bytes.now c.loop-rest.row c.loop-rest.rest.now c.in_ok-value.value c.in_ok-value.after.now c.loop-rest.invariant c.in_ok-value.ensures)
