use Rattle.std.proofs.lemmas.Result.{err_from_is_err_and}
use Rattle.tl_codec.specs.Reading.{read_many}
use Rattle.tl_codec.proofs.Many.{ends, goes_on, is_done}
use Rattle.tl_schema.specs.Reading.{read_value}
use Rattle.tl_schema.proofs.reading.values_of.Goals as goal

pub returns-in_err-value : goal.returns-in_err-value
returns-in_err-value c =
    let p = err_from_is_err_and c.from_residual.result c.from_residual.ensures.1 in
    rw (p.1, p.2) (ends read_value c.in_err-value.field-0.0 c.loop.values c.args.count c.loop.counter c.loop.rest.now (read_many read_value c.args.count c.args.bytes.now) c.loop-test.true c.in_err-value.ensures c.loop.invariant)

pub loop-preserved : goal.loop-preserved
loop-preserved c =
    rw c.in_ok-push.ensures.ok (goes_on read_value c.loop.values c.args.count c.loop.counter c.loop.rest.now c.in_ok-value.value c.in_ok-value.after.now (read_many read_value c.args.count c.args.bytes.now) c.loop-test.true c.in_ok-value.ensures c.loop.invariant)

pub returns : goal.returns
returns c = is_done read_value c.loop.values c.args.count c.loop.counter c.loop.rest.now (read_many read_value c.args.count c.args.bytes.now) c.loop-test.false c.loop.invariant
