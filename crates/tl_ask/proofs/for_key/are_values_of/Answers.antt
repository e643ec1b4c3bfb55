use Rattle.std.proofs.Common.{Err, ◌∙◌, ap, sym, arith}
use Rattle.tl_journal.specs.ForKey.{are_values_of}
use Rattle.tl_ask.proofs.Columns.{none_tested, values_tested}
use Rattle.tl_ask.proofs.for_key.are_values_of.Goals as goal

pub returns-in-Ok : goal.returns-in-Ok
returns-in-Ok c =
    c.are_of_columns.ensures
    ∙ sym (ap (are_values_of c.args.columns.now c.args.places.now) c.in-Ok.ensures.key
    ∙ values_tested c.args.columns.now c.args.places.now c.in-Ok.values c.in-Ok.ensures.values)

pub returns-in-Err-BadKey : goal.returns-in-Err-BadKey
returns-in-Err-BadKey c =
    sym (none_tested c.args.columns.now c.args.places.now c.args.bytes.now (λ i. omega (arith, c.type_inv.bytes i))
    (λ values fits e. c.in-Err-BadKey.ensures.bad (ap Err c.in-Err-BadKey.field-0-is) values fits e))
