use Rattle.std.proofs.Common.{sym, ◌∙◌}
use Rattle.tl_script.specs.Fields.{fields_of}
use Rattle.tl_script.proofs.Heads.{has_head, no_first, no_head}
use Rattle.tl_script.proofs.reader.directive_of.Goals as goal

pub returns-in_err-field : goal.returns-in_err-field
returns-in_err-field c = rw c.from_residual.ensures (no_first c.args.line.now c.in_err-field.ensures.fields)

pub returns-in_err-head : goal.returns-in_err-head
returns-in_err-head c =
    rw c.from_residual-in_err-head.ensures
    (no_head c.args.line.now c.in_ok-field.field.now (fields_of c.in_ok-field.fields.now) c.in_ok-field.ensures.fields (sym c.head_of.ensures ∙ c.in_err-head.was))

pub returns : goal.returns
returns c =
    has_head c.args.line.now c.in_ok-field.field.now (fields_of c.in_ok-field.fields.now) c.in_ok-head.head c.in_ok-field.ensures.fields (sym c.head_of.ensures ∙ c.in_ok-head.was)
