use Rattle.std.proofs.Common.{Some, sym, ap, ◌∙◌, arith}
use Rattle.tl_recover.specs.Duties.{first_of}
use Rattle.tl_recover.proofs.Numbers.{all_picked, finds, goes_past, none_picked}
use Rattle.tl_recover.proofs.duties.duty_after.Goals as goal

pub loop-number-init : goal.loop-number-init
loop-number-init c = ap first_of (all_picked c.args.node c.args.all)

pub loop-number-preserved : goal.loop-number-preserved
loop-number-preserved c =
    ap first_of (sym (goes_past c.args.node c.args.all c.loop-number.number (omega arith) (omega arith) c.in_default.ensures)) ∙ c.loop-number.invariant

pub returns-in-Some : goal.returns-in-Some
returns-in-Some c =
    ap Some c.in-Some.ensures.0
    ∙ sym (finds c.args.node c.args.all c.loop-number.number (omega arith) (omega arith) c.in-Some.ensures.1)
    ∙ c.loop-number.invariant

pub returns : goal.returns
returns c = ap first_of (sym (none_picked c.args.node c.args.all c.loop-number.number (omega arith) (omega arith))) ∙ c.loop-number.invariant
