use Rattle.std.proofs.Common.{◌<◌, Result, Err, ap, length, subst, ◌∙◌, arith}
use Rattle.tl_si.specs.declared.stop.Stop.{Stop}
use Rattle.tl_si.specs.Stops.{Stepped}
use Rattle.tl_si.proofs.Entries.{goes_on, opens, stops}
use Rattle.tl_si.proofs.history.check.Goals as goal

pub loop-at-init : goal.loop-at-init
loop-at-init c = opens c.args.setup.now c.args.entries.now c.in_ok-state.state c.in_ok-state.ensures

pub returns-in-Err-Breaks-clause-fault : goal.returns-in-Err-Breaks-clause-fault
returns-in-Err-Breaks-clause-fault c =
    let h : c.loop-at.at < length c.args.entries.now = omega arith in
    let broken = c.in-Err-Breaks.is ∙ ap (λ (s : Stop). Err s) c.in-Err-Breaks.field-0-is in
    stops c.args.setup.now c.args.entries.now c.loop-at.at c.index-entries-at.result c.loop-at.state h c.index-entries-at.is c.loop-at.invariant
    (subst (λ (r : Result (Unit {0}) Stop). Stepped c.args.setup.now.catalog c.loop-at.state c.index-entries-at.result r c.step.new.state) broken c.step.ensures)

pub loop-at-preserved : goal.loop-at-preserved
loop-at-preserved c =
    let h : c.loop-at.at < length c.args.entries.now = omega arith in
    goes_on c.args.setup.now c.args.entries.now c.loop-at.at c.index-entries-at.result c.loop-at.state c.step.new.state c.requires.keys h c.index-entries-at.is c.loop-at.invariant
    (subst (λ (r : Result (Unit {0}) Stop). Stepped c.args.setup.now.catalog c.loop-at.state c.index-entries-at.result r c.step.new.state) c.in-Ok.is c.step.ensures)
