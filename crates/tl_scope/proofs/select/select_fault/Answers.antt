use Rattle.std.proofs.Common.{List, ◌++◌, map, ap, ◌∙◌}
use Rattle.tl_scope.specs.Fault.{each_from, least}
use Rattle.tl_scope.specs.Named.{repeated_faults}
use Rattle.tl_scope.specs.Scope.{Source, called, scope_of}
use Rattle.tl_scope.specs.Select.{from_faults, shown_faults}
use Rattle.tl_scope.proofs.Faults.{joined}
use Rattle.tl_scope.proofs.select.select_fault.Goals as goal

pub returns : goal.returns
returns c =
    let catalog = c.args.catalog.now in
    let from = c.args.from.now in
    let scope = scope_of catalog from in
    let a = each_from (from_faults catalog scope) 0 from in
    let b = repeated_faults (map called from) in
    let shown = λ (s : List Source). shown_faults s c.args.items.now c.args.filter.now c.args.group.now c.args.order.now in
    joined c.earliest.result c.earliest-fault.result c.in_ok-shown.shown (a ++ b) (shown scope) c.earliest.ensures
    (joined c.earliest-fault.result c.in_ok-from_fault.field-0 c.in_ok-repeated_fault.field-0 a b c.earliest-fault.ensures c.in_ok-from_fault.ensures c.in_ok-repeated_fault.ensures)
    (c.in_ok-shown.ensures ∙ ap (λ (s : List Source). least (shown s)) c.in_ok-scope.ensures)
