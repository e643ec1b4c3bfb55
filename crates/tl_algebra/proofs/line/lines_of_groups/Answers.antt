use Rattle.std.proofs.Common.{◌≡◌, ◌+◌, Option, Some, List, [], ap, drop, map, subst, ◌∙◌}
use Rattle.std.proofs.lemmas.Result.{err_from_is_err_and}
use Rattle.tl_values.specs.declared.value.Value.{Value}
use Rattle.tl_algebra.specs.declared.group.Group.{Group}
use Rattle.tl_algebra.specs.declared.line.Line.{Line}
use Rattle.tl_algebra.specs.Select.{each, line_of}
use Rattle.tl_algebra.specs.Value.{Fails}
use Rattle.tl_algebra.proofs.Each.{following}
use Rattle.tl_algebra.proofs.LinesOn.{each_next, each_stops}
use Rattle.tl_algebra.proofs.line.lines_of_groups.Goals as goal

pub returns-in_err-line_of : goal.returns-in_err-line_of
returns-in_err-line_of c =
    let p = err_from_is_err_and c.from_residual-in_err-line_of.result c.from_residual-in_err-line_of.ensures.1 in
    let e = c.in_err-line_of.field-0.0 in
    let l = c.loop-group in
    let f : List (List Value) → Option Line = line_of c.args.query.now in
    rw (p.1, p.2) (subst (λ (o : Option (List Line)). Fails e o) l.invariant
    (each_stops e f (λ (group : Group). group.rows) l.lines.items c.as_slice-group-items.result.now l.group-index c.group-item.result c.loop-group-test.true c.group-item.is
    (subst (λ (rows : List (List Value)). Fails e (f rows)) c.as_slice.ensures c.in_err-line_of.ensures)))

pub loop-group-preserved : goal.loop-group-preserved
loop-group-preserved c =
    let l = c.loop-group in
    let f : List (List Value) → Option Line = line_of c.args.query.now in
    let items = c.as_slice-group-items.result.now in
    ap (λ (lines : List Line). following lines (each f (map (λ (group : Group). group.rows) (drop (l.group-index + 1) items)))) c.in_ok-push.ensures.items
    ∙ each_next f (λ (group : Group). group.rows) l.lines.items items l.group-index c.group-item.result c.in_ok-line_of.field-0 c.loop-group-test.true c.group-item.is
    (subst (λ (rows : List (List Value)). f rows ≡ Some c.in_ok-line_of.field-0) c.as_slice.ensures c.in_ok-line_of.ensures)
    ∙ l.invariant
