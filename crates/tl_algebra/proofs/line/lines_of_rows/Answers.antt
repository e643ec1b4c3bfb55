use Rattle.std.proofs.Common.{◌≡◌, ◌+◌, Option, Some, List, [], ◌∷◌, ap, drop, map, subst, ◌∙◌}
use Rattle.std.proofs.lemmas.Result.{err_from_is_err_and}
use Rattle.tl_values.specs.declared.value.Value.{Value}
use Rattle.tl_algebra.specs.declared.line.Line.{Line}
use Rattle.tl_algebra.specs.Select.{each, line_of}
use Rattle.tl_algebra.specs.Value.{Fails}
use Rattle.tl_algebra.proofs.Each.{following}
use Rattle.tl_algebra.proofs.LinesOn.{each_next, each_stops}
use Rattle.tl_algebra.proofs.line.lines_of_rows.Goals as goal

pub returns-in_err-line_of : goal.returns-in_err-line_of
returns-in_err-line_of c =
    let p = err_from_is_err_and c.from_residual.result c.from_residual.ensures.1 in
    let e = c.in_err-line_of.field-0.0 in
    let l = c.loop-row in
    let f : List (List Value) → Option Line = line_of c.args.query.now in
    rw (p.1, p.2) (subst (λ (o : Option (List Line)). Fails e o) l.invariant
    (each_stops e f (λ (row : List Value). row ∷ []) l.lines.items c.as_slice-row-items.result.now l.row-index c.row-item.result c.loop-row-test.true c.row-item.is
    (subst (λ (rows : List (List Value)). Fails e (f rows)) c.from_ref.ensures.value c.in_err-line_of.ensures)))

pub loop-row-preserved : goal.loop-row-preserved
loop-row-preserved c =
    let l = c.loop-row in
    let f : List (List Value) → Option Line = line_of c.args.query.now in
    let items = c.as_slice-row-items.result.now in
    ap (λ (lines : List Line). following lines (each f (map (λ (row : List Value). row ∷ []) (drop (l.row-index + 1) items)))) c.in_ok-push.ensures.items
    ∙ each_next f (λ (row : List Value). row ∷ []) l.lines.items items l.row-index c.row-item.result c.in_ok-line_of.field-0 c.loop-row-test.true c.row-item.is
    (subst (λ (rows : List (List Value)). f rows ≡ Some c.in_ok-line_of.field-0) c.from_ref.ensures.value c.in_ok-line_of.ensures)
    ∙ l.invariant
