use Rattle.std.proofs.Common.{◌≡◌, List, Result, Ok, Err, map, ap, subst, sym, ◌∙◌}
use Rattle.tl_values.specs.declared.value.Value.{Value}
use Rattle.tl_algebra.specs.declared.fault.ValueFault.{ValueFault}
use Rattle.tl_algebra.specs.declared.fault.ValueFault.TheVariants as fault
use Rattle.tl_algebra.specs.declared.query.Join.{Join}
use Rattle.tl_algebra.specs.Select.{Tells}
use Rattle.tl_isolation.specs.declared.state.Transaction.{Transaction}
use Rattle.tl_isolation.specs.Tables.{rows_in}
use Rattle.tl_si.specs.Statements.{view}
use Rattle.tl_si.proofs.Queries.{overflow_is, overflow_only, rows_are, rows_only}
use Rattle.tl_si.proofs.statement.tells_query.Goals as goal

pub returns-in-Ok : goal.returns-in-Ok
returns-in-Ok c =
    let all : List (List (List Value)) = map (λ (join : Join). rows_in join.table (view c.args.past.now c.args.t.now)) c.args.query.now.from in
    let seen : c.as_slice.result.now ≡ all =
    c.as_slice.ensures ∙ c.in_ok-tables.ensures
    ∙ ap (λ (t : Transaction). map (λ (join : Join). rows_in join.table (view c.args.past.now t)) c.args.query.now.from) c.t.view_is in
    let tells = subst (λ (tables : List (List (List Value))). Tells c.args.query.now tables (Ok c.in-Ok.rows)) seen
    (subst (λ (r : Result (List (List Value)) ValueFault). Tells c.args.query.now c.as_slice.result.now r) c.in-Ok.is c.rows_of.ensures) in
    let one = c.select_has_one_answer.ensures.one in
    let both = c.select_has_one_answer.ensures.never_both in (
      λ h. rows_are c.args.query.now all one both c.in-Ok.rows tells c.args.told.now (sym c.tells_rows.ensures ∙ h),
      λ h. c.tells_rows.ensures ∙ rows_only c.args.query.now all one both c.in-Ok.rows tells c.args.told.now h,
    )

pub returns-in-Err-Overflow : goal.returns-in-Err-Overflow
returns-in-Err-Overflow c =
    let all : List (List (List Value)) = map (λ (join : Join). rows_in join.table (view c.args.past.now c.args.t.now)) c.args.query.now.from in
    let seen : c.as_slice.result.now ≡ all =
    c.as_slice.ensures ∙ c.in_ok-tables.ensures
    ∙ ap (λ (t : Transaction). map (λ (join : Join). rows_in join.table (view c.args.past.now t)) c.args.query.now.from) c.t.view_is in
    let overflow = c.in-Err-Overflow.is ∙ ap (λ (f : ValueFault). Err f) c.in-Err-Overflow.field-0-is in
    let tells = subst (λ (tables : List (List (List Value))). Tells c.args.query.now tables (Err fault.Overflow)) seen
    (subst (λ (r : Result (List (List Value)) ValueFault). Tells c.args.query.now c.as_slice.result.now r) overflow c.rows_of.ensures) in
    let one = c.select_has_one_answer.ensures.one in
    let both = c.select_has_one_answer.ensures.never_both in (
      λ h. overflow_is c.args.query.now all one both tells c.args.told.now (sym c.tells_overflow.ensures ∙ h),
      λ h. c.tells_overflow.ensures ∙ overflow_only c.args.query.now all one both tells c.args.told.now h,
    )
