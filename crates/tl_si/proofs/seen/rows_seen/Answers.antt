use Rattle.std.proofs.Common.{◌≡◌, List, take, ap, subst, ◌∙◌}
use Rattle.std.specs.Prelude.{IfOk}
use Rattle.std.specs.FinMap as finmap
use Rattle.tl_values.specs.declared.value.Value.{Value}
use Rattle.tl_write.specs.declared.write.Write.{Write}
use Rattle.tl_write.specs.Tables.{Tables, is_in, laid_over, writes_in}
use Rattle.tl_isolation.specs.State.{tables_after}
use Rattle.tl_si.proofs.Laying.{rows_laid}
use Rattle.tl_si.proofs.seen.rows_seen.Goals as goal

pub returns : goal.returns
returns c =
    let laid = c.in_ok-laid.ensures
    ∙ ap (λ (t : Tables). laid_over t (writes_in c.args.number c.writes.result.now)) c.in_ok-records.ensures
    ∙ ap (λ (ws : List Write). laid_over (finmap.retain_keys (tables_after (take c.args.first c.args.past.now)) (is_in c.args.number)) (writes_in c.args.number ws)) c.writes.ensures.writes in
    subst (λ (rs : List (List Value)). IfOk c.rows_of.result (λ rows. rows ≡ rs))
    (ap finmap.values laid ∙ rows_laid c.args.number (tables_after (take c.args.first c.args.past.now)) c.args.own.now)
    c.rows_of.ensures
