use Rattle.std.proofs.Common.{◌≡◌, ◌+◌, List, length, arith, ap, sym, subst, ◌∙◌}
use Rattle.std.proofs.lemmas.List.{length_push}
use Rattle.std.specs.FinMap as finmap
use Rattle.std.specs.List.{AllByRecursion}
use Rattle.tl_values.specs.declared.value.Value.{Value}
use Rattle.tl_schema.specs.declared.catalog.OpeningRow.{OpeningRow}
use Rattle.tl_write.specs.Own.{key_cmp}
use Rattle.tl_write.specs.Tables.{Tables}
use Rattle.tl_isolation.specs.Tables.{HasTable}
use Rattle.tl_places.specs.Opening.{with_row, with_rows}
use Rattle.tl_places.proofs.Written.{all_laid, all_of_front, one_more_at_most, with_rows-append}
use Rattle.tl_places.proofs.rows.opening_rows.Goals as goal

pub loop-opening-preserved : goal.loop-opening-preserved
loop-opening-preserved c =
    let catalog = c.args.script.now.catalog in
    record {
      tables =
          (all_of_front (λ (o : OpeningRow). HasTable catalog o.table) c.in-Some.before.now c.in-Some.opening.now
          (subst (λ (os : List OpeningRow). AllByRecursion (λ (o : OpeningRow). HasTable catalog o.table) os) c.in-Some.ensures.cases.0 c.loop-opening.invariant.tables)).0;
      count =
          let more = one_more_at_most catalog c.in-Some.opening.now c.loop-opening.rows in
          let rows : finmap.len c.put_row.new.rows ≡ finmap.len (with_row catalog c.in-Some.opening.now c.loop-opening.rows) =
          ap (λ (t : Tables). finmap.len t) c.in_ok-put_row.ensures in
          let left : length c.loop-opening.left.now ≡ length c.in-Some.before.now + 1 =
          ap (λ (os : List OpeningRow). length os) c.in-Some.ensures.cases.0 ∙ length_push c.in-Some.before.now c.in-Some.opening.now in
          let count = c.loop-opening.invariant.count in
          omega arith;
      all =
          ap (with_rows catalog c.in-Some.before.now) c.in_ok-put_row.ensures
          ∙ sym (with_rows-append catalog c.in-Some.before.now c.in-Some.opening.now c.loop-opening.rows)
          ∙ ap (λ (os : List OpeningRow). with_rows catalog os c.loop-opening.rows) (sym c.in-Some.ensures.cases.0)
          ∙ c.loop-opening.invariant.all;
    }

pub put_row-requires : goal.put_row-requires
put_row-requires c =
    let catalog = c.args.script.now.catalog in
    (all_of_front (λ (o : OpeningRow). HasTable catalog o.table) c.in-Some.before.now c.in-Some.opening.now
    (subst (λ (os : List OpeningRow). AllByRecursion (λ (o : OpeningRow). HasTable catalog o.table) os) c.in-Some.ensures.cases.0 c.loop-opening.invariant.tables)).1

pub loop-opening-init : goal.loop-opening-init
loop-opening-init c =
    let catalog = c.args.script.now.catalog in
    let none : finmap.len c.new-rows.result ≡ 0 = ap (λ (t : Tables). finmap.len t) c.new-rows.ensures ∙ finmap.len-empty key_cmp (List Value) in
    let left : length c.as_slice-left.result.now ≡ length c.args.script.now.rows = ap (λ (os : List OpeningRow). length os) c.as_slice-left.ensures in
    record {
      tables = subst (λ (os : List OpeningRow). AllByRecursion (λ (o : OpeningRow). HasTable catalog o.table) os) (sym c.as_slice-left.ensures) c.requires.tables;
      count = omega arith;
      all = λ i. with_rows catalog (c.as_slice-left.ensures i) (c.new-rows.ensures i);
    }

pub returns-clause-writes : goal.returns-clause-writes
returns-clause-writes c =
    all_laid c.args.script.now.catalog c.loop-opening.left.now c.args.script.now.rows c.loop-opening.rows c.in_default.ensures.cases c.loop-opening.invariant.all
