use Rattle.tl_tell.proofs.Runs.{is_run}
use Rattle.tl_journal.proofs.Named.{opening_tables}
use Rattle.tl_tell.proofs.run.play.Goals as goal

pub returns-clause-history : goal.returns-clause-history
returns-clause-history c =
    c.every_run_is_one_history.ensures c.args.script.now c.args.settings.now c.in_ok-journal.journal.events c.requires.bound c.requires.few
    c.requires.least_shards c.requires.greatest_shards c.requires.least_managers c.requires.greatest_managers c.in_ok-journal.ensures

pub returns-clause-text : goal.returns-clause-text
returns-clause-text c =
    c.in_ok-text.ensures c.args.settings.now
    (is_run c.args.script.now c.args.settings.now c.in_ok-journal.journal.events c.requires.bound c.requires.least_shards
    c.requires.greatest_shards c.requires.least_managers c.requires.greatest_managers
    c.in_ok-journal.ensures)

pub render-requires : goal.render-requires
render-requires c = record {
  tables = opening_tables c.args.script.now c.args.settings.now c.requires.bound;
  run = (
    c.args.settings.now,
    is_run c.args.script.now c.args.settings.now c.in_ok-journal.journal.events c.requires.bound c.requires.least_shards
        c.requires.greatest_shards c.requires.least_managers c.requires.greatest_managers
        c.in_ok-journal.ensures,
  );
}
