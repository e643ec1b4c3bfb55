use Rattle.std.proofs.Common.{ℕ, List, Option, ap, is_some, sym, ◌∙◌}
use Rattle.std.specs.FinMap as finmap
use Rattle.std.specs.Option.{option_map}
use Rattle.tl_journal.specs.Bytes.{commits_key}
use Rattle.tl_render.specs.Stored.{finished_in}
use Rattle.tl_render.proofs.FinalRows.{each_read, final_tables, finished_read, sorted_entries}
use Rattle.tl_render.proofs.Taken.{cells_of, find_same, pointed, sorted_same}
use Rattle.tl_render.proofs.stored.final_rows.Goals as goal

pub returns : goal.returns
returns c = λ settings.
    let stores = c.in_ok-stores.stores in
    final_tables c.args.script.now settings c.args.events.now (cells_of pointed (finmap.entries stores)) c.in_ok-finished.finished c.in_ok-rows.rows c.show_rows.new.rows
    (sorted_same pointed (finmap.entries stores) ∙ sorted_entries stores)
    (λ key. find_same pointed key (finmap.entries stores) ∙ ap (option_map pointed) (sym (finmap.get-entries stores key)) ∙ c.in_ok-stores.ensures key)
    (ap finished_in (sym (c.in_ok-stores.ensures commits_key)) ∙ c.in_ok-finished.ensures)
    c.in_ok-rows.ensures.writes c.in_ok-show_rows.ensures

pub last_finished-requires : goal.last_finished-requires
last_finished-requires c =
    let run = c.requires.run in
    ap (λ (o : Option (List ℕ)). is_some (finished_in o)) (c.in_ok-stores.ensures commits_key) ∙ finished_read c.args.script.now run.0 c.args.events.now run.1

pub show_rows-requires : goal.show_rows-requires
show_rows-requires c =
    let run = c.requires.run in
    let stores = c.in_ok-stores.stores in
    each_read c.args.script.now run.0 c.args.events.now run.1 (cells_of pointed (finmap.entries stores))
    (sorted_same pointed (finmap.entries stores) ∙ sorted_entries stores)
    (λ key. find_same pointed key (finmap.entries stores) ∙ ap (option_map pointed) (sym (finmap.get-entries stores key)) ∙ c.in_ok-stores.ensures key)
