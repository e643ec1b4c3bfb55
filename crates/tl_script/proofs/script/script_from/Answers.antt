use Rattle.std.proofs.Common.{Ok, ◌∙◌, ap, sym}
use Rattle.std.proofs.lemmas.Result.{err_from_is_err_and}
use Rattle.tl_script.specs.Lines.{lines_of}
use Rattle.tl_script.specs.Seen.{parts_of}
use Rattle.tl_script.specs.Parts.{script_with}
use Rattle.tl_script.specs.Statement.{Names, names_seen}
use Rattle.tl_script.proofs.Reading.{all_lines, lines_fail, no_lines, no_table}
use Rattle.tl_script.proofs.script.script_from.Goals as goal

pub returns-in_default : goal.returns-in_default
returns-in_default c = rw c.fault.ensures (no_lines c.args.bytes.now c.in_default.ensures.lines)

pub returns-in_default-table_in : goal.returns-in_default-table_in
returns-in_default-table_in c =
    rw c.fault-in_default-table_in.ensures
    (no_table c.args.bytes.now c.in-Some.table.now (lines_of c.in-Some.rest.now) c.in-Some.ensures.lines (sym c.in_default-table_in.ensures))

pub returns-in_err-take_lines : goal.returns-in_err-take_lines
returns-in_err-take_lines c =
    let e = err_from_is_err_and c.from_residual.result c.from_residual.ensures.1 in
    let fails = rw c.new-reader.ensures.names at (rw c.new-reader.ensures.parts at c.in_err-take_lines.ensures.parts) in
    rw (e.1, e.2)
    (lines_fail c.in_err-take_lines.field-0.0 c.args.bytes.now c.in-Some.table.now (lines_of c.in-Some.rest.now) (names_seen c.in-Some-table_in.names)
    c.in-Some.ensures.lines (sym c.in-Some-table_in.ensures) fails)

pub returns : goal.returns
returns c =
    let names = c.take_lines.ensures.names ∙ c.new-reader.ensures.names in
    let read = rw c.new-reader.ensures.names at (rw c.new-reader.ensures.parts at c.in_ok-take_lines.ensures.parts) in
    let parts = parts_of c.take_lines.new.reader in
    rw c.in_ok-into_script.ensures
    (all_lines c.args.bytes.now c.in-Some.table.now (lines_of c.in-Some.rest.now) (names_seen c.in-Some-table_in.names) parts
    c.in-Some.ensures.lines (sym c.in-Some-table_in.ensures) read
    ∙ ap (λ (ns : Names). Ok (script_with ns parts)) (sym names))
