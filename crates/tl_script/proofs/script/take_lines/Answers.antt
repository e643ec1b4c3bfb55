use Rattle.std.proofs.Common.{◌∙◌, arith}
use Rattle.tl_script.specs.Lines.{lines_of}
use Rattle.tl_script.specs.Seen.{names_of, parts_of}
use Rattle.tl_script.proofs.Reading.{last_line, line_fails, next_line}
use Rattle.tl_script.proofs.script.take_lines.Goals as goal

pub returns-in-Err-clause-parts : goal.returns-in-Err-clause-parts
returns-in-Err-clause-parts c =
    let takes = rw c.loop-line.invariant.names at c.in-Err.ensures.takes in
    rw c.at.ensures
    (line_fails c.in-Err.fault (names_of c.args.reader.now) c.loop-line.number (lines_of c.loop-line.rest.now) c.in-Some.line.now (lines_of c.in-Some.after.now)
    (parts_of c.loop-line.reader) (parts_of c.take_line.new.self) _ c.in-Some.ensures.lines c.loop-line.invariant.parts takes)

pub loop-line-preserved : goal.loop-line-preserved
loop-line-preserved c =
    let takes = rw c.loop-line.invariant.names at c.in_default-take_line.ensures.takes in
    record {
      parts = next_line (names_of c.args.reader.now) c.loop-line.number (lines_of c.loop-line.rest.now) c.in-Some.line.now (lines_of c.in-Some.after.now)
          (parts_of c.loop-line.reader) (parts_of c.take_line.new.self) _ c.in-Some.ensures.lines c.loop-line.invariant.parts takes;
      names = c.take_line.ensures.names ∙ c.loop-line.invariant.names;
      number = omega (arith, c.loop-line.invariant.number, c.in-Some.ensures.shorter);
    }

pub returns-clause-parts : goal.returns-clause-parts
returns-clause-parts c = last_line _ _ (lines_of c.loop-line.rest.now) (parts_of c.loop-line.reader) _ c.in_default.ensures.lines c.loop-line.invariant.parts
