use Rattle.std.proofs.Common.{◌≡◌, drop, take, sym, arith}
use Rattle.std.proofs.lemmas.Bool.Decides.{nat_tests}
use Rattle.tl_lines.proofs.Lines.{first_of_lines, last_of_lines, line_len, line_len-le, without_return-le}
use Rattle.tl_lines.proofs.line.split_line.Goals as goal

pub split_at-requires : goal.split_at-requires
split_at-requires c = rw c.line_len.ensures (line_len-le c.args.bytes.now)

pub returns-in-Some-clause-lines : goal.returns-in-Some-clause-lines
returns-in-Some-clause-lines c =
    let front : c.split_at.result.0.now ≡ take (line_len c.args.bytes.now) c.args.bytes.now = rw (sym c.line_len.ensures) c.split_at.ensures.front in
    let back : c.split_at.result.1.now ≡ drop (line_len c.args.bytes.now) c.args.bytes.now = rw (sym c.line_len.ensures) c.split_at.ensures.back in
    rw c.without_return.ensures
    (first_of_lines c.args.bytes.now c.split_at.result.0.now c.split_at.result.1.now c.in-Some.after.now c.in-Some.field-0-0.now front back c.in-Some.ensures.cases.0)

pub returns-in-Some-clause-within : goal.returns-in-Some-clause-within
returns-in-Some-clause-within c =
    rw c.without_return.ensures
    (omega (arith, c.split_at.ensures.front_len, c.split_at.ensures.back_len, c.in-Some.ensures.cases.1, line_len-le c.args.bytes.now, c.line_len.ensures, without_return-le c.split_at.result.0.now))

pub returns-in-None-clause-lines : goal.returns-in-None-clause-lines
returns-in-None-clause-lines c =
    let front : c.split_at.result.0.now ≡ take (line_len c.args.bytes.now) c.args.bytes.now = rw (sym c.line_len.ensures) c.split_at.ensures.front in
    let back : c.split_at.result.1.now ≡ drop (line_len c.args.bytes.now) c.args.bytes.now = rw (sym c.line_len.ensures) c.split_at.ensures.back in
    last_of_lines c.args.bytes.now c.split_at.result.0.now c.split_at.result.1.now front back c.in-None.ensures.cases (grind (arith, nat_tests, c.is_empty.ensures))
