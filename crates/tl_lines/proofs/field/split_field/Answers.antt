use Rattle.std.proofs.Common.{◌≡◌, ◌<◌, length, drop, sym, arith}
use Rattle.std.proofs.lemmas.Bool.Decides.{nat_tests}
use Rattle.tl_lines.proofs.Blanks.{blanks_len, blanks_len-le, field_len-le, next_field, no_field}
use Rattle.tl_lines.proofs.field.split_field.Goals as goal

pub split_at-requires : goal.split_at-requires
split_at-requires c = rw c.blanks_len.ensures (blanks_len-le c.args.bytes.now)

pub returns-then-is_empty-clause-fields : goal.returns-then-is_empty-clause-fields
returns-then-is_empty-clause-fields c =
    let behind : c.split_at.result.1.now ≡ drop (blanks_len c.args.bytes.now) c.args.bytes.now = rw (sym c.blanks_len.ensures) c.split_at.ensures.back in
    no_field c.args.bytes.now c.split_at.result.1.now behind (grind (arith, nat_tests, c.is_empty.ensures))

pub returns-then-is_empty-clause-shorter : goal.returns-then-is_empty-clause-shorter
returns-then-is_empty-clause-shorter c =
    let behind : c.split_at.result.1.now ≡ drop (blanks_len c.args.bytes.now) c.args.bytes.now = rw (sym c.blanks_len.ensures) c.split_at.ensures.back in
    no_field c.args.bytes.now c.split_at.result.1.now behind (grind (arith, nat_tests, c.is_empty.ensures))

pub split_at-requires-2 : goal.split_at-requires-2
split_at-requires-2 c = rw c.field_len.ensures (field_len-le c.split_at.result.1.now)

pub returns-clause-fields : goal.returns-clause-fields
returns-clause-fields c =
    let behind : c.split_at.result.1.now ≡ drop (blanks_len c.args.bytes.now) c.args.bytes.now = rw (sym c.blanks_len.ensures) c.split_at.ensures.back in
    let some : 0 < length c.split_at.result.1.now = grind (arith, nat_tests, c.is_empty.ensures) in
    rw (c.split_at-2.ensures.front, c.split_at-2.ensures.back, c.field_len.ensures)
    (next_field c.args.bytes.now c.split_at.result.1.now behind some).0

pub returns-clause-shorter : goal.returns-clause-shorter
returns-clause-shorter c =
    let behind : c.split_at.result.1.now ≡ drop (blanks_len c.args.bytes.now) c.args.bytes.now = rw (sym c.blanks_len.ensures) c.split_at.ensures.back in
    let some : 0 < length c.split_at.result.1.now = grind (arith, nat_tests, c.is_empty.ensures) in
    rw (c.split_at-2.ensures.back, c.field_len.ensures)
    (next_field c.args.bytes.now c.split_at.result.1.now behind some).1
