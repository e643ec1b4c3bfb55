use Rattle.tl_lines.proofs.Blanks.{blanks_len-le}
use Rattle.tl_lines.proofs.form.unindented.Goals as goal

pub split_at-requires : goal.split_at-requires
split_at-requires c = rw c.blanks_len.ensures (blanks_len-le c.args.line.now)
