use Rattle.std.proofs.Common.{sym, ◌∙◌}
use Rattle.tl_lines.proofs.Digits.{AllDigits-all}
use Rattle.tl_lines.proofs.number.number_within.Goals as goal

pub limited_value-number-requires : goal.limited_value-number-requires
limited_value-number-requires c = AllDigits-all c.args.digits.now (sym c.are_digits.ensures ∙ c.if-not-are_digits.false)
