use Rattle.std.proofs.Common.{sym, ◌∙◌}
use Rattle.tl_grammar.specs.Grammar.{comma, from_item, joined, more_from, sign}
use Rattle.tl_tokens.specs.Seen.{seen}
use Rattle.tl_tokens.proofs.Choices.{reads_second}
use Rattle.tl_parse.proofs.from.next_from.Goals as goal

pub returns : goal.returns
unfolding more_from comma sign
returns c = reads_second c.joined.result (comma from_item) (joined 64) (seen c.args.at) c.missing.result (sym c.is_sign.ensures ∙ c.if-is_sign.false) c.missing.ensures c.joined.ensures
