use Rattle.std.proofs.Common.{sym, ◌∙◌}
use Rattle.tl_grammar.specs.Grammar.{aggregate, greatest, least, word}
use Rattle.tl_tokens.specs.Seen.{seen}
use Rattle.tl_tokens.proofs.Choices.{reads_second}
use Rattle.tl_parse.proofs.select.least_or_greatest.Goals as goal

pub returns : goal.returns
unfolding least aggregate word
returns c = reads_second c.greatest.result least greatest (seen c.args.at) c.missing.result (sym c.is_word.ensures ∙ c.if-is_word.false) c.missing.ensures c.greatest.ensures
