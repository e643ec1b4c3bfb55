use Rattle.std.proofs.Common.{Ok, [], refl, sym, ◌∙◌}
use Rattle.tl_grammar.specs.Form.{pure}
use Rattle.tl_grammar.specs.Grammar.{group_by, list_or_none, word}
use Rattle.tl_tokens.specs.Seen.{seen}
use Rattle.tl_tokens.proofs.Choices.{reads_second}
use Rattle.tl_parse.proofs.select.group.Goals as goal

pub returns : goal.returns
unfolding list_or_none group_by word
returns c = reads_second (Ok (c.new.result, c.missing.result)) group_by (pure []) (seen c.args.at) c.missing.result (sym c.is_word.ensures ∙ c.if-is_word.false) c.missing.ensures (rw c.new.ensures refl)
