use Rattle.std.proofs.Common.{sym, ◌∙◌}
use Rattle.tl_tokens.specs.Seen.{seen}
use Rattle.tl_terms.proofs.Nesting.{nested_begins, or_first, or_second}
use Rattle.tl_terms.proofs.condition.is_nested.Goals as goal

pub returns-then-is_word : goal.returns-then-is_word
returns-then-is_word c = c.if-is_word.true ∙ or_first _ _ (sym c.is_word.ensures ∙ c.if-is_word.true) ∙ sym (nested_begins c.args.depth (seen c.args.at).rest)

pub returns-else-is_word : goal.returns-else-is_word
returns-else-is_word c = or_second _ _ _ (sym c.is_word.ensures ∙ c.if-is_word.false) c.is_sign.ensures ∙ sym (nested_begins c.args.depth (seen c.args.at).rest)
