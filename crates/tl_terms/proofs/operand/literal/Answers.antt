use Rattle.std.proofs.Common.{sym, ◌∙◌}
use Rattle.tl_grammar.specs.Form.{either}
use Rattle.tl_grammar.specs.Grammar.{constant, literal, negative, positive, sign, text}
use Rattle.tl_tokens.specs.Seen.{seen}
use Rattle.tl_tokens.proofs.Choices.{reads_first, reads_second}
use Rattle.tl_terms.proofs.operand.literal.Goals as goal

pub returns-then-is_positive : goal.returns-then-is_positive
unfolding literal negative sign
returns-then-is_positive c =
    reads_second c.positive.result negative (either positive (either text constant)) (seen c.args.at) c.missing-at.result (sym c.is_negative.ensures ∙ c.if-is_negative.false) c.missing-at.ensures
    (reads_first c.positive.result positive (either text constant) (seen c.missing-at.result) (sym c.is_positive.ensures ∙ c.if-is_positive.true) c.positive.ensures)

pub returns-then-is_text : goal.returns-then-is_text
unfolding literal negative positive sign
returns-then-is_text c =
    reads_second c.text.result negative (either positive (either text constant)) (seen c.args.at) c.missing-at.result (sym c.is_negative.ensures ∙ c.if-is_negative.false) c.missing-at.ensures
    (reads_second c.text.result positive (either text constant) (seen c.missing-at.result) c.missing-at-2.result (sym c.is_positive.ensures ∙ c.if-is_positive.false) c.missing-at-2.ensures
    (reads_first c.text.result text constant (seen c.missing-at-2.result) (sym c.is_text.ensures ∙ c.if-is_text.true) c.text.ensures))

pub returns : goal.returns
unfolding literal negative positive text sign
returns c =
    reads_second c.constant.result negative (either positive (either text constant)) (seen c.args.at) c.missing-at.result (sym c.is_negative.ensures ∙ c.if-is_negative.false) c.missing-at.ensures
    (reads_second c.constant.result positive (either text constant) (seen c.missing-at.result) c.missing-at-2.result (sym c.is_positive.ensures ∙ c.if-is_positive.false) c.missing-at-2.ensures
    (reads_second c.constant.result text constant (seen c.missing-at-2.result) c.missing.result (sym c.is_text.ensures ∙ c.if-is_text.false) c.missing.ensures c.constant.ensures))
