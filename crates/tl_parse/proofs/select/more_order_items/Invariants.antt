use Rattle.std.proofs.Common.{◌≡◌, [], ◌∷◌, ◌-◌, length}
use Rattle.tl_grammar.specs.Form.{read_row}
use Rattle.tl_grammar.specs.Grammar.{behind, comma, order_item}
use Rattle.tl_tokens.specs.Seen.{seen}
use Rattle.tl_parse.proofs.select.more_order_items.Given as goal

abbrev pub invariant-loop-i : goal.invariant-loop-i
invariant-loop-i l =
    read_row behind (λ x. comma order_item) (l.i-end - l.i) l.found (seen l.here)
    ≡ read_row behind (λ x. comma order_item) (length (seen l.fn.at).rest) (l.fn.first ∷ []) (seen l.fn.at)
