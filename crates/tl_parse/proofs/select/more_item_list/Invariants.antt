use Rattle.std.proofs.Common.{◌≡◌, [], ◌∷◌, ◌-◌, length}
use Rattle.tl_grammar.specs.Form.{read_row}
use Rattle.tl_grammar.specs.Grammar.{behind, comma, select_item}
use Rattle.tl_tokens.specs.Seen.{seen}
use Rattle.tl_parse.proofs.select.more_item_list.Given as goal

abbrev pub invariant-loop-i : goal.invariant-loop-i
invariant-loop-i l =
    read_row behind (λ x. comma (select_item 64)) (l.i-end - l.i) l.found (seen l.here)
    ≡ read_row behind (λ x. comma (select_item 64)) (length (seen l.fn.at).rest) (l.fn.first ∷ []) (seen l.fn.at)
