use Rattle.std.proofs.Common.{◌≡◌, [], ◌∷◌, ◌-◌, length, None}
use Rattle.tl_grammar.specs.Form.{read_row}
use Rattle.tl_grammar.specs.Grammar.{entry, with_entry}
use Rattle.tl_tokens.specs.Seen.{seen}
use Rattle.tl_parse.proofs.create.more_entries.Given as goal

abbrev pub invariant-loop-i : goal.invariant-loop-i
invariant-loop-i l =
    read_row with_entry (λ so_far. entry so_far.1) (l.i-end - l.i) (l.columns, None) (seen l.here)
    ≡ read_row with_entry (λ so_far. entry so_far.1) (length (seen l.fn.at).rest) (l.fn.first ∷ [], None) (seen l.fn.at)
