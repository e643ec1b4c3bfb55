use Rattle.std.proofs.Common.{sym, ◌∙◌}
use Rattle.tl_grammar.specs.Grammar.{column_entry, column_form, key_entry, name}
use Rattle.tl_parse.specs.Entries.{entry_of}
use Rattle.tl_tokens.specs.Seen.{seen}
use Rattle.tl_tokens.proofs.Choices.{gives_second}
use Rattle.tl_parse.proofs.create.one_entry.Goals as goal

pub returns : goal.returns
unfolding column_entry column_form name
returns c = gives_second (λ r. (entry_of r.0, seen r.1)) c.key_entry.result column_entry key_entry (seen c.args.at) c.missing.result (sym c.is_name.ensures ∙ c.if-is_name.false) c.missing.ensures c.key_entry.ensures
