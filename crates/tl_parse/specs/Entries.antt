-- What stands between the brackets of CREATE TABLE, as the grammar has it.
use Rattle.std.specs.Prelude.{Result}
use Rattle.tl_grammar.specs.declared.fault.Fault.{Fault}
use Rattle.tl_grammar.specs.Form as form
use Rattle.tl_grammar.specs.Grammar as grammar
use Rattle.tl_parse.specs.declared.create.Entry.{Entry}
use Rattle.tl_parse.specs.declared.create.Entry.TheVariants as entry
use Rattle.tl_tokens.specs.declared.cursor.Cursor.{Cursor}
use Rattle.tl_tokens.specs.declared.fault.Stop.{Stop}
use Rattle.tl_tokens.specs.Seen.{Gives, seen}

abbrev pub entry_of : Entry → grammar.Entry
entry_of (entry.Column c) = grammar.Column c
entry_of (entry.Key names) = grammar.Key names

abbrev pub ReadsEntry : Result (Entry × Cursor) Stop → Result (grammar.Entry × form.Cursor) Fault → Type 0
ReadsEntry result read = Gives (λ r. (entry_of r.0, seen r.1)) result read
