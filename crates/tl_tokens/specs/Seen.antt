-- What a reader in code answers, beside what a form reads.
use Rattle.std.specs.Prelude.{◌≡◌, Result, Ok, Err}
use Rattle.tl_grammar.specs.declared.fault.Fault.{Fault}
use Rattle.tl_grammar.specs.Form as form
use Rattle.tl_tokens.specs.declared.cursor.Cursor.{Cursor}
use Rattle.tl_tokens.specs.declared.fault.Stop.{Stop}
use Rattle.tl_tokens.specs.declared.fault.Stop.TheVariants as stop
use Rattle.tl_tokens.specs.Lexemes.{tokens_of}

-- a cursor, without where its tokens lie
abbrev pub seen : Cursor → form.Cursor
seen c = record { wanted = c.wanted; rest = tokens_of c.rest.now }

-- want of memory says nothing of the tokens
abbrev pub Fails : {Y : Type 0} → Stop → Result Y Fault → Type 0
Fails stop.NoMemory read = Unit {0}
Fails (stop.Fault f) read = read ≡ Err f

abbrev pub Gives : {X Y : Type 0} → (X → Y) → Result X Stop → Result Y Fault → Type 0
Gives view (Ok x) read = read ≡ Ok (view x)
Gives view (Err e) read = Fails e read

-- the value and the cursor behind it
abbrev pub Reads : {X : Type 0} → Result (X × Cursor) Stop → Result (X × form.Cursor) Fault → Type 0
Reads result read = Gives (λ r. (r.0, seen r.1)) result read
