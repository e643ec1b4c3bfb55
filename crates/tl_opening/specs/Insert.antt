-- What an INSERT does to the rows that a database opens with.
use Rattle.std.specs.Prelude.{◌≡◌, ℕ, true, List, [], ◌∷◌, Option, Some, None, Result, Ok, Err}
use Rattle.std.specs.FinMap as finmap
use Rattle.tl_values.specs.declared.value.Value.{Value}
use Rattle.tl_schema.specs.declared.catalog.Table.{Table}
use Rattle.tl_schema.specs.Record.{record_key}
use Rattle.tl_write.specs.declared.fault.ChangeFault.{ChangeFault}
use Rattle.tl_write.specs.declared.fault.ChangeFault.TheVariants as fault
use Rattle.tl_write.specs.declared.write.Effect.{Effect}
use Rattle.tl_write.specs.Tables.{Tables, is_in, laid_over}

-- each row of the table of this number stands under its record key
abbrev pub StandUnderKeys : ℕ → Table → Tables → Type 0
StandUnderKeys number table tables =
    (key : List ℕ) (row : List Value) → finmap.get tables key ≡ Some row → is_in number key ≡ true → key ≡ record_key number table row

-- a row more, where one is found
abbrev pub with_found : Option (List Value) → List (List Value) → List (List Value)
with_found None rows = rows
with_found (Some row) rows = row ∷ rows

-- the rows that stand under the record keys of these
abbrev pub found_under : ℕ → Table → Tables → List (List Value) → List (List Value)
found_under number table tables [] = []
found_under number table tables (row ∷ rows) = with_found (finmap.get tables (record_key number table row)) (found_under number table tables rows)

-- the writes of the change are laid over the tables, or it is refused and nothing changes; want of memory says nothing of either
abbrev pub Inserts : Result (Unit {0}) ChangeFault → Result Effect ChangeFault → Tables → Tables → Type 0
Inserts (Ok done) meant before after = (effect : Effect) × (meant ≡ Ok effect) × (after ≡ laid_over before effect.writes)
Inserts (Err fault.NoMemory) meant before after = Unit {0}
Inserts (Err f) meant before after = (meant ≡ Err f) × (after ≡ before)
