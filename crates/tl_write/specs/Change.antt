-- What an INSERT, UPDATE or DELETE does, computed whole before anything is kept.
use Rattle.std.specs.Prelude.{ℕ, ◌+◌, ◌-◌, ◌^◌, min, Bool, ◌||◌, List, [], ◌∷◌, Option, Some, None, Result, Ok, Err, map, filter, nat_le, option_and_then, slice_set, if◌then◌else◌}
use Rattle.std.specs.FinMap as finmap
use Rattle.tl_values.specs.declared.value.Value.{Value}
use Rattle.tl_schema.specs.declared.catalog.Table.{Table}
use Rattle.tl_schema.specs.Limits.{breaks_not_null, is_long}
use Rattle.tl_schema.specs.Record.{record_key}
use Rattle.tl_algebra.specs.declared.condition.Condition.{Condition}
use Rattle.tl_algebra.specs.declared.edit.Edit.{Edit}
use Rattle.tl_algebra.specs.declared.edit.Edit.TheVariants.{Insert, Update, Delete}
use Rattle.tl_algebra.specs.declared.edit.SetColumn.{SetColumn}
use Rattle.tl_algebra.specs.Truth.{lets_through}
use Rattle.tl_algebra.specs.Value.{value_of}
use Rattle.tl_write.specs.declared.fault.ChangeFault.{ChangeFault}
use Rattle.tl_write.specs.declared.fault.ChangeFault.TheVariants as fault
use Rattle.tl_write.specs.declared.write.Effect.{Effect}
use Rattle.tl_write.specs.declared.write.Write.{Write}
use Rattle.tl_write.specs.Own.{put_write, is_written, record_count}
use Rattle.tl_write.specs.Tables.{Tables, records_in}

-- how many records a transaction may write
abbrev pub most_records : ℕ
most_records = 4096

-- what a statement does to one record
pub data Deed : Type 0 where
  Add : List ℕ → List Value → Deed
  Replace : List ℕ → List Value → Deed
  Remove : List ℕ → Deed
  -- a SET overflows
  Overflow : Deed

-- these columns are set in the new row, each computed from the old one; nothing where one overflows
abbrev pub set_columns : List SetColumn → List Value → List Value → Option (List Value)
set_columns [] old new = Some new
set_columns (s ∷ ss) old new = option_and_then (λ v. set_columns ss old (slice_set new s.column v)) (value_of s.value old)

abbrev pub replaced : List ℕ → Option (List Value) → Deed
replaced key None = Overflow
replaced key (Some row) = Replace key row

-- the records that WHERE is true of, in rising order of keys
abbrev pub matching : ℕ → Option Condition → Tables → List (List ℕ × List Value)
matching number condition tables = filter (λ e. lets_through condition e.1) (records_in number tables)

-- INSERT adds its rows in order; UPDATE and DELETE take the rows that WHERE is true of, in rising order of keys
abbrev pub deeds : Edit → Table → Tables → List Deed
deeds (Insert number rows) table tables = map (λ row. Add (record_key number table row) row) rows
deeds (Update number sets condition) table tables = map (λ e. replaced e.0 (set_columns sets e.1 e.1)) (matching number condition tables)
deeds (Delete number condition) table tables = map (λ e. Remove e.0) (matching number condition tables)

-- the first of two offences
abbrev pub first_of : Option ChangeFault → Option ChangeFault → Option ChangeFault
first_of None later = later
first_of (Some earlier) later = Some earlier

abbrev pub where_so : Bool → ChangeFault → Option ChangeFault
where_so b offence = if b then Some offence else None

-- a row that its table refuses
abbrev pub row_offence : Table → List Value → Option ChangeFault
row_offence table row = first_of (where_so (breaks_not_null table.columns row) fault.Null) (where_so (is_long table row) fault.Long)

-- a record more than a transaction may write: one that is written already is none
abbrev pub too_many : List Write → List Write → List ℕ → Option ChangeFault
too_many own done key = if is_written key own || is_written key done then None else where_so (nat_le most_records (record_count own done)) fault.Many

-- The offence of a deed where those before it are done: an overflow, a NULL, a length, a key that is there, one too many.
abbrev pub offence : Table → (List ℕ → Bool) → List Write → List Write → Deed → Option ChangeFault
offence table is_there own done Overflow = Some fault.Overflow
offence table is_there own done (Add key row) =
    first_of (row_offence table row) (first_of (where_so (is_there key || is_written key done) fault.Duplicate) (too_many own done key))
offence table is_there own done (Replace key row) = first_of (row_offence table row) (too_many own done key)
offence table is_there own done (Remove key) = too_many own done key

-- one row more is counted, and its write takes its place; a count stands still at the end of its type
abbrev pub with_write : Write → Effect → Effect
with_write w done = record { count = min (done.count + 1) (2 ^ 32 - 1); writes = put_write w done.writes }

abbrev pub after : Deed → Effect → Effect
after (Add key row) done = with_write (record { key = key; row = Some row }) done
after (Replace key row) done = with_write (record { key = key; row = Some row }) done
after (Remove key) done = with_write (record { key = key; row = None }) done
after Overflow done = done

abbrev pub unless : Option ChangeFault → Effect → Result Effect ChangeFault
unless None done = Ok done
unless (Some offence) done = Err offence

abbrev pub on_from : Result Effect ChangeFault → (Effect → Result Effect ChangeFault) → Result Effect ChangeFault
on_from (Ok done) next = next done
on_from (Err offence) next = Err offence

-- one deed after those that are done
abbrev pub judge : Table → (List ℕ → Bool) → List Write → Deed → Effect → Result Effect ChangeFault
judge table is_there own deed done = unless (offence table is_there own done.writes deed) (after deed done)

-- the deeds one after the other, each judged by those before it; the first that offends decides
abbrev pub judged : Table → (List ℕ → Bool) → List Write → List Deed → Effect → Result Effect ChangeFault
judged table is_there own [] done = Ok done
judged table is_there own (deed ∷ deeds) done = on_from (judge table is_there own deed done) (λ (more : Effect). judged table is_there own deeds more)

abbrev pub nothing : Effect
nothing = record { count = 0; writes = [] }

-- what the statement does to the tables, where the transaction has its own writes already, or the offence that refuses it
abbrev pub change_of : Edit → Table → Tables → List Write → Result Effect ChangeFault
change_of edit table tables own = judged table (finmap.contains_key tables) own (deeds edit table tables) nothing

-- the number of the table that is changed
abbrev pub number_of : Edit → ℕ
number_of (Insert number rows) = number
number_of (Update number sets condition) = number
number_of (Delete number condition) = number
