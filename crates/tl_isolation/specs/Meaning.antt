-- What a SELECT and a change are answered on the tables that a transaction sees.
use Rattle.std.specs.Prelude.{List, Option, Some, None, Result, Ok, Err, map}
use Rattle.tl_values.specs.declared.value.Value.{Value}
use Rattle.tl_schema.specs.declared.catalog.Catalog.{Catalog}
use Rattle.tl_algebra.specs.declared.edit.Edit.{Edit}
use Rattle.tl_algebra.specs.declared.fault.ValueFault.TheVariants as value
use Rattle.tl_algebra.specs.declared.query.Query.{Query}
use Rattle.tl_algebra.specs.declared.query.Join.{Join}
use Rattle.tl_algebra.specs.Select.{Tells}
use Rattle.tl_write.specs.declared.fault.ChangeFault.{ChangeFault}
use Rattle.tl_write.specs.declared.fault.ChangeFault.TheVariants as fault
use Rattle.tl_write.specs.declared.write.Effect.{Effect}
use Rattle.tl_write.specs.declared.write.Write.{Write}
use Rattle.tl_write.specs.Change.{number_of}
use Rattle.tl_write.specs.Change as change
use Rattle.tl_write.specs.Tables.{Tables}
use Rattle.tl_isolation.specs.declared.entry.Answer.{Answer}
use Rattle.tl_isolation.specs.declared.entry.Answer.TheVariants as answer
use Rattle.tl_isolation.specs.Tables.{table_of, rows_in}

-- a SELECT over these lists of rows, one for each table of FROM, is answered so: with rows, or that a number overflows
abbrev pub QueryAnswers : Query → List (List (List Value)) → Answer → Type 0
QueryAnswers query tables (answer.Rows rows) = Tells query tables (Ok rows)
QueryAnswers query tables answer.Overflow = Tells query tables (Err value.Overflow)
QueryAnswers query tables told = ⊥

-- a SELECT on these tables is answered so
abbrev pub SelectAnswers : Query → Tables → Answer → Type 0
SelectAnswers query tables told = QueryAnswers query (map (λ (join : Join). rows_in join.table tables) query.from) told

-- what a change does to these tables, where the transaction has its own writes already, or why it is refused
abbrev pub change_of : Catalog → Edit → Tables → List Write → Result Effect ChangeFault
change_of catalog edit tables own = change.change_of edit (table_of catalog (number_of edit)) tables own

abbrev pub refusal_of : ChangeFault → Option Answer
refusal_of fault.Overflow = Some answer.Overflow
refusal_of fault.Null = Some answer.Null
refusal_of fault.Long = Some answer.Long
refusal_of fault.Duplicate = Some answer.Duplicate
refusal_of fault.Many = Some answer.Many
refusal_of fault.NoMemory = None

-- what is answered of a change; want of memory is no answer
abbrev pub told_of : Result Effect ChangeFault → Option Answer
told_of (Ok effect) = Some (answer.Changed effect.count)
told_of (Err refusal) = refusal_of refusal
