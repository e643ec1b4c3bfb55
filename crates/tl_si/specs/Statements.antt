-- What one statement makes of the state that is kept.
use Rattle.std.specs.Prelude.{◌≡◌, ℕ, Bool, true, false, not, ◌&&◌, ◌||◌, Option, Some, None, List, Result, Ok, Err, take}
use Rattle.tl_schema.specs.declared.catalog.Catalog.{Catalog}
use Rattle.tl_write.specs.declared.fault.ChangeFault.{ChangeFault}
use Rattle.tl_write.specs.declared.fault.ChangeFault.TheVariants as fault
use Rattle.tl_write.specs.declared.write.Effect.{Effect}
use Rattle.tl_write.specs.Tables.{Tables, laid_over}
use Rattle.tl_isolation.specs.declared.bound.Bound.{Bound}
use Rattle.tl_isolation.specs.declared.entry.Said.{Said}
use Rattle.tl_isolation.specs.declared.state.Commit.{Commit}
use Rattle.tl_isolation.specs.declared.state.Transaction.{Transaction}
use Rattle.tl_isolation.specs.declared.entry.Answer.{Answer}
use Rattle.tl_isolation.specs.declared.entry.Answer.TheVariants as answer
use Rattle.tl_isolation.specs.State.{held_by, is_fresh, is_open, tables_after}
use Rattle.tl_isolation.specs.Step.{MaySay, take_statement, with_held}
use Rattle.tl_si.specs.Answers.{is_nested, tells_recovered, tells_there}
use Rattle.tl_si.specs.declared.state.State.{State}
use Rattle.tl_si.specs.declared.stop.Stop.{Stop}
use Rattle.tl_si.specs.declared.stop.Stop.TheVariants as stop
use Rattle.tl_si.specs.Shown.{shown}

-- what a transaction sees after these commits
abbrev pub view : List Commit → Transaction → Tables
view commits t = laid_over (tables_after (take t.first commits)) t.own

-- whether memory was wanting
abbrev pub wants_memory : Result Effect ChangeFault → Bool
wants_memory (Err fault.NoMemory) = true
wants_memory effect = false

-- what may be answered to BEGIN
abbrev pub may_answer_begin : Transaction → Answer → Bool
may_answer_begin t answer.Begun = is_fresh t
may_answer_begin t answer.Nested = is_open t
may_answer_begin t told = false

-- what may be answered to RECOVER of this node, where the other holds that transaction, and one of the node's is lost or none
abbrev pub may_answer_recover : Option Transaction → Bool → ℕ → Answer → Bool
may_answer_recover (Some t) lost gone told = is_nested told && is_open t
may_answer_recover None lost gone told = tells_there told gone || (tells_recovered told gone && not lost)

-- the node may say this of the statement, which changes its transaction, or may not
abbrev pub Taken : {A : Type 0} → Catalog → State → ℕ → Bound → Said → Result A Stop → State → Type 0
Taken catalog old node bound said (Ok x) new =
    MaySay catalog (shown old) node bound said.answer said.answered
    × (shown new ≡ with_held (held_by node old.held.items) (take_statement catalog (shown old) bound said) (shown old))
Taken catalog old node bound said (Err stop.Breaks) new = MaySay catalog (shown old) node bound said.answer said.answered → ⊥
Taken catalog old node bound said (Err stop.NoMemory) new = Unit {0}
