-- Runs with the rarer moves, and two managers: cells that moved, versions taken back, a rollback, refused statements, and a
-- decided transaction whose node vanished.
use Rattle.std.proofs.Common.{◌≡◌, ℕ, ◌≤◌, true, false, Bool, List, [], ◌∷◌, Some, None, refl, arith}
use Rattle.std.specs.Prelude.{◌==◌, if◌then◌else◌}
use Rattle.tl_algebra.specs.declared.expression.Operator.TheVariants as sign
use Rattle.tl_isolation.specs.declared.bound.Bound.TheVariants as bound
use Rattle.tl_isolation.specs.declared.entry.Answer.{Answer}
use Rattle.tl_isolation.specs.declared.entry.Answer.TheVariants as answer
use Rattle.tl_isolation.specs.declared.entry.Ending.TheVariants as ending
use Rattle.tl_isolation.specs.declared.entry.Entry.{Entry}
use Rattle.tl_isolation.specs.declared.entry.Entry.TheVariants as entry
use Rattle.tl_isolation.specs.History.{IsHistory}
use Rattle.tl_protocol.specs.Run.{Layout}
use Rattle.tl_protocol.specs.Told.{says}
use Rattle.tl_protocol.proofs.Account.{all_query, all_rows, bank, changing_one, with_balance}
use Rattle.tl_protocol.proofs.Examples.{changed, set_zero, three_hundred, three_hundred_fit, waits}
use Rattle.tl_protocol.proofs.Meanings.{Updating, edit_of}
use Rattle.tl_protocol.proofs.Play.{Choice, Asks, Draws, Brings, Begins, Learns, SaysBegun, SaysNested, SaysOutside, Selects, Updates, Tries, Loads, Stores, Decides, TakesBack, StoresBack, MarksUndone, GivesUp, LoadsCommits, StoresCommits, Answers, Vanishes, Recoverer, AsksFor, ReadsLog, LoadsFinish, StoresFinish, EndsLost, SaysRecovered, played_history, told_by}

-- node 2 has the second manager
abbrev home_of : ℕ → ℕ
home_of n = if n == 2 then 1 else 0

pub is_home : (n : ℕ) → home_of n ≤ 1
is_home n = one (n == 2)
  where
    one : (b : Bool) → (if b then 1 else 0) ≤ 1
    one true = omega arith
    one false = omega arith

abbrev two_managers : Layout
two_managers = record { home = home_of; top = 1; at_home = is_home; stamps = λ k. 0; commits_stamp = 0 }

abbrev take_of_two : Updating bank
take_of_two = changing_one sign.Subtract 10 2 refl refl

abbrev add_one : Updating bank
add_one = changing_one sign.Add 1 1 refl refl

abbrev rarer_moves : List (Choice bank)
rarer_moves =
    -- COMMIT outside a transaction, and RECOVER inside one
    SaysOutside 2 1 bound.Commit
    ∷ Asks 1 ∷ Draws 1 ∷ Brings 1 ∷ Begins 1 1 None ∷ SaysBegun 1 1 ∷ SaysNested 1 2 (bound.Recover 2) ∷ Updates 1 3 set_zero
    ∷ Asks 2 ∷ Draws 2 ∷ Brings 2 ∷ Begins 2 17 None ∷ Learns 2 0 (Some 1) ∷ Updates 2 2 take_of_two
    -- both load the second record, and node 2 stores it first
    ∷ Tries 1 1 ∷ Loads 1 0 ∷ Stores 1 1 0 ∷ Tries 2 1 ∷ Loads 1 1 ∷ Loads 2 0 ∷ Stores 2 1 1 ∷ Decides 2 2 ∷ Stores 1 2 0
    -- so node 1 takes its version of the first record back
    ∷ Loads 1 1 ∷ TakesBack 1 0 ∷ StoresBack 1 2 ∷ MarksUndone 1 2
    -- both load the commits cell, and node 2 stores it first
    ∷ LoadsCommits 1 ∷ LoadsCommits 2 ∷ StoresCommits 2 1 ∷ StoresCommits 1 2 ∷ LoadsCommits 1 ∷ StoresCommits 1 2 ∷ Answers 2 2 ∷ Answers 1 4
    -- ROLLBACK
    ∷ Asks 1 ∷ Begins 1 2 None ∷ SaysBegun 1 5 ∷ Updates 1 6 add_one ∷ GivesUp 1 ∷ StoresCommits 1 3 ∷ Answers 1 7
    -- node 1 vanishes before it has said anything, and node 2 and node 3 both load the commits cell
    ∷ Asks 1 ∷ Begins 1 3 None ∷ Vanishes 1 ending.Spent ∷ Recoverer 2 3 1 ∷ AsksFor 2 1 ∷ ReadsLog 2 ∷ LoadsFinish 2
    ∷ Asks 3 ∷ Begins 3 4 None ∷ Selects 3 1 all_rows ∷ Tries 3 0 ∷ StoresCommits 3 4
    ∷ StoresFinish 2 5 ∷ LoadsFinish 2 ∷ StoresFinish 2 5 ∷ EndsLost 2 ∷ SaysRecovered 2 3 ∷ Answers 3 1 ∷ []

-- what node 2 left
abbrev left : Answer
left = answer.Rows (with_balance 1 100 ∷ with_balance 2 90 ∷ with_balance 3 100 ∷ [])

abbrev rarer_entries : List Entry
rarer_entries =
    says 2 1 bound.Commit answer.Outside
    ∷ entry.Asked 1 ∷ entry.Began 1 1 1 ∷ says 1 1 bound.Begin answer.Begun ∷ says 1 2 (bound.Recover 2) answer.Nested ∷ changed 1 3 set_zero 3
    ∷ entry.Asked 2 ∷ entry.Began 2 17 1 ∷ waits 2 2 (bound.Change (edit_of bank take_of_two)) (answer.Changed 1)
    ∷ entry.Tried 1 ∷ entry.Tried 17 ∷ entry.Clash 1 17 1 ∷ entry.Committed 17 ∷ entry.Undone 1
    ∷ entry.Answered 2 2 (answer.Changed 1) ∷ entry.Answered 1 4 (answer.Conflict 17)
    ∷ entry.Asked 1 ∷ entry.Began 1 2 2 ∷ says 1 5 bound.Begin answer.Begun ∷ changed 1 6 add_one 1 ∷ entry.Undone 2 ∷ entry.Answered 1 7 answer.RolledBack
    ∷ entry.Asked 1 ∷ entry.Began 1 3 2 ∷ entry.Vanished 1 ending.Spent
    ∷ entry.Asked 3 ∷ entry.Began 3 4 2 ∷ waits 3 1 (bound.Select all_query) left ∷ entry.Tried 4 ∷ entry.Committed 4
    ∷ entry.Undone 3 ∷ says 2 3 (bound.Recover 1) (answer.Recovered 1) ∷ entry.Answered 3 1 left ∷ []

pub rarer_moves_told : told_by two_managers three_hundred rarer_moves ≡ Some rarer_entries
rarer_moves_told = refl

pub rarer_moves_history : IsHistory three_hundred rarer_entries
rarer_moves_history = played_history two_managers three_hundred three_hundred_fit rarer_moves rarer_entries rarer_moves_told

-- ---- A decided transaction is committed by whoever recovers its node. Node 1 vanishes before it loads the commits cell, and node 3
-- between its store of the commits cell and its answer

abbrev take_of_one : Updating bank
take_of_one = changing_one sign.Subtract 10 1 refl refl

abbrev decided : List (Choice bank)
decided =
    Asks 1 ∷ Draws 1 ∷ Brings 1 ∷ Begins 1 1 None ∷ Updates 1 1 take_of_one ∷ Tries 1 1 ∷ Loads 1 0 ∷ Stores 1 1 0 ∷ Decides 1 2 ∷ Vanishes 1 ending.Vanished
    ∷ Asks 3 ∷ Begins 3 2 None ∷ Updates 3 1 take_of_two ∷ Tries 3 1 ∷ Loads 3 0 ∷ Stores 3 1 0 ∷ Decides 3 2 ∷ LoadsCommits 3 ∷ StoresCommits 3 1 ∷ Vanishes 3 ending.Vanished
    ∷ Recoverer 2 1 1 ∷ AsksFor 2 1 ∷ ReadsLog 2 ∷ LoadsFinish 2 ∷ StoresFinish 2 2 ∷ EndsLost 2 ∷ SaysRecovered 2 1
    ∷ Recoverer 2 2 3 ∷ AsksFor 2 3 ∷ ReadsLog 2 ∷ LoadsFinish 2 ∷ EndsLost 2 ∷ SaysRecovered 2 2
    ∷ Asks 2 ∷ Draws 2 ∷ Brings 2 ∷ Begins 2 17 None ∷ Selects 2 3 all_rows ∷ Tries 2 0 ∷ StoresCommits 2 3 ∷ Answers 2 3 ∷ []

abbrev both_left : Answer
both_left = answer.Rows (with_balance 1 90 ∷ with_balance 2 90 ∷ with_balance 3 100 ∷ [])

abbrev decided_entries : List Entry
decided_entries =
    entry.Asked 1 ∷ entry.Began 1 1 1 ∷ waits 1 1 (bound.Change (edit_of bank take_of_one)) (answer.Changed 1) ∷ entry.Tried 1 ∷ entry.Vanished 1 ending.Vanished
    ∷ entry.Asked 3 ∷ entry.Began 3 2 1 ∷ waits 3 1 (bound.Change (edit_of bank take_of_two)) (answer.Changed 1) ∷ entry.Tried 2 ∷ entry.Committed 2 ∷ entry.Vanished 3 ending.Vanished
    ∷ entry.Committed 1 ∷ says 2 1 (bound.Recover 1) (answer.Recovered 1) ∷ says 2 2 (bound.Recover 3) (answer.Recovered 3)
    ∷ entry.Asked 2 ∷ entry.Began 2 17 3 ∷ waits 2 3 (bound.Select all_query) both_left ∷ entry.Tried 17 ∷ entry.Committed 17 ∷ entry.Answered 2 3 both_left ∷ []

pub decided_told : told_by two_managers three_hundred decided ≡ Some decided_entries
decided_told = refl

pub decided_history : IsHistory three_hundred decided_entries
decided_history = played_history two_managers three_hundred three_hundred_fit decided decided_entries decided_told
