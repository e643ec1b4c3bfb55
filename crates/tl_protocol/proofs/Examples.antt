-- Runs of the protocol as lists of choices, each with all that is told of it: both are written out, and the one computes to
-- the other. What is told of each is a history, as of every run.
use Rattle.std.proofs.Common.{◌≡◌, ℕ, negsuc, false, List, [], ◌∷◌, Option, Some, None, refl, sym, ◌∙◌}
use Rattle.std.specs.FinMap as finmap
use Rattle.tl_values.specs.declared.value.Value.TheVariants as value
use Rattle.tl_schema.specs.declared.catalog.Setup.{Setup}
use Rattle.tl_algebra.specs.declared.expression.Operator.TheVariants as sign
use Rattle.tl_isolation.specs.declared.bound.Bound.{Bound}
use Rattle.tl_isolation.specs.declared.bound.Bound.TheVariants as bound
use Rattle.tl_isolation.specs.declared.entry.Answer.{Answer}
use Rattle.tl_isolation.specs.declared.entry.Answer.TheVariants as answer
use Rattle.tl_isolation.specs.declared.entry.Ending.TheVariants as ending
use Rattle.tl_isolation.specs.declared.entry.Entry.{Entry}
use Rattle.tl_isolation.specs.declared.entry.Entry.TheVariants as entry
use Rattle.tl_isolation.specs.State.{tables_after}
use Rattle.tl_isolation.specs.History.{IsHistory}
use Rattle.tl_isolation.specs.Tables.{OpensFitting}
use Rattle.tl_protocol.specs.Store.{row_shown}
use Rattle.tl_protocol.specs.Told.{says}
use Rattle.tl_protocol.proofs.Account.{all_query, all_rows, bank, changing_one, opens_account, key_of_id, number, one_manager, opens_with, setting_all, sum_of_balances, sum_query, with_balance}
use Rattle.tl_protocol.proofs.Meanings.{Row, Updating, edit_of}
use Rattle.tl_protocol.proofs.Play.{Choice, Asks, Draws, Brings, Begins, SaysBegun, Selects, Updates, Tries, Loads, Stores, Decides, MarksUndone, LoadsCommits, StoresCommits, Answers, Vanishes, Recoverer, AsksFor, ReadsLog, LoadsLost, StoresLost, MarksLost, LoadsFinish, StoresFinish, EndsLost, SaysRecovered, led_by, opening, play, played_history, played_tables, told_by}

-- BEGIN is answered
abbrev begun : ℕ → Entry
begun node = says node 1 bound.Begin answer.Begun

-- a change in a transaction that BEGIN opened
abbrev pub changed : ℕ → ℕ → Updating bank → ℕ → Entry
changed node statement u count = says node statement (bound.Change (edit_of bank u)) (answer.Changed count)

-- an answer that waits for the end of its transaction
abbrev pub waits : ℕ → ℕ → Bound → Answer → Entry
waits node statement b told = entry.Said node b (record { statement = statement; answer = told; answered = false })

-- ---- A lost update is refused. Node 2 adds to the account from which node 1 took, and doesn't see what node 1 left

abbrev two_hundred : Setup
two_hundred = opens_with (with_balance 1 100 ∷ with_balance 2 100 ∷ [])

two_hundred_fit : OpensFitting two_hundred
two_hundred_fit = (opens_account 1 100 refl refl refl, (opens_account 2 100 refl refl refl, tt))

abbrev take_ten : Updating bank
take_ten = changing_one sign.Subtract 10 1 refl refl

abbrev add_five : Updating bank
add_five = changing_one sign.Add 5 1 refl refl

abbrev lost_update : List (Choice bank)
lost_update =
    Asks 1 ∷ Draws 1 ∷ Brings 1 ∷ Begins 1 1 None ∷ SaysBegun 1 1 ∷ Updates 1 2 take_ten
    ∷ Asks 2 ∷ Begins 2 2 None ∷ SaysBegun 2 1 ∷ Updates 2 2 add_five
    ∷ Tries 1 1 ∷ Loads 1 0 ∷ Stores 1 1 0 ∷ Decides 1 2 ∷ LoadsCommits 1 ∷ StoresCommits 1 1 ∷ Answers 1 3
    ∷ Tries 2 1 ∷ Loads 2 0 ∷ MarksUndone 2 2 ∷ LoadsCommits 2 ∷ StoresCommits 2 2 ∷ Answers 2 3 ∷ []

abbrev lost_update_entries : List Entry
lost_update_entries =
    entry.Asked 1 ∷ entry.Began 1 1 1 ∷ begun 1 ∷ changed 1 2 take_ten 1
    ∷ entry.Asked 2 ∷ entry.Began 2 2 1 ∷ begun 2 ∷ changed 2 2 add_five 1
    ∷ entry.Tried 1 ∷ entry.Committed 1 ∷ entry.Answered 1 3 answer.Committed
    ∷ entry.Tried 2 ∷ entry.Clash 2 1 0 ∷ entry.Undone 2 ∷ entry.Answered 2 3 (answer.Conflict 1) ∷ []

pub lost_update_told : told_by one_manager two_hundred lost_update ≡ Some lost_update_entries
lost_update_told = refl

pub lost_update_history : IsHistory two_hundred lost_update_entries
lost_update_history = played_history one_manager two_hundred two_hundred_fit lost_update lost_update_entries lost_update_told

-- what the commits cell shows of an account at the end
abbrev kept : ℕ → Option Row
kept id = let w = (led_by one_manager two_hundred lost_update).world in row_shown w.commits.finished (w.cells (key_of_id id)).versions

-- the account has what node 1 left, and nothing of node 2
pub lost_update_row : finmap.get (tables_after (led_by one_manager two_hundred lost_update).state.commits) (key_of_id 1) ≡ Some (with_balance 1 90)
lost_update_row = sym (played_tables one_manager two_hundred two_hundred_fit lost_update (key_of_id 1)) ∙ kept_row
  where
    kept_row : kept 1 ≡ Some (with_balance 1 90)
    kept_row = refl

-- node 1 can't decide before its record is stored
pub too_early : play one_manager two_hundred
    (Asks 1 ∷ Draws 1 ∷ Brings 1 ∷ Begins 1 1 None ∷ SaysBegun 1 1 ∷ Updates 1 2 take_ten ∷ Tries 1 1 ∷ Loads 1 0 ∷ Decides 1 2 ∷ [])
    (opening one_manager two_hundred) ≡ None
too_early = refl

-- ---- Write skew is allowed. Both see 100 in all, and each takes 80 from another account

abbrev two_fifties : Setup
two_fifties = opens_with (with_balance 1 50 ∷ with_balance 2 50 ∷ [])

two_fifties_fit : OpensFitting two_fifties
two_fifties_fit = (opens_account 1 50 refl refl refl, (opens_account 2 50 refl refl refl, tt))

abbrev first_eighty : Updating bank
first_eighty = changing_one sign.Subtract 80 1 refl refl

abbrev second_eighty : Updating bank
second_eighty = changing_one sign.Subtract 80 2 refl refl

abbrev write_skew : List (Choice bank)
write_skew =
    Asks 1 ∷ Draws 1 ∷ Brings 1 ∷ Begins 1 1 None ∷ SaysBegun 1 1 ∷ Selects 1 2 sum_of_balances ∷ Updates 1 3 first_eighty
    ∷ Asks 2 ∷ Begins 2 2 None ∷ SaysBegun 2 1 ∷ Selects 2 2 sum_of_balances ∷ Updates 2 3 second_eighty
    ∷ Tries 1 1 ∷ Tries 2 1 ∷ Loads 1 0 ∷ Loads 2 0 ∷ Stores 1 1 0 ∷ Stores 2 1 0 ∷ Decides 1 2 ∷ Decides 2 2
    -- node 1 stores the commits cell between the load and the store of node 2
    ∷ LoadsCommits 1 ∷ LoadsCommits 2 ∷ StoresCommits 1 1 ∷ StoresCommits 2 2 ∷ LoadsCommits 2 ∷ StoresCommits 2 2 ∷ Answers 1 4 ∷ Answers 2 4 ∷ []

abbrev hundred : Answer
hundred = answer.Rows ((number 100 ∷ []) ∷ [])

abbrev write_skew_entries : List Entry
write_skew_entries =
    entry.Asked 1 ∷ entry.Began 1 1 1 ∷ begun 1 ∷ says 1 2 (bound.Select sum_query) hundred ∷ changed 1 3 first_eighty 1
    ∷ entry.Asked 2 ∷ entry.Began 2 2 1 ∷ begun 2 ∷ says 2 2 (bound.Select sum_query) hundred ∷ changed 2 3 second_eighty 1
    ∷ entry.Tried 1 ∷ entry.Tried 2 ∷ entry.Committed 1 ∷ entry.Committed 2
    ∷ entry.Answered 1 4 answer.Committed ∷ entry.Answered 2 4 answer.Committed ∷ []

pub write_skew_told : told_by one_manager two_fifties write_skew ≡ Some write_skew_entries
write_skew_told = refl

pub write_skew_history : IsHistory two_fifties write_skew_entries
write_skew_history = played_history one_manager two_fifties two_fifties_fit write_skew write_skew_entries write_skew_told

-- the account with the balance -30
abbrev minus_thirty : ℕ → Row
minus_thirty id = number id ∷ value.Int (negsuc 29) ∷ []

-- what the commits cell shows at the end of an account
abbrev skewed : ℕ → Option Row
skewed id = let w = (led_by one_manager two_fifties write_skew).world in row_shown w.commits.finished (w.cells (key_of_id id)).versions

skewed_first : skewed 1 ≡ Some (minus_thirty 1)
skewed_first = refl

skewed_second : skewed 2 ≡ Some (minus_thirty 2)
skewed_second = refl

-- so after both commits the tables have -30 twice
pub write_skew_first : finmap.get (tables_after (led_by one_manager two_fifties write_skew).state.commits) (key_of_id 1) ≡ Some (minus_thirty 1)
write_skew_first = sym (played_tables one_manager two_fifties two_fifties_fit write_skew (key_of_id 1)) ∙ skewed_first

pub write_skew_second : finmap.get (tables_after (led_by one_manager two_fifties write_skew).state.commits) (key_of_id 2) ≡ Some (minus_thirty 2)
write_skew_second = sym (played_tables one_manager two_fifties two_fifties_fit write_skew (key_of_id 2)) ∙ skewed_second

-- ---- A vanished writer is undone. Node 1 sets all balances to 0, and vanishes after its second record store

abbrev pub three_hundred : Setup
three_hundred = opens_with (with_balance 1 100 ∷ with_balance 2 100 ∷ with_balance 3 100 ∷ [])

pub three_hundred_fit : OpensFitting three_hundred
three_hundred_fit = (opens_account 1 100 refl refl refl, (opens_account 2 100 refl refl refl, (opens_account 3 100 refl refl refl, tt)))

abbrev pub set_zero : Updating bank
set_zero = setting_all 0 refl

-- the opening rows
abbrev all_hundred : Answer
all_hundred = answer.Rows (with_balance 1 100 ∷ with_balance 2 100 ∷ with_balance 3 100 ∷ [])

abbrev vanished_writer : List (Choice bank)
vanished_writer =
    Asks 1 ∷ Draws 1 ∷ Brings 1 ∷ Begins 1 1 None ∷ Updates 1 1 set_zero ∷ Tries 1 1 ∷ Loads 1 0 ∷ Stores 1 1 0 ∷ Loads 1 1 ∷ Stores 1 1 0 ∷ Vanishes 1 ending.Vanished
    -- SELECT * FROM account
    ∷ Asks 2 ∷ Begins 2 2 None ∷ Selects 2 1 all_rows ∷ Tries 2 0 ∷ StoresCommits 2 1 ∷ Answers 2 1
    -- RECOVER 1: the third record has no version of node 1's transaction
    ∷ Recoverer 2 2 1 ∷ AsksFor 2 1 ∷ ReadsLog 2 ∷ LoadsLost 2 0 ∷ StoresLost 2 2 ∷ LoadsLost 2 1 ∷ StoresLost 2 2 ∷ LoadsLost 2 2
    ∷ MarksLost 2 2 ∷ LoadsFinish 2 ∷ StoresFinish 2 2 ∷ EndsLost 2 ∷ SaysRecovered 2 2
    -- SELECT * FROM account
    ∷ Asks 2 ∷ Begins 2 3 None ∷ Selects 2 3 all_rows ∷ Tries 2 0 ∷ StoresCommits 2 3 ∷ Answers 2 3 ∷ []

abbrev vanished_writer_entries : List Entry
vanished_writer_entries =
    entry.Asked 1 ∷ entry.Began 1 1 1 ∷ waits 1 1 (bound.Change (edit_of bank set_zero)) (answer.Changed 3) ∷ entry.Tried 1 ∷ entry.Vanished 1 ending.Vanished
    ∷ entry.Asked 2 ∷ entry.Began 2 2 1 ∷ waits 2 1 (bound.Select all_query) all_hundred ∷ entry.Tried 2 ∷ entry.Committed 2 ∷ entry.Answered 2 1 all_hundred
    ∷ entry.Undone 1 ∷ says 2 2 (bound.Recover 1) (answer.Recovered 1)
    ∷ entry.Asked 2 ∷ entry.Began 2 3 2 ∷ waits 2 3 (bound.Select all_query) all_hundred ∷ entry.Tried 3 ∷ entry.Committed 3 ∷ entry.Answered 2 3 all_hundred ∷ []

pub vanished_writer_told : told_by one_manager three_hundred vanished_writer ≡ Some vanished_writer_entries
vanished_writer_told = refl

pub vanished_writer_history : IsHistory three_hundred vanished_writer_entries
vanished_writer_history = played_history one_manager three_hundred three_hundred_fit vanished_writer vanished_writer_entries vanished_writer_told

-- ---- A recoverer that vanishes. Node 1 vanishes after its third record store, and node 2 once it has removed one version

abbrev vanished_recoverer : List (Choice bank)
vanished_recoverer =
    Asks 1 ∷ Draws 1 ∷ Brings 1 ∷ Begins 1 1 None ∷ Updates 1 1 set_zero ∷ Tries 1 1
    ∷ Loads 1 0 ∷ Stores 1 1 0 ∷ Loads 1 1 ∷ Stores 1 1 0 ∷ Loads 1 2 ∷ Stores 1 1 0 ∷ Vanishes 1 ending.Vanished
    -- RECOVER 1
    ∷ Recoverer 2 1 1 ∷ AsksFor 2 1 ∷ ReadsLog 2 ∷ LoadsLost 2 0 ∷ StoresLost 2 2 ∷ Vanishes 2 ending.Vanished
    -- RECOVER 1, whose death notice node 2 took
    ∷ Recoverer 3 1 1
    -- RECOVER 2, which leaves node 1 too
    ∷ Recoverer 3 2 2 ∷ AsksFor 3 1 ∷ ReadsLog 3 ∷ LoadsLost 3 0 ∷ LoadsLost 3 1 ∷ StoresLost 3 2 ∷ LoadsLost 3 2 ∷ StoresLost 3 2
    ∷ MarksLost 3 2 ∷ LoadsFinish 3 ∷ StoresFinish 3 1 ∷ EndsLost 3 ∷ AsksFor 3 2 ∷ SaysRecovered 3 2
    -- SELECT * FROM account
    ∷ Asks 3 ∷ Begins 3 2 None ∷ Selects 3 3 all_rows ∷ Tries 3 0 ∷ StoresCommits 3 2 ∷ Answers 3 3 ∷ []

abbrev vanished_recoverer_entries : List Entry
vanished_recoverer_entries =
    entry.Asked 1 ∷ entry.Began 1 1 1 ∷ waits 1 1 (bound.Change (edit_of bank set_zero)) (answer.Changed 3) ∷ entry.Tried 1 ∷ entry.Vanished 1 ending.Vanished
    ∷ entry.Vanished 2 ending.Vanished ∷ says 3 1 (bound.Recover 1) (answer.There 1) ∷ entry.Undone 1 ∷ says 3 2 (bound.Recover 2) (answer.Recovered 2)
    ∷ entry.Asked 3 ∷ entry.Began 3 2 1 ∷ waits 3 3 (bound.Select all_query) all_hundred ∷ entry.Tried 2 ∷ entry.Committed 2 ∷ entry.Answered 3 3 all_hundred ∷ []

pub vanished_recoverer_told : told_by one_manager three_hundred vanished_recoverer ≡ Some vanished_recoverer_entries
vanished_recoverer_told = refl

pub vanished_recoverer_history : IsHistory three_hundred vanished_recoverer_entries
vanished_recoverer_history = played_history one_manager three_hundred three_hundred_fit vanished_recoverer vanished_recoverer_entries vanished_recoverer_told
