-- Tables, statements and schedules that no bound script has.
use Rattle.std.proofs.Common.{◌≡◌, ◌<◌, Bool, true, false, List, [], ◌∷◌, None, length, refl, arith}
use Rattle.tl_lemmas.proofs.Tests.{never_both}
use Rattle.tl_base.specs.declared.place.Settings.{Settings}
use Rattle.tl_values.specs.declared.value.Kind.TheVariants as kind
use Rattle.tl_schema.specs.declared.catalog.Column.{Column}
use Rattle.tl_schema.specs.declared.catalog.Index.{Index}
use Rattle.tl_algebra.specs.declared.edit.Edit.TheVariants.{Insert, Update}
use Rattle.tl_isolation.specs.declared.script.Script.{Script}
use Rattle.tl_isolation.specs.declared.script.Session.{Session}
use Rattle.tl_isolation.specs.declared.script.TurnItem.TheVariants.{One}
use Rattle.tl_isolation.specs.declared.script.VanishKind.TheVariants as vanish
use Rattle.tl_protocol.proofs.Account.{account, bank, with_balance}
use Rattle.tl_journal.specs.Binding.{EditFits, IsBound, TableFits}

-- ---- opening rows of one key
pub two_of_one_key : (script : Script) (settings : Settings)
    → IsBound (record script { catalog = bank; rows = record { table = 0; row = with_balance 1 10 } ∷ record { table = 0; row = with_balance 1 20 } ∷ [] }) settings → ⊥
two_of_one_key script settings h = let distinct : 1 ≡ 2 = h.distinct in omega (arith, distinct)

-- ---- tables, whether a statement names them or not
pub no_table_at_all : (script : Script) (settings : Settings) → IsBound (record script { catalog = record { tables = [] } }) settings → ⊥
no_table_at_all script settings h = let some = h.some in omega (arith, some)

-- a second table, without a primary key
pub unnamed_without_key : (script : Script) (settings : Settings) → IsBound (record script { catalog = record { tables = account ∷ record account { key = [] } ∷ [] } }) settings → ⊥
unnamed_without_key script settings h = never_both true refl (h.tables.1.0.keyed.some)

pub key_of_no_column : TableFits (record account { key = 2 ∷ [] }) → ⊥
key_of_no_column h = let below : 2 < 2 = h.keyed.columns.0 in omega (arith, below)

abbrev lax : Column
lax = record { name = []; kind = kind.Int; not_null = false }

pub key_that_takes_null : TableFits (record account { columns = lax ∷ lax ∷ [] }) → ⊥
key_that_takes_null h = never_both false h.keyed.not_null.0 refl

pub column_twice_in_the_key : TableFits (record account { key = 0 ∷ 0 ∷ [] }) → ⊥
column_twice_in_the_key h = never_both true refl h.once.0

-- 33 columns
pub many_columns : (columns : List Column) → length columns ≡ 33 → TableFits (record account { columns = columns }) → ⊥
many_columns columns e h = let most = h.columns in omega (arith, e, most)

pub many_indexes : (indexes : List Index) → length indexes ≡ 9 → TableFits (record account { indexes = indexes }) → ⊥
many_indexes indexes e h = let most = h.few in omega (arith, e, most)

pub index_of_no_column : TableFits (record account { indexes = record { name = []; columns = [] } ∷ [] }) → ⊥
index_of_no_column h = never_both true refl h.indexes.0.some

pub index_of_one_column_twice : TableFits (record account { indexes = record { name = []; columns = 1 ∷ 1 ∷ [] } ∷ [] }) → ⊥
index_of_one_column_twice h = never_both true refl h.indexes.0.once.0

pub index_of_a_third_column : TableFits (record account { indexes = record { name = []; columns = 2 ∷ [] } ∷ [] }) → ⊥
index_of_a_third_column h = let below : 2 < 2 = h.indexes.0.columns.0 in omega (arith, below)

-- ---- forms that no grammar gives
pub insert_of_no_row : EditFits bank (Insert 0 []) → ⊥
insert_of_no_row h = let some = h.written in omega (arith, some)

pub set_of_nothing : EditFits bank (Update 0 [] None) → ⊥
set_of_nothing h = let some = h.written.0 in omega (arith, some)

-- ---- the schedule
abbrev first_alone : List Session
first_alone = record { node = 1; statements = [] } ∷ []

pub turn_without_session : (script : Script) (settings : Settings) → IsBound (record script { sessions = first_alone; turns = One 2 1 ∷ [] }) settings → ⊥
turn_without_session script settings h = never_both false h.turns.0.0 refl

pub vanishing_without_session : (script : Script) (settings : Settings)
    → IsBound (record script { sessions = first_alone; vanishes = record { node = 2; count = 1; kind = vanish.Any } ∷ [] }) settings → ⊥
vanishing_without_session script settings h = never_both false h.counts.0.session refl

pub vanishing_at_once : (script : Script) (settings : Settings)
    → IsBound (record script { sessions = first_alone; vanishes = record { node = 1; count = 0; kind = vanish.Any } ∷ [] }) settings → ⊥
vanishing_at_once script settings h = let least = h.counts.0.least in omega (arith, least)
