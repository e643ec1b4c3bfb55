-- Replies that no place of a run gives, and cells that are none for their keys, at one table: account (id INT PRIMARY KEY, balance INT NOT NULL).
use Rattle.std.proofs.Common.{◌≡◌, ℕ, ◌^◌, ◌+◌, true, false, List, [], ◌∷◌, ◌++◌, Option, Some, None, refl, subst}
use Rattle.std.specs.List.{AllByRecursion, list_all}
use Rattle.std.proofs.lemmas.Bool.{both_ways}
use Rattle.tl_base.specs.declared.store.Item.{Item}
use Rattle.tl_base.specs.declared.store.StoreReply.TheVariants as answered
use Rattle.tl_values.specs.declared.value.Value.{Value}
use Rattle.tl_values.specs.declared.value.Value.TheVariants as value
use Rattle.tl_values.specs.Reading.{read_int, read_key_value}
use Rattle.tl_versions.specs.declared.version.Version.{Version}
use Rattle.tl_isolation.specs.declared.entry.Entry.{Entry}
use Rattle.tl_isolation.specs.declared.state.SiState.{SiState}
use Rattle.tl_protocol.specs.Stands.{IsVersionFor, StandsFor}
use Rattle.tl_protocol.specs.Store.{Key, LogCell}
use Rattle.tl_protocol.specs.World.{World}
use Rattle.tl_protocol.proofs.Account.{bank, number, with_balance}
use Rattle.tl_journal.specs.Ask.{LoadLog, LoadRecord, StoreRecord}
use Rattle.tl_journal.specs.ForKey.{is_home, is_key_of, is_record_for}
use Rattle.tl_journal.specs.Strange.{is_page, may_tell}
use Rattle.tl_journal.proofs.ForKeyTests.{home_is, keys_are}

-- ---- record cells

key_one : Key
key_one = 4 ∷ 0 ∷ 2 ∷ 128 ∷ 0 ∷ 0 ∷ 0 ∷ 0 ∷ 0 ∷ 0 ∷ 1 ∷ []

key_two : Key
key_two = 4 ∷ 0 ∷ 2 ∷ 128 ∷ 0 ∷ 0 ∷ 0 ∷ 0 ∷ 0 ∷ 0 ∷ 2 ∷ []

version : ℕ → Option (List Value) → List Version
version tid row = record { tid = tid; row = row } ∷ []

own_row : is_record_for bank key_one (version 7 (Some (with_balance 1 10))) ≡ true
unfolding key_one version
own_row = refl

deleted : is_record_for bank key_one (version 7 None) ≡ true
unfolding key_one version
deleted = refl

foreign_row : is_record_for bank key_two (version 7 (Some (with_balance 1 10))) ≡ false
unfolding key_two version
foreign_row = refl

text_balance : is_record_for bank key_one (version 7 (Some (number 1 ∷ value.Text (65 ∷ []) ∷ []))) ≡ false
unfolding key_one version
text_balance = refl

no_balance : is_record_for bank key_one (version 7 (Some (number 1 ∷ value.Null ∷ []))) ≡ false
unfolding key_one version
no_balance = refl

one_column : is_record_for bank key_one (version 7 (Some (number 1 ∷ []))) ≡ false
unfolding key_one version
one_column = refl

great_number : is_record_for bank key_one (version (2 ^ 62 + 1) None) ≡ false
unfolding key_one version
great_number = refl

-- a store with a row under a foreign key stands for no tables
foreign_refused : (w : World) (state : SiState) (entries : List Entry) (k : Key) (v : Version) (vs : List Version) (row : List Value) → (w.cells k).versions ≡ v ∷ vs
    → v.row ≡ Some row → is_home w.catalog k row ≡ false → StandsFor w state entries → ⊥
foreign_refused w state entries k v vs row here is other stands =
    let all : AllByRecursion (IsVersionFor w.catalog k) (v ∷ vs) = subst (AllByRecursion (IsVersionFor w.catalog k)) here (stands.records k) in
    both_ways (is_home w.catalog k row) other (home_is w.catalog k row (all.0.home row is))

-- nor does one whose log cell names what is no record
unnamed_refused : (w : World) (state : SiState) (entries : List Entry) (tid : ℕ) (log : LogCell) → w.logs tid ≡ Some log
    → list_all (is_key_of w.catalog) log.entry.writes ≡ false → StandsFor w state entries → ⊥
unnamed_refused w state entries tid log here other stands =
    both_ways (list_all (is_key_of w.catalog) log.entry.writes) other (keys_are w.catalog log.entry.writes (stands.logs tid log here).keys)

-- ---- log cells

names_record : is_key_of bank key_one ≡ true
unfolding key_one read_key_value read_int
names_record = refl

names_other_table : is_key_of bank (4 ∷ 1 ∷ 2 ∷ 128 ∷ 0 ∷ 0 ∷ 0 ∷ 0 ∷ 0 ∷ 0 ∷ 1 ∷ []) ≡ false
names_other_table = refl

names_no_values : is_key_of bank (4 ∷ 0 ∷ []) ≡ false
unfolding read_key_value
names_no_values = refl

names_null : is_key_of bank (4 ∷ 0 ∷ 0 ∷ []) ≡ false
unfolding read_key_value
names_null = refl

names_more : is_key_of bank (key_one ++ 0 ∷ []) ≡ false
unfolding key_one read_key_value read_int
names_more = refl

-- ---- pages

item : Key → ℕ → Item
item key stamp = record { key = key; stamp = stamp; value = [] }

in_order : is_page (4 ∷ 0 ∷ 1 ∷ []) (4 ∷ 0 ∷ 4 ∷ []) (item key_one 3 ∷ item key_two 4 ∷ []) false ≡ true
unfolding item key_one key_two
in_order = refl

out_of_order : is_page (4 ∷ 0 ∷ 1 ∷ []) (4 ∷ 0 ∷ 4 ∷ []) (item key_two 3 ∷ item key_one 4 ∷ []) false ≡ false
unfolding item key_one key_two
out_of_order = refl

twice : is_page (4 ∷ 0 ∷ 1 ∷ []) (4 ∷ 0 ∷ 4 ∷ []) (item key_one 3 ∷ item key_one 3 ∷ []) false ≡ false
unfolding item key_one
twice = refl

before_the_range : is_page key_two (4 ∷ 0 ∷ 4 ∷ []) (item key_one 3 ∷ []) false ≡ false
unfolding item key_one key_two
before_the_range = refl

behind_the_range : is_page (4 ∷ 0 ∷ 1 ∷ []) key_two (item key_two 3 ∷ []) false ≡ false
unfolding item key_two
behind_the_range = refl

never_stored : is_page (4 ∷ 0 ∷ 1 ∷ []) (4 ∷ 0 ∷ 4 ∷ []) (item key_one 0 ∷ []) false ≡ false
unfolding item key_one
never_stored = refl

-- a page that isn't full has no more
not_full : is_page (4 ∷ 0 ∷ 1 ∷ []) (4 ∷ 0 ∷ 4 ∷ []) (item key_one 3 ∷ []) true ≡ false
unfolding item key_one
not_full = refl

-- ---- stamps

bytes_unstored : may_tell (LoadRecord key_one) (answered.Cell 0 (1 ∷ [])) ≡ false
bytes_unstored = refl

log_without_bytes : may_tell (LoadLog 7) (answered.Cell 5 []) ≡ false
log_without_bytes = refl

older_stamp : may_tell (StoreRecord key_one 5 []) (answered.Stored 5) ≡ false
older_stamp = refl

found_the_same : may_tell (StoreRecord key_one 5 []) (answered.Moved 5) ≡ false
found_the_same = refl
