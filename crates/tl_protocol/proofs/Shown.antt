-- What the machine of snapshot isolation shows of a ledger.
use Rattle.std.proofs.Common.{◌≡◌, ℕ, ◌≤◌, true, List, Some}
use Rattle.std.specs.Prelude.{reverse, ◌==◌}
use Rattle.std.specs.List.{list_any, AllByRecursion}
use Rattle.tl_schema.specs.declared.catalog.Catalog.{Catalog}
use Rattle.tl_values.specs.declared.value.Value.{Value}
use Rattle.tl_write.specs.declared.write.Write.{Write}
use Rattle.tl_isolation.specs.declared.entry.Entry.{Entry}
use Rattle.tl_isolation.specs.declared.state.Commit.{Commit}
use Rattle.tl_isolation.specs.declared.state.Transaction.{Transaction}
use Rattle.tl_isolation.specs.declared.state.SiState.{SiState}
use Rattle.tl_isolation.specs.State.{held_as, held_by}
use Rattle.tl_isolation.specs.Tables.{IsHome}
use Rattle.tl_isolation.specs.Step.{has_vanished, noted_of, outcome_of}
use Rattle.tl_isolation.specs.History.{IsHistoryFrom, state_from}
use Rattle.tl_protocol.specs.Stands.{IsKeyOf}
use Rattle.tl_protocol.proofs.Ledger.{Ledger}

-- a held transaction is the one of its node and of its number
pub record IsTidy (held : List Transaction) (numbers : List ℕ) (t : Transaction) : Type 0 where
  pub node : 1 ≤ t.node
  pub by_node : held_by t.node held ≡ Some t
  pub by_tid : held_as t.tid held ≡ Some t
  pub begun : list_any (λ tid. tid == t.tid) numbers ≡ true

-- the state shows the ledger
pub record Shows (s : SiState) (a : Ledger) : Type 0 where
  pub commits : s.commits ≡ reverse a.commits
  pub begun : (tid : ℕ) → list_any (λ t. t == tid) s.begun ≡ a.begun tid
  pub tidy : AllByRecursion (IsTidy s.held s.begun) s.held
  pub noted : (n : ℕ) → 1 ≤ n → noted_of s n ≡ (a.seats n).noted
  pub outcome : (n : ℕ) → 1 ≤ n → outcome_of s n ≡ (a.seats n).outcome
  pub held : (n : ℕ) → 1 ≤ n → held_by n s.held ≡ (a.seats n).held
  pub vanished : (n : ℕ) → 1 ≤ n → has_vanished s n ≡ (a.seats n).vanished

-- these entries are allowed, and what stands after them shows the ledger
pub record Tells (catalog : Catalog) (s : SiState) (entries : List Entry) (a : Ledger) : Type 0 where
  pub allowed : IsHistoryFrom catalog s entries
  pub shows : Shows (state_from catalog s entries) a

-- each row that is written is at home: it fits its table, and stands under its own record key
abbrev pub AreHomeWrites : Catalog → List Write → Type 0
AreHomeWrites catalog ws = AllByRecursion (λ (w : Write). (row : List Value) → w.row ≡ Some row → IsHome catalog w.key row) ws

-- each key that is written is that of a record, also where the record is deleted
abbrev pub AreKeyed : Catalog → List Write → Type 0
AreKeyed catalog ws = AllByRecursion (λ (w : Write). IsKeyOf catalog w.key) ws

-- so are all rows and keys of all commits and of all held transactions
pub record Proper (catalog : Catalog) (s : SiState) : Type 0 where
  pub commits : AllByRecursion (λ (c : Commit). AreHomeWrites catalog c.writes × AreKeyed catalog c.writes) s.commits
  pub held : AllByRecursion (λ (t : Transaction). AreHomeWrites catalog t.own × AreKeyed catalog t.own) s.held
