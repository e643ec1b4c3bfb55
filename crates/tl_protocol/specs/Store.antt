-- What the store holds: record cells with their versions, log cells, and the commits cell.
use Rattle.std.specs.Prelude.{ℕ, ◌==◌, Bool, List, [], ◌∷◌, Option, Some, None, if◌then◌else◌}
use Rattle.std.specs.Ordering.{is_eq}
use Rattle.tl_values.specs.declared.value.Value.{Value}
use Rattle.tl_descriptor.specs.Tids.{TidSet}
use Rattle.tl_logrec.specs.declared.entry.LogEntry.{LogEntry}
use Rattle.tl_versions.specs.declared.version.Version.{Version}
use Rattle.tl_versions.specs.Versions.{visible}
use Rattle.tl_write.specs.declared.write.Write.{Write}
use Rattle.tl_write.specs.Own.{key_cmp}

-- the store key of a record
abbrev pub Key : Type 0
Key = List ℕ

abbrev pub same_key : Key → Key → Bool
same_key a b = is_eq (key_cmp a b)

-- f, with x at n
abbrev pub put : {A : Type 0} → ℕ → A → (ℕ → A) → ℕ → A
put n x f i = if n == i then x else f i

-- f, with x at the key
abbrev pub put_at : {A : Type 0} → Key → A → (Key → A) → Key → A
put_at k x f i = if same_key k i then x else f i

-- a record cell; one that was never stored has stamp 0 and no versions
pub record Cell : Type 0 where
  pub stamp : ℕ
  pub versions : List Version

-- the log cell of a transaction
pub record LogCell : Type 0 where
  pub stamp : ℕ
  pub entry : LogEntry

-- the commits cell: the transactions that are finished, whether committed or undone
pub record CommitsCell : Type 0 where
  pub stamp : ℕ
  pub finished : TidSet

-- the stamp that a store of the log cell has to name
abbrev pub log_stamp : Option LogCell → ℕ
log_stamp None = 0
log_stamp (Some cell) = cell.stamp

abbrev pub row_of : Option Version → Option (List Value)
row_of None = None
row_of (Some version) = version.row

-- the row that a set of transactions shows of these versions
abbrev pub row_shown : TidSet → List Version → Option (List Value)
row_shown set versions = row_of (visible set versions)

abbrev pub last_of : {A : Type 0} → Option A → Option A → Option A
last_of earlier None = earlier
last_of earlier (Some x) = Some x

-- the row, or its deletion, that these writes leave at the key, if one of them is of it
abbrev pub written : Key → List Write → Option (Option (List Value))
written k [] = None
written k (w ∷ ws) = last_of (if same_key w.key k then Some w.row else None) (written k ws)

-- a written row lies over the one below it
abbrev pub over : Option (Option (List Value)) → Option (List Value) → Option (List Value)
over None below = below
over (Some row) below = row
