-- The transactions that have begun and are not over.
use Rattle.std.specs.Prelude.{ℕ, ◌==◌, Bool, List, filter, map, not}
use Rattle.std.specs.List.{list_any}
use Rattle.tl_descriptor.specs.Tids.{TidSet}
use Rattle.tl_manager.specs.declared.active.Active.{Active}

abbrev pub is_active : ℕ → List Active → Bool
is_active tid active = list_any (λ transaction. transaction.tid == tid) active

-- the others
abbrev pub without : ℕ → List Active → List Active
without tid active = filter (λ transaction. not (transaction.tid == tid)) active

-- those of a node
abbrev pub tids_of : ℕ → List Active → List ℕ
tids_of node active = map (λ (transaction : Active). transaction.tid) (filter (λ transaction. transaction.node == node) active)

abbrev pub snapshots_of : List Active → List TidSet
snapshots_of = map (λ (transaction : Active). transaction.snapshot)
