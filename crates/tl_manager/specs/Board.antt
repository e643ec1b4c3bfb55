-- The notices that stand on a board with a place for each node from node 1 on.
use Rattle.std.specs.Prelude.{ℕ, suc, List, [], ◌∷◌, Option, Some, None}
use Rattle.std.specs.FinMap as map
use Rattle.tl_base.specs.declared.node.NodeSet.{NodeSet}
use Rattle.tl_manager.specs.Notices.{Notices}

-- the notices at places whose first is this node's
abbrev pub listed : ℕ → List (Option NodeSet) → List (ℕ × NodeSet)
listed node [] = []
listed node (None ∷ places) = listed (suc node) places
listed node (Some nodes ∷ places) = (node, nodes) ∷ listed (suc node) places

abbrev pub on_board : List (Option NodeSet) → Notices
on_board places = map.from_entries (listed 1 places)
