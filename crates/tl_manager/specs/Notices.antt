-- The death notices by their nodes: what a node that vanished was to recover.
use Rattle.std.specs.Prelude.{ℕ, bit_or, refl, unwrap_or}
use Rattle.std.specs.Coded.{Coded, code_by, coded_ℕ}
use Rattle.std.specs.FinMap as map
use Rattle.std.specs.Ordering.{nat_cmp}
use Rattle.tl_base.specs.NodeSet.{no_nodes}
use Rattle.tl_base.specs.declared.node.NodeSet.{NodeSet}

abbrev pub Notices : Type 0
Notices = map.FinMap nat_cmp NodeSet

-- the nodes of both sets
abbrev pub joined : NodeSet → NodeSet → NodeSet
joined nodes also = record { 0 = bit_or nodes.0 also.0 }

-- the notices, where the set is added to that of the node
abbrev pub with_notice : ℕ → NodeSet → Notices → Notices
with_notice node also notices = map.insert notices node (joined (unwrap_or (map.get notices node) no_nodes) also)

-- a set of nodes is stored as its bits
abbrev pub nodes_code : Coded NodeSet
nodes_code = code_by ℕ coded_ℕ (λ nodes. nodes.0) (λ bits. record { 0 = bits }) (λ _. refl)

abbrev pub notices_code : Coded Notices
notices_code = map.code coded_ℕ nodes_code
