-- The nodes of a set.
use Rattle.std.specs.Prelude.{ℕ, ◌-◌, ◌/◌, ◌%◌, ◌^◌, ◌==◌, Bool, bit_or}
use Rattle.tl_base.specs.declared.node.NodeSet.{NodeSet}

-- bit n - 1 stands for node n
abbrev pub has_node : NodeSet → ℕ → Bool
has_node set node = (set.0 / 2 ^ (node - 1)) % 2 == 1

-- the set with this node
abbrev pub with_node : NodeSet → ℕ → NodeSet
with_node set node = record { 0 = bit_or set.0 (2 ^ (node - 1)) }

abbrev pub no_nodes : NodeSet
no_nodes = record { 0 = 0 }
