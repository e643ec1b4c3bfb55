-- Numbers of nodes.
use Rattle.std.specs.Prelude.{ℕ, List, Option}
use Rattle.tl_script.specs.Number.{number_within}

-- the node of these digits, from 1 to 16
abbrev pub node_in : List ℕ → Option ℕ
node_in digits = number_within 1 16 digits
