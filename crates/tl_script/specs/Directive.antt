-- The forms of directives.
use Rattle.std.specs.Prelude.{ℕ, ◌==◌, List, [], ◌∷◌, Option, length, drop, codes, if◌then◌else◌}
use Rattle.std.specs.declared.option.Option.TheVariants.{Some, None}
use Rattle.std.specs.Option.{option_map}
use Rattle.std.specs.Str.{bytes_eq}
use Rattle.tl_isolation.specs.declared.script.TurnItem.{TurnItem}
use Rattle.tl_isolation.specs.declared.script.TurnItem.TheVariants.{One, Until}
use Rattle.tl_isolation.specs.declared.script.Vanish.{Vanish}
use Rattle.tl_isolation.specs.declared.script.VanishKind.{VanishKind}
use Rattle.tl_isolation.specs.declared.script.VanishKind.TheVariants as kind
use Rattle.tl_script.specs.Node.{node_in}
use Rattle.tl_script.specs.Number.{digits_at, number_within}
use Rattle.tl_script.specs.Statement.{◌>>=◌}

-- what stands behind the node of an item: nothing, or how many requests, or up to which statement
abbrev pub item_behind : ℕ → List ℕ → Option TurnItem
item_behind node [] = Some (One node 1)
item_behind node (b ∷ digits) =
    if b == 42 then option_map (λ times. One node times) (number_within 1 100000 digits)
    else if b == 58 then option_map (λ statement. Until node statement) (number_within 1 1000000 digits)
    else None

-- n, n*k or n:s
unfoldable pub item_in : List ℕ → Option TurnItem
item_in field = do
  node ← node_in (digits_at field)
  item_behind node (drop (length (digits_at field)) field)

abbrev pub kind_of : List ℕ → Option VanishKind
kind_of word =
    if bytes_eq word (codes "record") then Some kind.RecordStore
    else if bytes_eq word (codes "flag") then Some kind.FlagStore
    else if bytes_eq word (codes "leaf") then Some kind.LeafStore
    else if bytes_eq word (codes "split") then Some kind.SplitStore
    else None

-- a kind, or none: then all requests count
abbrev pub kind_in : List (List ℕ) → Option VanishKind
kind_in [] = Some kind.Any
kind_in (word ∷ []) = kind_of word
kind_in (word ∷ other ∷ words) = None

-- a node, a count and a kind
unfoldable pub vanish_in : List (List ℕ) → Option Vanish
vanish_in [] = None
vanish_in (node ∷ []) = None
vanish_in (node ∷ count ∷ words) = do
  node ← node_in node
  count ← number_within 1 100000 count
  kind ← kind_in words
  Some (record { node = node; count = count; kind = kind })
