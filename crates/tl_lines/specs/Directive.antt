-- The forms of directives.
use Rattle.std.specs.Prelude.{ℕ, ◌==◌, List, [], ◌∷◌, Option, length, drop, codes, if◌then◌else◌}
use Rattle.std.specs.declared.option.Option.TheVariants.{Some, None}
use Rattle.std.specs.Option.{option_and_then, option_map}
use Rattle.std.specs.Str.{bytes_eq}
use Rattle.tl_isolation.specs.declared.script.TurnItem.{TurnItem}
use Rattle.tl_isolation.specs.declared.script.TurnItem.TheVariants.{One, Until}
use Rattle.tl_isolation.specs.declared.script.Vanish.{Vanish}
use Rattle.tl_isolation.specs.declared.script.VanishKind.{VanishKind}
use Rattle.tl_isolation.specs.declared.script.VanishKind.TheVariants as kind
use Rattle.tl_lines.specs.declared.directive.Directive.{Directive}
use Rattle.tl_lines.specs.declared.directive.Directive.TheVariants as directive
use Rattle.tl_lines.specs.Fields.{fields_of}
use Rattle.tl_lines.specs.Number.{digits_at, node_in, number_within}

-- each step of a form goes on from what the step before it left
infixl 10 ◌>>=◌
abbrev pub ◌>>=◌ : {A B : Type 0} → Option A → (A → Option B) → Option B
found >>= f = option_and_then f found

-- what stands behind the node of an item: nothing, or how many requests, or up to which statement
abbrev pub item_behind : ℕ → List ℕ → Option TurnItem
item_behind node [] = Some (One node 1)
item_behind node (b ∷ digits) =
    if b == 42 then option_map (λ times. One node times) (number_within 1 100000 digits)
    else if b == 58 then option_map (λ statement. Until node statement) (number_within 1 1000000 digits)
    else None

-- n, n*k or n:s
unfoldable pub item_in : List ℕ → Option TurnItem
item_in field = do
  node ← node_in (digits_at field)
  item_behind node (drop (length (digits_at field)) field)

-- an item in each field
abbrev pub items_in : List (List ℕ) → Option (List TurnItem)
items_in [] = Some []
items_in (field ∷ fields) = do
  item ← item_in field
  items ← items_in fields
  Some (item ∷ items)

abbrev pub kind_of : List ℕ → Option VanishKind
kind_of word =
    if bytes_eq word (codes "record") then Some kind.RecordStore
    else if bytes_eq word (codes "flag") then Some kind.FlagStore
    else if bytes_eq word (codes "leaf") then Some kind.LeafStore
    else if bytes_eq word (codes "split") then Some kind.SplitStore
    else None

-- a kind, or none: then all requests count
abbrev pub kind_in : List (List ℕ) → Option VanishKind
kind_in [] = Some kind.Any
kind_in (word ∷ []) = kind_of word
kind_in (word ∷ other ∷ words) = None

-- a node, a count and a kind
unfoldable pub vanish_in : List (List ℕ) → Option Vanish
vanish_in [] = None
vanish_in (node ∷ []) = None
vanish_in (node ∷ count ∷ words) = do
  node ← node_in node
  count ← number_within 1 100000 count
  kind ← kind_in words
  Some (record { node = node; count = count; kind = kind })

-- one node alone
abbrev pub node_alone : List (List ℕ) → Option ℕ
node_alone [] = None
node_alone (digits ∷ []) = node_in digits
node_alone (digits ∷ other ∷ fields) = None

-- one item or more
abbrev pub turns_in : List (List ℕ) → Option (List TurnItem)
turns_in [] = None
turns_in (field ∷ fields) = items_in (field ∷ fields)

-- the directive in a line's fields, of which the first names it
abbrev pub directive_by : List (List ℕ) → Option Directive
directive_by [] = None
directive_by (head ∷ fields) =
    if bytes_eq head (codes "@node") then option_map (λ node. directive.Node node) (node_alone fields)
    else if bytes_eq head (codes "@turns") then option_map (λ items. directive.Turns items) (turns_in fields)
    else if bytes_eq head (codes "@vanish") then option_map (λ vanish. directive.Vanish vanish) (vanish_in fields)
    else None

-- the directive of a line
unfoldable pub directive_in : List ℕ → Option Directive
directive_in line = directive_by (fields_of line)
