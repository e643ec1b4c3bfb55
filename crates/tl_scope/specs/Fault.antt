-- Faults, and the first of them.
use Rattle.std.specs.Prelude.{ℕ, ◌++◌, ◌+◌, ◌*◌, Bool, true, false, List, [], ◌∷◌, Option, Some, None, nat_lt, if◌then◌else◌}
use Rattle.tl_scope.specs.declared.fault.BindKind.{BindKind}
use Rattle.tl_scope.specs.declared.fault.BindKind.TheVariants as kind
use Rattle.tl_scope.specs.declared.fault.BindFault.{BindFault}

-- the place of a kind among the nine
abbrev pub rank : BindKind → ℕ
rank kind.UnknownTable = 0
rank kind.UnknownColumn = 1
rank kind.Ambiguous = 2
rank kind.WrongType = 3
rank kind.KeyChange = 4
rank kind.Grouping = 5
rank kind.Twice = 6
rank kind.NoKey = 7
rank kind.TooMany = 8

-- by the place in the text, and at one place by the kind
abbrev pub weight : BindFault → ℕ
weight f = f.at * 9 + rank f.kind

abbrev pub earlier : BindFault → BindFault → BindFault
earlier a b = if nat_lt (weight b) (weight a) then b else a

abbrev pub earliest : Option BindFault → Option BindFault → Option BindFault
earliest None b = b
earliest (Some a) None = Some a
earliest (Some a) (Some b) = Some (earlier a b)

-- the one that comes first
abbrev pub least : List BindFault → Option BindFault
least [] = None
least (f ∷ fs) = earliest (Some f) (least fs)

abbrev pub fault_if : Bool → ℕ → BindKind → List BindFault
fault_if false at k = []
fault_if true at k = record { at = at; kind = k } ∷ []

-- those of each, which has its place in the list; the first has this one
abbrev pub each_from : {X : Type 0} → (ℕ → X → List BindFault) → ℕ → List X → List BindFault
each_from f i [] = []
each_from f i (x ∷ xs) = f i x ++ each_from f (i + 1) xs
