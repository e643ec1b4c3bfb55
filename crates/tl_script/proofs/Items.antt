-- The items of a schedule, one by one.
use Rattle.std.proofs.Common.{◌≡◌, ℕ, List, [], ◌∷◌, Option, Some, None, Err, refl, sym, subst, ◌∙◌}
use Rattle.tl_script.specs.declared.fault.LineFault.{LineFault}
use Rattle.tl_script.specs.declared.fault.LineFault.TheVariants as line_fault
use Rattle.tl_script.specs.Parts.{Parts, take_item, take_items}
use Rattle.tl_script.specs.Script.{Gets}

one_item : (field : List ℕ) (fields : List (List ℕ)) (parts next : Parts) → take_item field parts ≡ Some next → take_items (field ∷ fields) parts ≡ take_items fields next
one_item field fields parts next e = rw e refl

no_item : (field : List ℕ) (fields : List (List ℕ)) (parts : Parts) → take_item field parts ≡ None → take_items (field ∷ fields) parts ≡ None
no_item field fields parts e = rw e refl

-- the next item is taken
pub next_item : (rest : List (List ℕ)) (field : List ℕ) (fields : List (List ℕ)) (parts next : Parts) (whole : Option Parts)
    → rest ≡ field ∷ fields → take_items rest parts ≡ whole → take_item field parts ≡ Some next → take_items fields next ≡ whole
next_item rest field fields parts next whole e so taken =
    sym (one_item field fields parts next taken) ∙ subst (λ (left : List (List ℕ)). take_items left parts ≡ whole) e so

-- the next item is none
pub item_fails : (fault : LineFault) (rest : List (List ℕ)) (field : List ℕ) (fields : List (List ℕ)) (parts then new : Parts) (whole : Option Parts)
    → rest ≡ field ∷ fields → take_items rest parts ≡ whole → Gets (Err fault) (take_item field parts) then → Gets (Err fault) whole new
item_fails line_fault.NoMemory rest field fields parts then new whole e so fails = tt
item_fails (line_fault.Fault kind) rest field fields parts then new whole e so fails =
    (fails.0, sym (subst (λ (left : List (List ℕ)). take_items left parts ≡ whole) e so) ∙ no_item field fields parts fails.1)

-- no item is left
pub last_item : (rest : List (List ℕ)) (parts : Parts) (whole : Option Parts) → rest ≡ [] → take_items rest parts ≡ whole → whole ≡ Some parts
last_item rest parts whole e so = sym (subst (λ (left : List (List ℕ)). take_items left parts ≡ whole) e so)
