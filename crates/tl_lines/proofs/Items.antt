-- The items of a schedule, one by one.
use Rattle.std.proofs.Common.{◌≡◌, ℕ, List, [], ◌∷◌, ◌++◌, Option, Some, None, refl, sym, subst, ◌∙◌, append_assoc, append-nil}
use Rattle.std.specs.Option.{option_map}
use Rattle.tl_isolation.specs.declared.script.TurnItem.{TurnItem}
use Rattle.tl_lines.specs.Directive.{item_in, items_in}

-- these items, and then the others where there are such
abbrev pub prepended : List TurnItem → Option (List TurnItem) → Option (List TurnItem)
prepended items more = option_map (λ (others : List TurnItem). items ++ others) more

one_more : (items : List TurnItem) (item : TurnItem) (more : Option (List TurnItem)) (both : Option (List TurnItem))
    → prepended (item ∷ []) more ≡ both → prepended items both ≡ prepended (items ++ item ∷ []) more
one_more items item None both e = rw (sym e) refl
one_more items item (Some others) both e = rw (sym e, append_assoc items (item ∷ []) others) refl

first_of : (item : TurnItem) (more : Option (List TurnItem)) (field : List ℕ) (fields : List (List ℕ)) → items_in fields ≡ more → item_in field ≡ Some item
    → prepended (item ∷ []) more ≡ items_in (field ∷ fields)
first_of item None field fields more is = rw (is, more) refl
first_of item (Some others) field fields more is = rw (is, more) refl

-- the next item is read
pub next_item : (items : List TurnItem) (item : TurnItem) (rest : List (List ℕ)) (field : List ℕ) (fields : List (List ℕ)) (whole : Option (List TurnItem))
    → rest ≡ field ∷ fields → item_in field ≡ Some item → whole ≡ prepended items (items_in rest) → whole ≡ prepended (items ++ item ∷ []) (items_in fields)
next_item items item rest field fields whole e is so =
    subst (λ (left : List (List ℕ)). whole ≡ prepended items (items_in left)) e so
    ∙ one_more items item (items_in fields) (items_in (field ∷ fields)) (first_of item (items_in fields) field fields refl is)

-- the next field is no item
pub no_item : (items : List TurnItem) (rest : List (List ℕ)) (field : List ℕ) (fields : List (List ℕ)) (whole : Option (List TurnItem))
    → rest ≡ field ∷ fields → item_in field ≡ None → whole ≡ prepended items (items_in rest) → None ≡ whole
no_item items rest field fields whole e is so =
    sym (subst (λ (left : List (List ℕ)). whole ≡ prepended items (items_in left)) e so ∙ rw is refl)

-- no field is left
pub no_more : (items : List TurnItem) (rest : List (List ℕ)) (whole : Option (List TurnItem)) → rest ≡ [] → whole ≡ prepended items (items_in rest) → Some items ≡ whole
no_more items rest whole e so =
    sym (subst (λ (left : List (List ℕ)). whole ≡ prepended items (items_in left)) e so ∙ rw (append-nil items) refl)
