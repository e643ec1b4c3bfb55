-- The scope of an ON condition, item by item.
use Rattle.std.proofs.Common.{◌≡◌, ℕ, ◌+◌, ◌<◌, List, [], ◌∷◌, ◌++◌, length, get_or, drop, take, refl, ap, sym, ◌∙◌, arith, append_assoc, length-append}
use Rattle.tl_schema.specs.declared.catalog.Catalog.{Catalog}
use Rattle.tl_grammar.specs.declared.select.FromItem.{FromItem}
use Rattle.tl_scope.specs.Scope.{Source, scope_of, source_of}
use Rattle.tl_lemmas.proofs.Lists.{drop_read}

-- one item more
pub scope_next : (catalog : Catalog) (from : List FromItem) (before now : List Source) (i : ℕ) (x : FromItem) → i < length from → x ≡ get_or from i x →
    now ≡ before ++ source_of catalog x ∷ [] → before ++ scope_of catalog (drop i from) ≡ scope_of catalog from → now ++ scope_of catalog (drop (i + 1) from) ≡ scope_of catalog from
scope_next catalog from before now i x h e was whole =
    ap (λ (s : List Source). s ++ scope_of catalog (drop (i + 1) from)) was
    ∙ append_assoc before (source_of catalog x ∷ []) (scope_of catalog (drop (i + 1) from))
    ∙ ap (λ (l : List FromItem). before ++ scope_of catalog l) (sym (drop_read from i x h e))
    ∙ whole

pub scope_longer : (before now : List Source) (s : Source) (i : ℕ) → now ≡ before ++ s ∷ [] → length before ≡ i → length now ≡ i + 1
scope_longer before now s i was e = omega (arith, ap length was, length-append before (s ∷ []), e)

front : (xs ys : List Source) → take (length xs) (xs ++ ys) ≡ xs
front [] ys = refl
front (x ∷ xs) ys = ap (λ (l : List Source). x ∷ l) (front xs ys)

-- its own item and those before it
pub scope_there : (now rest whole : List Source) (n : ℕ) → length now ≡ n → now ++ rest ≡ whole → take n whole ≡ now
scope_there now rest whole n long e = rw (sym long, sym e) (front now rest)
