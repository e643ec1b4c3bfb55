-- The order of the entries of an index.
use Rattle.std.proofs.Common.{◌≡◌, ℕ, List, [], ◌∷◌, ◌++◌, length, refl, sym, ap, ◌∙◌, arith}
use Rattle.std.proofs.lemmas.List.{length-map}
use Rattle.std.specs.Cmp.Lexicographic.{slice_cmp}
use Rattle.std.specs.Ordering.{ordering_then, nat_cmp}
use Rattle.tl_values.specs.declared.value.Value.{Value}
use Rattle.tl_values.specs.Key.{AreValues}
use Rattle.tl_values.specs.Value.{row_cmp, value_at, value_cmp, values_at}
use Rattle.tl_values.proofs.Digits.{then_assoc}
use Rattle.tl_values.proofs.KeyOrder.{keys_in_order}
use Rattle.tl_schema.specs.declared.catalog.Index.{Index}
use Rattle.tl_schema.specs.declared.catalog.Table.{Table}
use Rattle.tl_schema.specs.Record.{entry_key, entry_values, key_values}

-- lists of one length decide, and else what follows
parts_in_order : (xs ys us vs : List Value) → length xs ≡ length ys → row_cmp (xs ++ us) (ys ++ vs) ≡ ordering_then (row_cmp xs ys) (row_cmp us vs)
parts_in_order [] [] us vs e = refl
parts_in_order [] (y ∷ ys) us vs e = absurd (omega arith)
parts_in_order (x ∷ xs) [] us vs e = absurd (omega arith)
parts_in_order (x ∷ xs) (y ∷ ys) us vs e =
    ap (ordering_then (value_cmp x y)) (parts_in_order xs ys us vs (omega arith))
    ∙ sym (then_assoc (value_cmp x y) (row_cmp xs ys) (row_cmp us vs))

pub in_order : (table : Table) (index : Index) (r s : List Value) → AreValues (entry_values table index r) → AreValues (entry_values table index s)
    → slice_cmp nat_cmp (entry_key table index r) (entry_key table index s) ≡ ordering_then (row_cmp (values_at index.columns r) (values_at index.columns s)) (row_cmp (key_values table r) (key_values table s))
in_order table index r s f g =
    let e : length (values_at index.columns r) ≡ length (values_at index.columns s) = length-map index.columns (value_at r) ∙ sym (length-map index.columns (value_at s)) in
    keys_in_order (entry_values table index r) (entry_values table index s) f g
    ∙ parts_in_order (values_at index.columns r) (values_at index.columns s) (key_values table r) (key_values table s) e
