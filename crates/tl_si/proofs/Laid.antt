-- The row of a record once writes are laid over tables.
use Rattle.std.proofs.Common.{◌≡◌, ℕ, Bool, true, false, cond, List, [], ◌∷◌, Option, Some, None, Ordering, Less, Equal, Greater, refl, ap, ◌∙◌}
use Rattle.std.specs.Option.{option_or}
use Rattle.std.specs.FinMap as finmap
use Rattle.std.specs.FinMap.{nat_cmp-IsAntisymmetric, slice_cmp-IsAntisymmetric}
use Rattle.std.specs.Cmp.Lexicographic.{nat_list_cmp_total}
use Rattle.std.specs.Ordering.{is_eq, ordering_reverse}
use Rattle.tl_lemmas.proofs.Orders.{equal_turned}
use Rattle.tl_values.specs.declared.value.Value.{Value}
use Rattle.tl_write.specs.declared.write.Write.{Write}
use Rattle.tl_write.specs.Own.{key_cmp}
use Rattle.tl_write.specs.Tables.{Tables, laid_over, laid_write}
use Rattle.tl_si.specs.Places.{same_key}
use Rattle.tl_write.proofs.Keys.{key_eq, key_turned}

abbrev pub Row : Type 0
Row = List Value

abbrev pub Key : Type 0
Key = List ℕ

pub equal_keys : finmap.IsAntisymmetric key_cmp
equal_keys = slice_cmp-IsAntisymmetric nat_cmp-IsAntisymmetric

-- the row, or its deletion, that these writes leave at the key, if one of them is of it
abbrev pub written : Key → List Write → Option (Option Row)
written k [] = None
written k (w ∷ ws) = option_or (written k ws) (cond (same_key w.key k) (Some w.row) None)

-- a written row lies over the one below it
abbrev pub over : Option (Option Row) → Option Row → Option Row
over None below = below
over (Some row) below = row

laid_one : (tables : Tables) (k : Key) (row : Option Row) (q : Key)
    → finmap.get (laid_write tables (record { key = k; row = row })) q ≡ cond (same_key k q) row (finmap.get tables q)
laid_one tables k None q =
    finmap.get-remove nat_list_cmp_total tables k q ∙ ap (λ (b : Bool). cond b None (finmap.get tables q)) (key_turned q k)
laid_one tables k (Some row) q =
    finmap.get-insert nat_list_cmp_total tables k row q ∙ ap (λ (b : Bool). cond b (Some row) (finmap.get tables q)) (key_turned q k)

over_last : (b : Bool) (row below : Option Row) (later : Option (Option Row))
    → over later (cond b row below) ≡ over (option_or later (cond b (Some row) None)) below
over_last true row below None = refl
over_last false row below None = refl
over_last b row below (Some x) = refl

pub get_laid : (tables : Tables) (ws : List Write) (k : Key) → finmap.get (laid_over tables ws) k ≡ over (written k ws) (finmap.get tables k)
get_laid tables [] k = refl
get_laid tables (w ∷ ws) k =
    get_laid (laid_write tables w) ws k
    ∙ ap (λ (below : Option Row). over (written k ws) below) (laid_one tables w.key w.row k)
    ∙ over_last (same_key w.key k) w.row (finmap.get tables k) (written k ws)
