-- Numbers of transactions that are taken over one by one.
use Rattle.std.proofs.Common.{◌≡◌, ℕ, suc, ◌+◌, ◌<◌, ◌≤◌, Bool, true, false, List, [], ◌∷◌, ◌++◌, length, get_or, drop, sym, ap, ◌∙◌, append_assoc, drop-cons, arith}
use Rattle.std.specs.Prelude.{nat_lt, ◌||◌}
use Rattle.std.specs.List.{list_any}
use Rattle.std.proofs.lemmas.Bool.Decides.{nat_tests}

within : (top n : ℕ) → n ≤ top → nat_lt top n ≡ false
within top n le = grind (arith, nat_tests)

passes : (a b c : Bool) → a ≡ false → (a || b) ≡ c → b ≡ c
passes true b c e h = absurd cc
passes false b c e h = h

pub one_more : (top : ℕ) (ids now tids : List ℕ) (j id : ℕ) → j < length tids → now ≡ ids ++ id ∷ [] → id ≡ get_or tids j 0 → id ≤ top
    → (ids ++ drop j tids ≡ tids) × (list_any (nat_lt top) (drop j tids) ≡ list_any (nat_lt top) tids)
    → (now ++ drop (j + 1) tids ≡ tids) × (list_any (nat_lt top) (drop (j + 1) tids) ≡ list_any (nat_lt top) tids)
one_more top ids now tids j id lt pushed is le so =
    let one : suc j ≡ j + 1 = omega arith in
    let split : drop j tids ≡ id ∷ drop (j + 1) tids =
    drop-cons tids j 0 lt ∙ ap (λ (x : ℕ). x ∷ drop (suc j) tids) (sym is) ∙ ap (λ (m : ℕ). id ∷ drop m tids) one in (
      rw pushed (append_assoc ids (id ∷ []) (drop (j + 1) tids) ∙ ap (λ (r : List ℕ). ids ++ r) (sym split) ∙ so.0),
      passes (nat_lt top id) (list_any (nat_lt top) (drop (j + 1) tids)) (list_any (nat_lt top) tids) (within top id le) (sym (ap (list_any (nat_lt top)) split) ∙ so.1),
    )
