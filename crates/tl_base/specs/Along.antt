-- What holds of each thing of a list, given those before it.
use Rattle.std.specs.Prelude.{List, [], ◌∷◌, ◌++◌}
use Rattle.std.proofs.Common.{append_assoc, append-nil, subst, sym}

-- P holds of each, after those of the past and those before it in the list
abbrev pub Along : {A : Type 0} → (List A → A → Type 0) → List A → List A → Type 0
Along P past [] = Unit {0}
Along P past (x ∷ xs) = P past x × Along P (past ++ x ∷ []) xs

-- Q holds of each front of the list, the empty and the whole one among them
abbrev pub EachPrefix : {A : Type 0} → (List A → Type 0) → List A → Type 0
EachPrefix Q xs = Q [] × Along (λ past x. Q (past ++ x ∷ [])) [] xs

-- two lists, one after the other
pub Along-append : {A : Type 0} (P : List A → A → Type 0) (past xs ys : List A) → Along P past xs → Along P (past ++ xs) ys → Along P past (xs ++ ys)
Along-append P past [] ys h g = subst (λ (p : List _). Along P p ys) (append-nil past) g
Along-append P past (x ∷ xs) ys h g =
    (h.0, Along-append P (past ++ x ∷ []) xs ys h.1 (subst (λ (p : List _). Along P p ys) (sym (append_assoc past (x ∷ []) xs)) g))
