-- The order of record keys, and which keys a range of a table has.
use Rattle.std.proofs.Common.{◌≡◌, ℕ, Bool, true, false, ◌&&◌, [], ◌∷◌, ◌++◌, Ordering, Less, Equal, Greater, refl, sym, ap, subst, ◌∙◌}
use Rattle.std.specs.Cmp.{nat_cmp_total, tied_itself}
use Rattle.std.specs.Cmp.Lexicographic.{nat_list_cmp_total}
use Rattle.std.specs.FinMap.{nat_cmp-IsAntisymmetric, slice_cmp-IsAntisymmetric}
use Rattle.std.specs.Ordering.{is_eq, is_lt, nat_cmp, ordering_reverse, ordering_then}
use Rattle.std.proofs.lemmas.Bool.{eq-eqb, false_from_ne_true}
use Rattle.tl_lemmas.proofs.Orders.{equal_is, less_is}
use Rattle.tl_plan.specs.Access.{is_below}
use Rattle.tl_write.specs.Own.{key_cmp}
use Rattle.tl_write.specs.Tables.{is_in}
use Rattle.tl_protocol.specs.Store.{Key, same_key}
use Rattle.tl_journal.specs.Reads.{table_key}
use Rattle.tl_write.proofs.Keys.{key_eq, key_itself}

pub below_itself : (k : Key) → is_below k k ≡ false
below_itself k = ap is_lt (tied_itself nat_list_cmp_total k)

-- a at most b, and b at most c
pub at_least : (a b c : Key) → is_below b a ≡ false → is_below c b ≡ false → is_below c a ≡ false
at_least a b c p q = false_from_ne_true (is_below c a) (λ e. one (key_cmp b a) refl (less_is (key_cmp c a) e))
  where
    one : (o : Ordering) → key_cmp b a ≡ o → key_cmp c a ≡ Less → ⊥
    one Less i e = let j : is_below b a ≡ true = ap is_lt i in absurd cc
    one Equal i e =
        let same : b ≡ a = key_eq b a (ap is_eq i) in
        let j : is_below c b ≡ true = ap is_lt (ap (key_cmp c) same ∙ e) in
        absurd cc
    one Greater i e =
        let back : key_cmp a b ≡ Less = nat_list_cmp_total.antisymm a b ∙ ap ordering_reverse i in
        let j : is_below c b ≡ true = ap is_lt (nat_list_cmp_total.trans c a b e back) in
        absurd cc

nat_same : (n : ℕ) → nat_cmp n n ≡ Equal
nat_same n = tied_itself nat_cmp_total n

-- a key with a byte more is above it
pub behind_key : (k : Key) → is_below (k ++ 0 ∷ []) k ≡ false
behind_key [] = refl
behind_key (byte ∷ k) = ap (λ (o : Ordering). is_lt (ordering_then o (key_cmp (k ++ 0 ∷ []) k))) (nat_same byte) ∙ behind_key k

-- in a table the bytes of the primary key decide
pub compared_in : (number : ℕ) (a b : Key) → key_cmp (table_key number a) (table_key number b) ≡ key_cmp a b
compared_in number a b = ap (λ (o : Ordering). ordering_then o (key_cmp a b)) (nat_same number)

pub in_table : (number : ℕ) (key : Key) → is_in number (table_key number key) ≡ true
in_table number key = ap (λ (b : Bool). b && true) (eq-eqb number number refl)

-- what lies between two keys of a table is of the table
pub between : (number : ℕ) (low high k : Key) → is_below k (table_key number low) ≡ false → is_below k (table_key number high) ≡ true → is_in number k ≡ true
between number low high [] p q = absurd cc
between number low high (a ∷ k) p q = one (nat_cmp a 4) refl p q
  where
    two : (x : ℕ) (k : Key) (o : Ordering) → nat_cmp x number ≡ o → is_lt (ordering_then o (key_cmp k low)) ≡ false
        → is_lt (ordering_then o (key_cmp k high)) ≡ true → is_in number (4 ∷ x ∷ k) ≡ true
    two x k Less e p q = absurd cc
    two x k Equal e p q = subst (λ (y : ℕ). is_in number (4 ∷ y ∷ k) ≡ true) (sym (nat_cmp-IsAntisymmetric x number e)) (in_table number k)
    two x k Greater e p q = absurd cc

    first : (k : Key) → is_lt (key_cmp k (number ∷ low)) ≡ false → is_lt (key_cmp k (number ∷ high)) ≡ true → is_in number (4 ∷ k) ≡ true
    first [] p q = absurd cc
    first (x ∷ k) p q = two x k (nat_cmp x number) refl p q

    one : (o : Ordering) → nat_cmp a 4 ≡ o → is_lt (ordering_then o (key_cmp k (number ∷ low))) ≡ false
        → is_lt (ordering_then o (key_cmp k (number ∷ high))) ≡ true → is_in number (a ∷ k) ≡ true
    one Less e p q = absurd cc
    one Equal e p q = subst (λ (x : ℕ). is_in number (x ∷ k) ≡ true) (sym (nat_cmp-IsAntisymmetric a 4 e)) (first k p q)
    one Greater e p q = absurd cc
