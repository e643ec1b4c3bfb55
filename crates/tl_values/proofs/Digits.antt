-- Numbers in bytes, the highest first, stand in the order of the numbers.
use Rattle.std.proofs.Common.{◌≡◌, ℕ, zero, suc, ◌+◌, ◌*◌, ◌^◌, ◌/◌, ◌%◌, ◌<◌, ◌≤◌, inl, inr, Ordering, Less, Equal, Greater, List, ◌++◌, refl, sym, ap, ◌∙◌, arith}
use Rattle.std.proofs.Math.Nat.{add-mul, div-one, mod-lt, mod-eq_of_lt, mul-le-mul_right, one-le-pow, pow-succ'}
use Rattle.std.proofs.lemmas.Bool.{cases_lt}
use Rattle.std.proofs.lemmas.Bool.Decides.{nat_tests}
use Rattle.std.specs.Cmp.Lexicographic.{slice_cmp}
use Rattle.std.specs.Int.{byte_at, bytes_high_first}
use Rattle.std.specs.Ordering.{ordering_then, nat_cmp}
use lib.Arith.{mod-mul}

pub then_assoc : (a b c : Ordering) → ordering_then (ordering_then a b) c ≡ ordering_then a (ordering_then b c)
then_assoc Less b c = refl
then_assoc Equal b c = refl
then_assoc Greater b c = refl

pub nat_less : (a b : ℕ) → a < b → nat_cmp a b ≡ Less
nat_less a b h = grind (arith, nat_tests)

pub nat_greater : (a b : ℕ) → b < a → nat_cmp a b ≡ Greater
nat_greater a b h = grind (arith, nat_tests)

pub nat_same : (a b : ℕ) → a ≡ b → nat_cmp a b ≡ Equal
nat_same a b h = grind (arith, nat_tests)

by_size : {P : Type 0} (a b : ℕ) → (a < b → P) → (a ≡ b → P) → (b < a → P) → P
by_size a b less same greater =
    elim (cases_lt a b) [
      | inl lt ↦ less lt
      | inr le ↦ elim (cases_lt b a) [ inl gt ↦ greater gt | inr ge ↦ same (omega arith) ]
    ]

-- the higher digit decides
higher : (m p q a b : ℕ) → a < m → p < q → p * m + a < q * m + b
higher m p q a b ha h =
    let step : (p + 1) * m ≤ q * m = mul-le-mul_right m (omega arith) in
    let expand : (p + 1) * m ≡ p * m + 1 * m = add-mul p 1 m in
    omega arith

two_digits : (m p q a b : ℕ) → a < m → b < m → nat_cmp (p * m + a) (q * m + b) ≡ ordering_then (nat_cmp p q) (nat_cmp a b)
two_digits m p q a b ha hb =
    by_size p q
    (λ lt. nat_less _ _ (higher m p q a b ha lt) ∙ ap (λ o. ordering_then o (nat_cmp a b)) (sym (nat_less p q lt)))
    (λ eq. rest eq ∙ ap (λ o. ordering_then o (nat_cmp a b)) (sym (nat_same p q eq)))
    (λ gt. nat_greater _ _ (higher m q p b a hb gt) ∙ ap (λ o. ordering_then o (nat_cmp a b)) (sym (nat_greater p q gt)))
  where
    rest : p ≡ q → nat_cmp (p * m + a) (q * m + b) ≡ nat_cmp a b
    rest eq =
        let same : p * m ≡ q * m = ap (λ x. x * m) eq in
        by_size a b
        (λ lt. nat_less (p * m + a) (q * m + b) (omega arith) ∙ sym (nat_less a b lt))
        (λ e. nat_same (p * m + a) (q * m + b) (omega arith) ∙ sym (nat_same a b e))
        (λ gt. nat_greater (p * m + a) (q * m + b) (omega arith) ∙ sym (nat_greater a b gt))

byte_at-pow : (k x : ℕ) → byte_at k x ≡ x / 256 ^ k % 256
byte_at-pow zero x = ap (λ (y : ℕ). y % 256) (sym (div-one x))
byte_at-pow (suc k) x = refl

above_zero : (k : ℕ) → 0 < 256 ^ k
above_zero k = let h = one-le-pow k 256 (omega arith) in omega arith

split_top : (k x : ℕ) → x % 256 ^ suc k ≡ byte_at k x * 256 ^ k + x % 256 ^ k
split_top k x =
    let split = mod-mul x {m = 256} {c = 256 ^ k} (omega arith) (above_zero k) in
    rw (pow-succ' 256 k, byte_at-pow k x) split

-- the k lowest bytes of two numbers decide as the numbers below 256 ^ k do, and else what follows
low_bytes_first : (k x y : ℕ) (r s : List ℕ) → slice_cmp nat_cmp (bytes_high_first k x ++ r) (bytes_high_first k y ++ s) ≡ ordering_then (nat_cmp (x % 256 ^ k) (y % 256 ^ k)) (slice_cmp nat_cmp r s)
low_bytes_first zero x y r s =
    let e : nat_cmp (x % 256 ^ zero) (y % 256 ^ zero) ≡ Equal = nat_same (x % 1) (y % 1) (omega arith) in
    ap (λ o. ordering_then o (slice_cmp nat_cmp r s)) (sym e)
low_bytes_first (suc k) x y r s =
    let after = low_bytes_first k x y r s in
    let both = two_digits (256 ^ k) (byte_at k x) (byte_at k y) (x % 256 ^ k) (y % 256 ^ k) (mod-lt x (above_zero k)) (mod-lt y (above_zero k)) in
    ap (ordering_then (nat_cmp (byte_at k x) (byte_at k y))) after
    ∙ sym (then_assoc (nat_cmp (byte_at k x) (byte_at k y)) (nat_cmp (x % 256 ^ k) (y % 256 ^ k)) (slice_cmp nat_cmp r s))
    ∙ ap (λ o. ordering_then o (slice_cmp nat_cmp r s)) (sym both)
    ∙ ap (λ n. ordering_then (nat_cmp n (byte_at k y * 256 ^ k + y % 256 ^ k)) (slice_cmp nat_cmp r s)) (sym (split_top k x))
    ∙ ap (λ n. ordering_then (nat_cmp (x % 256 ^ suc k) n) (slice_cmp nat_cmp r s)) (sym (split_top k y))

-- two numbers of k bytes decide, and else what follows
pub numbers_first : (k x y : ℕ) (r s : List ℕ) → x < 256 ^ k → y < 256 ^ k → slice_cmp nat_cmp (bytes_high_first k x ++ r) (bytes_high_first k y ++ s) ≡ ordering_then (nat_cmp x y) (slice_cmp nat_cmp r s)
numbers_first k x y r s hx hy =
    low_bytes_first k x y r s
    ∙ ap (λ n. ordering_then (nat_cmp n (y % 256 ^ k)) (slice_cmp nat_cmp r s)) (mod-eq_of_lt hx)
    ∙ ap (λ n. ordering_then (nat_cmp x n) (slice_cmp nat_cmp r s)) (mod-eq_of_lt hy)
