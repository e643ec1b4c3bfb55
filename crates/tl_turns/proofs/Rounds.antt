-- Behind the items of the schedule the nodes take turns, in the order of their numbers.
use Rattle.std.proofs.Common.{◌≡◌, ◌∙◌, ℕ, ◌<◌, ◌≤◌, Bool, true, false, ◌++◌, Option, Some, None, filter, find, nat_le, nat_lt, ap, refl, sym, arith}
use Rattle.std.specs.Prelude.{not}
use Rattle.std.specs.Option.{option_or}
use Rattle.std.proofs.lemmas.Bool.Decides.{nat_tests}
use Rattle.std.proofs.lemmas.List.Folds.{find-append}
use Rattle.std.proofs.lemmas.Bool.{le-leb, leb-true, not-false}
use Rattle.tl_journal.specs.Schedule.{node_numbers}
use Rattle.tl_turns.specs.Clock.{IsFirst}
use Rattle.tl_turns.proofs.Rows.{AreFrom, found_from, missed_from, none_from}

numbers : AreFrom 1 node_numbers
numbers = (refl, (refl, (refl, (refl, (refl, (refl, (refl, (refl, (refl, (refl, (refl, (refl, (refl, (refl, (refl, (refl, tt))))))))))))))))

above_is : (a b : ℕ) → nat_lt a b ≡ true → a < b
above_is a b h = grind (arith, nat_tests)

is_above : (a b : ℕ) → a < b → nat_lt a b ≡ true
is_above a b h = grind (arith, nat_tests)

is_most_unless : (a b : ℕ) → nat_lt a b ≡ false → nat_le b a ≡ true
is_most_unless a b h = grind (arith, nat_tests)

first_none : {A : Type 0} (o r : Option A) → option_or o r ≡ None → o ≡ None
first_none None r e = refl
first_none (Some x) r e = absurd cc

-- the schedule's next one, where these are over
abbrev pub next_by : (ℕ → Bool) → ℕ → Option ℕ
next_by over last = find (λ n. not (over n)) (filter (λ n. nat_lt last n) node_numbers ++ filter (λ n. nat_le n last) node_numbers)

module _ (over : ℕ → Bool) (last : ℕ) where
  abbrev runs : ℕ → Bool
  runs n = not (over n)

  -- the first of those above the last one, and of those up to it
  abbrev upper : Option ℕ
  upper = find (λ n. not (over n)) (filter (λ n. nat_lt last n) node_numbers)

  abbrev lower : Option ℕ
  lower = find (λ n. not (over n)) (filter (λ n. nat_le n last) node_numbers)

  both : next_by over last ≡ option_or upper lower
  both = find-append (λ n. not (over n)) (filter (λ n. nat_lt last n) node_numbers) (filter (λ n. nat_le n last) node_numbers)

  -- one above the last one is the next
  pub next_above : (n : ℕ) → IsFirst over last 16 (Some n) → next_by over last ≡ Some n
  next_above n h =
      let low : last < n = h.0 in
      let high : n ≤ 16 = h.1 in
      both
      ∙ ap (λ (o : Option ℕ). option_or o lower)
      (found_from runs (λ n. nat_lt last n) 1 node_numbers numbers n (omega arith) (omega arith) (is_above last n low) (ap not h.3)
      (λ k from to passes. ap not (h.4 k (above_is last k passes) to)))

  none_above : IsFirst over last 16 None → upper ≡ None
  none_above h =
      none_from runs (λ n. nat_lt last n) 1 node_numbers numbers
      (λ k from to passes. ap not (h k (above_is last k passes) (omega arith) (omega arith)))

  lowest : (r : Option ℕ) → IsFirst over 0 last r → lower ≡ r
  lowest None h =
      none_from runs (λ n. nat_le n last) 1 node_numbers numbers
      (λ k from to passes. ap not (h k (omega arith) (leb-true k last passes) (omega arith)))
  lowest (Some n) h =
      let low : 0 < n = h.0 in
      let high : n ≤ 16 = h.2 in
      found_from runs (λ n. nat_le n last) 1 node_numbers numbers n (omega arith) (omega arith) (le-leb n last h.1) (ap not h.3)
      (λ k from to passes. ap not (h.4 k (omega arith) to))

  -- else it is the lowest
  pub next_lowest : (r : Option ℕ) → IsFirst over last 16 None → IsFirst over 0 last r → next_by over last ≡ r
  next_lowest r none h =
      both
      ∙ ap (λ (o : Option ℕ). option_or o lower) (none_above none)
      ∙ lowest r h

  -- where there is no next one, each is over
  pub all_over : next_by over last ≡ None → (n : ℕ) → 1 ≤ n → n ≤ 16 → over n ≡ true
  all_over none n low high = by (nat_lt last n) refl
    where
      is_none : option_or upper lower ≡ None
      is_none = sym both ∙ none

      no_upper : upper ≡ None
      no_upper = first_none upper lower is_none

      no_lower : lower ≡ None
      no_lower =
          ap (λ (o : Option ℕ). option_or o lower) (sym no_upper) ∙ is_none

      by : (b : Bool) → nat_lt last n ≡ b → over n ≡ true
      by true e =
          not-false (over n)
          (missed_from runs (λ n. nat_lt last n) 1 node_numbers numbers no_upper n low (omega arith) e)
      by false e =
          not-false (over n)
          (missed_from runs (λ n. nat_le n last) 1 node_numbers numbers no_lower n low (omega arith) (is_most_unless last n e))
