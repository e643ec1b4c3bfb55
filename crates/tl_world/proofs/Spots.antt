-- Where a slot stands among the others.
use Rattle.std.proofs.Common.{◌≡◌, ◌⊎◌, ℕ, ◌+◌, ◌<◌, Bool, true, false, List, [], ◌∷◌, length, slice_index_or, slice_set, Option, Some, None, refl, sym, ap, ◌∙◌, inl, inr, arith}
use Rattle.std.specs.Prelude.{◌==◌, suc}
use Rattle.std.proofs.lemmas.Bool.{cases_Bool, eqb-true}
use Rattle.std.proofs.lemmas.Option.{same_Some}
use Rattle.tl_world.specs.Stands.{SlotValue, slot_of, with_slot}
use Rattle.tl_world.specs.Slot.{spot}

-- the slot of this number stands here, behind so many others
pub record StandsThere (slots : List SlotValue) (number k at : ℕ) : Type 0 where
  pub behind : ℕ
  pub at_is : at ≡ k + behind
  pub within : behind < length slots
  pub slot_is : (d : SlotValue) → slot_of slots number ≡ Some (slice_index_or slots behind d)
  pub number_is : (d : SlotValue) → (slice_index_or slots behind d).number ≡ number
  pub put : (x : SlotValue) → x.number ≡ number → slice_set slots behind x ≡ with_slot x slots

none_some : (n : ℕ) → ◌≡◌ {A = Option ℕ} None (Some n) → ⊥
none_some n e = cc

some_none : (n : ℕ) → ◌≡◌ {A = Option ℕ} (Some n) None → ⊥
some_none n e = cc

plus_zero : (k at : ℕ) → k ≡ at → at ≡ k + 0
plus_zero k at e = omega arith

plus_suc : (k at i : ℕ) → at ≡ k + 1 + i → at ≡ k + suc i
plus_suc k at i e = omega arith

above : (i n : ℕ) → i < n → suc i < suc n
above i n h = omega arith

some_first : (n : ℕ) → 0 < suc n
some_first n = omega arith

-- a slot of another number is passed over
module _ (s : SlotValue) (slots : List SlotValue) (number : ℕ) (f : (s.number == number) ≡ false) where
  spot_past : (k : ℕ) → spot k (s ∷ slots) number ≡ spot (k + 1) slots number
  spot_past k = rw f refl

  slot_past : slot_of (s ∷ slots) number ≡ slot_of slots number
  slot_past = rw f refl

  with_past : (x : SlotValue) → x.number ≡ number → with_slot x (s ∷ slots) ≡ s ∷ with_slot x slots
  with_past x own = let g : (s.number == x.number) ≡ false = ap (λ i. s.number == i) own ∙ f in rw g refl

pub spot_is : (slots : List SlotValue) (number k at : ℕ) → spot k slots number ≡ Some at → StandsThere slots number k at
spot_is [] number k at e = absurd (none_some at e)
spot_is (s ∷ slots) number k at e = by (cases_Bool (s.number == number)) (spot_is slots number (k + 1) at)
  where
    by : (s.number == number ≡ true) ⊎ (s.number == number ≡ false) → (spot (k + 1) slots number ≡ Some at → StandsThere slots number (k + 1) at)
        → StandsThere (s ∷ slots) number k at
    by (inl f) more = record {
      behind = 0;
      at_is = plus_zero k at (same_Some k at (sym (rw f refl) ∙ e));
      within = some_first (length slots);
      slot_is = λ d. rw f refl;
      number_is = λ d. eqb-true s.number number f;
      put = λ x own. let g : (s.number == x.number) ≡ true = ap (λ i. s.number == i) own ∙ f in rw g refl;
    }
    by (inr f) more =
        let m = more (sym (spot_past s slots number f k) ∙ e) in
        record {
          behind = suc m.behind;
          at_is = plus_suc k at m.behind m.at_is;
          within = above m.behind (length slots) m.within;
          slot_is = λ d. slot_past s slots number f ∙ m.slot_is d;
          number_is = λ d. m.number_is d;
          put = λ x own. ap (λ xs. s ∷ xs) (m.put x own) ∙ sym (with_past s slots number f x own);
        }

pub spot_none : (slots : List SlotValue) (number k : ℕ) → spot k slots number ≡ None → slot_of slots number ≡ None
spot_none [] number k e = refl
spot_none (s ∷ slots) number k e = by (cases_Bool (s.number == number)) (spot_none slots number (k + 1))
  where
    by : (s.number == number ≡ true) ⊎ (s.number == number ≡ false) → (spot (k + 1) slots number ≡ None → slot_of slots number ≡ None) → slot_of (s ∷ slots) number ≡ None
    by (inl f) more = absurd (some_none k (sym (rw f refl) ∙ e))
    by (inr f) more = slot_past s slots number f ∙ more (sym (spot_past s slots number f k) ∙ e)

-- the same of other slots that are these
pub spot_there : (slots seen : List SlotValue) → seen ≡ slots → (number at : ℕ) → ◌≡◌ {A = Option ℕ} (Some at) (spot 0 seen number) → spot 0 slots number ≡ Some at
spot_there slots seen same number at e = ap (λ (xs : List SlotValue). spot 0 xs number) (sym same) ∙ sym e

pub spot_gone : (slots seen : List SlotValue) → seen ≡ slots → (number : ℕ) → ◌≡◌ {A = Option ℕ} None (spot 0 seen number) → spot 0 slots number ≡ None
spot_gone slots seen same number e = ap (λ (xs : List SlotValue). spot 0 xs number) (sym same) ∙ sym e
