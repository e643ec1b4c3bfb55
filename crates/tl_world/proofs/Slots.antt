-- One slot in the place of another.
use Rattle.std.proofs.Common.{◌≡◌, ◌⊎◌, ℕ, Bool, true, false, List, [], ◌∷◌, Option, Some, None, refl, sym, ap, ◌∙◌, inl, inr}
use Rattle.std.specs.Prelude.{◌==◌, if◌then◌else◌}
use Rattle.std.proofs.lemmas.Bool.{cases_Bool, eq-eqb, eqb-true}
use Rattle.tl_world.specs.Stands.{SlotValue, slot_of, with_slot}

none_some : (slot : SlotValue) → ◌≡◌ {A = Option SlotValue} None (Some slot) → ⊥
none_some slot e = cc

-- the slot of its number
pub slot_there : (slots : List SlotValue) (slot old : SlotValue) → slot_of slots slot.number ≡ Some old → slot_of (with_slot slot slots) slot.number ≡ Some slot
slot_there [] slot old e = absurd (none_some old e)
slot_there (s ∷ slots) slot old e = by (cases_Bool (s.number == slot.number)) (slot_there slots slot old)
  where
    by : (s.number == slot.number ≡ true) ⊎ (s.number == slot.number ≡ false)
        → (slot_of slots slot.number ≡ Some old → slot_of (with_slot slot slots) slot.number ≡ Some slot) → slot_of (with_slot slot (s ∷ slots)) slot.number ≡ Some slot
    by (inl f) h = rw f (rw (eq-eqb slot.number slot.number refl) refl)
    by (inr f) h = rw f (rw f (h (sym (rw f refl) ∙ e)))

-- another one
pub slot_elsewhere : (slots : List SlotValue) (slot : SlotValue) (n : ℕ) → (slot.number == n) ≡ false → slot_of (with_slot slot slots) n ≡ slot_of slots n
slot_elsewhere [] slot n e = refl
slot_elsewhere (s ∷ slots) slot n e = by (cases_Bool (s.number == slot.number)) (slot_elsewhere slots slot n e)
  where
    by : (s.number == slot.number ≡ true) ⊎ (s.number == slot.number ≡ false)
        → slot_of (with_slot slot slots) n ≡ slot_of slots n → slot_of (with_slot slot (s ∷ slots)) n ≡ slot_of (s ∷ slots) n
    by (inl f) h = let g : (s.number == n) ≡ false = ap (λ k. k == n) (eqb-true s.number slot.number f) ∙ e in rw f (rw (e, g) refl)
    by (inr f) h = rw f (ap (λ o. if s.number == n then Some s else o) h)
