-- What is told of what is said.
use Rattle.std.proofs.Common.{◌≡◌, ℕ, ◌<◌, Bool, true, false, List, [], ◌∷◌, length, drop, Option, Some, refl, sym, ap, ◌∙◌, arith}
use Rattle.std.specs.Prelude.{not, slice_get, zero, suc}
use Rattle.std.proofs.lemmas.Bool.{not-true}
use Rattle.tl_lemmas.proofs.Tests.{never_both}
use Rattle.tl_manager.specs.declared.mark.Mark.{Mark}
use Rattle.tl_manager.specs.declared.mark.Mark.TheVariants as mark
use Rattle.tl_isolation.specs.declared.bound.Bound.{Bound}
use Rattle.tl_isolation.specs.declared.entry.Entry.TheVariants as entry
use Rattle.tl_isolation.specs.declared.entry.Said.{Said}
use Rattle.tl_protocol.specs.Move.{is_empty}
use Rattle.tl_node.specs.After.{said_so, statement_in}
use Rattle.tl_world.specs.Told.{is_answered}

-- the statement at a place is the first of those from there on
pub statement_at : (xs : List Bound) (n : ℕ) (b : Bound) → ◌≡◌ {A = Option Bound} (slice_get xs n) (Some b) → statement_in (drop n xs) ≡ b
statement_at [] n b e = cc
statement_at (x ∷ xs) zero b e = cc
statement_at (x ∷ xs) (suc n) b e = statement_at xs n b e

pub said_whole : (number : ℕ) (b : Bound) (m : Mark) (said : Said) → is_answered m ≡ false → said_so number b m said ≡ entry.Said number b said
said_whole number b mark.Answered said e = cc
said_whole number b m said e = refl

pub said_late : (number : ℕ) (b : Bound) (m : Mark) (said : Said) → is_answered m ≡ true
    → said_so number b m said ≡ entry.Answered number said.statement said.answer
said_late number b mark.Answered said e = refl
said_late number b m said e = cc

-- where something is left
pub left_within : (xs : List Bound) (n : ℕ) → is_empty (drop n xs) ≡ false → n < length xs
left_within [] zero e = absurd (never_both true refl e)
left_within [] (suc n) e = absurd (never_both true refl e)
left_within (x ∷ xs) zero e = omega arith
left_within (x ∷ xs) (suc n) e = let h : n < length xs = left_within xs n e in omega arith

pub more_within : (xs todo : List Bound) (n : ℕ) → todo ≡ drop n xs → not (is_empty todo) ≡ true → n < length xs
more_within xs todo n e h = left_within xs n (ap is_empty (sym e) ∙ not-true (is_empty todo) h)
