-- Journals whose requests are told whole stand in the order of their schedule.
use Rattle.std.proofs.Common.{◌≡◌, ◌⊎◌, inl, inr, Bool, true, false, List, [], ◌∷◌, ◌++◌, Option, Some, None, length, nat_le, refl, sym, ap, ◌∙◌}
use Rattle.std.specs.Prelude.{◌&&◌, ◌||◌, if◌then◌else◌}
use Rattle.tl_base.specs.Along.{Along, Along-append}
use Rattle.tl_base.specs.declared.place.Settings.{Settings}
use Rattle.tl_isolation.specs.declared.script.Script.{Script}
use Rattle.tl_journal.specs.declared.event.Event.{Event}
use Rattle.tl_journal.specs.Journal.{is_post}
use Rattle.tl_journal.specs.Schedule.{InTurn, clock_after, is_due, latest, owes_notice, owing, requests_of, turn_at, was_cut}

pub latest_more : (past : List Event) (e : Event) → latest (past ++ e ∷ []) ≡ Some e
latest_more [] e = refl
latest_more (x ∷ []) e = refl
latest_more (x ∷ y ∷ past) e = latest_more (y ∷ past) e

pub along_one : {A : Type 0} (P : List A → A → Type 0) (past : List A) (x : A) → Along P [] past → P past x → Along P [] (past ++ x ∷ [])
along_one P past x h g = Along-append P [] past (x ∷ []) h (g, tt)

pub along_first : {A : Type 0} (P Q : List A → A → Type 0) → (past xs : List A) → Along (λ (past : List A) (x : A). P past x × Q past x) past xs → Along P past xs
along_first P Q past [] h = tt
along_first P Q past (x ∷ xs) h = (h.0.0, along_first P Q (past ++ x ∷ []) xs h.1)

pub along_second : {A : Type 0} (P Q : List A → A → Type 0) → (past xs : List A) → Along (λ (past : List A) (x : A). P past x × Q past x) past xs → Along Q past xs
along_second P Q past [] h = tt
along_second P Q past (x ∷ xs) h = (h.0.1, along_second P Q (past ++ x ∷ []) xs h.1)

nothing_owed : (asked due cut used more : Bool) → due ≡ false → cut ≡ false → used ≡ false → (asked && (due || (cut || (used && more)))) ≡ false
nothing_owed false due cut used more d c u = refl
nothing_owed true true cut used more d c u = absurd cc
nothing_owed true false true used more d c u = absurd cc
nothing_owed true false false true more d c u = absurd cc
nothing_owed true false false false more d c u = refl

module _ (script : Script) (settings : Settings) where
  -- at this request the node wanted no memory
  abbrev pub IsWhole : List Event → Event → Type 0
  IsWhole past e = is_post e.request ≡ false → was_cut script settings (past ++ e ∷ []) e.node ≡ false

  -- the count and the budget of the node before aren't reached
  abbrev pub MayGoOn : List Event → Option Event → Type 0
  MayGoOn past None = Unit {0}
  MayGoOn past (Some before) =
      (is_post before.request ≡ false) × (is_due script past before.node ≡ false) × (nat_le settings.budget (length (requests_of before.node past)) ≡ false)

  -- it is the node's turn, and nothing is owed, or the order is seen
  abbrev pub IsNext : List Event → Event → Type 0
  IsNext past e = InTurn script settings past e ⊎ (MayGoOn past (latest past) × (turn_at script past (clock_after script past) ≡ Some e.node))

  abbrev WasWhole : List Event → Type 0
  WasWhole past = (before : Event) → latest past ≡ Some before → is_post before.request ≡ false → was_cut script settings past before.node ≡ false

  none_owing : (past : List Event) → WasWhole past → MayGoOn past (latest past) → owing script settings past ≡ None
  none_owing past whole h = by (latest past) refl h
    where
      by : (o : Option Event) → latest past ≡ o → MayGoOn past o → owing script settings past ≡ None
      by None e h = rw e refl
      by (Some before) e h =
          let none : owes_notice script settings past before.node ≡ false = nothing_owed _ _ _ _ _ h.1 (whole before e h.0) h.2 in
          rw e (ap (λ (b : Bool). if b then Some before.node else None) none)

  next_so : (past : List Event) (e : Event) → WasWhole past → IsNext past e → InTurn script settings past e
  next_so past e whole (inl h) = h
  next_so past e whole (inr h) = rw (none_owing past whole h.0) (inr h.1)

  some_same : (a b : Event) → Some a ≡ Some b → a ≡ b
  some_same a b e = cc

  whole_then : (past : List Event) (e : Event) → IsWhole past e → WasWhole (past ++ e ∷ [])
  whole_then past e h before is request =
      let same : e ≡ before = some_same e before (sym (latest_more past e) ∙ is) in
      ap (λ (x : Event). was_cut script settings (past ++ e ∷ []) x.node) (sym same) ∙ h (ap (λ (x : Event). is_post x.request) same ∙ request)

  in_turn_from : (past events : List Event) → WasWhole past → Along IsWhole past events → Along IsNext past events → Along (InTurn script settings) past events
  in_turn_from past [] whole h g = tt
  in_turn_from past (e ∷ es) whole h g = (next_so past e whole g.0, in_turn_from (past ++ e ∷ []) es (whole_then past e h.0) h.1 g.1)

  none_some : (x : Event) → ◌≡◌ {A = Option Event} None (Some x) → ⊥
  none_some x e = cc

  pub in_turn_whole : (events : List Event) → Along IsWhole [] events → Along IsNext [] events → Along (InTurn script settings) [] events
  in_turn_whole events h g = in_turn_from [] events (λ before is. absurd (none_some before is)) h g
