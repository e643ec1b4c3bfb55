-- The event at a place of a list, and the one directly before it.
use Rattle.std.proofs.Common.{◌≡◌, ◌∙◌, ℕ, zero, suc, ◌+◌, ◌-◌, ◌≤◌, Bool, true, List, [], ◌∷◌, ◌++◌, Some, length, slice_index_or, ap, refl, sym, arith}
use Rattle.std.specs.Prelude.{◌==◌}
use Rattle.tl_journal.specs.declared.event.Event.{Event}
use Rattle.tl_journal.specs.Journal.{is_post}
use Rattle.tl_journal.specs.Schedule.{is_behind, latest}

event_at : (past : List Event) (e : Event) (rest : List Event) (k : ℕ) (d : Event) → k ≡ length past → slice_index_or (past ++ e ∷ rest) k d ≡ e
event_at [] e rest zero d h = refl
event_at [] e rest (suc k) d h = absurd (omega arith)
event_at (x ∷ past) e rest zero d h = absurd (omega arith)
event_at (x ∷ past) e rest (suc k) d h = event_at past e rest k d (omega arith)

latest_at : (past : List Event) (e : Event) (rest : List Event) (k : ℕ) (d : Event) → length past ≡ k + 1 → latest past ≡ Some (slice_index_or (past ++ e ∷ rest) k d)
latest_at [] e rest k d h = absurd (omega arith)
latest_at (x ∷ []) e rest zero d h = refl
latest_at (x ∷ []) e rest (suc k) d h = absurd (omega arith)
latest_at (x ∷ y ∷ past) e rest zero d h = absurd (omega arith)
latest_at (x ∷ y ∷ past) e rest (suc k) d h = latest_at (y ∷ past) e rest k d (omega arith)

-- a death notice is behind an event of its node, where the one before it is the node's
pub behind_is : (past : List Event) (e : Event) (rest events : List Event) (k : ℕ) (noted before own : Event) (r : Bool) → events ≡ past ++ e ∷ rest → k ≡ length past
    → 1 ≤ k → noted ≡ slice_index_or events k noted → is_post noted.request ≡ true
    → r ≡ ((slice_index_or events (k - 1) before).node == (slice_index_or events k own).node) → r ≡ is_behind past e
behind_is past e rest events k noted before own r same count low is post result =
    let long : length past ≡ (k - 1) + 1 = omega arith in
    let noted_is : noted ≡ e = is ∙ ap (λ (es : List Event). slice_index_or es k noted) same ∙ event_at past e rest k noted count in
    let posted : is_post e.request ≡ true = ap (λ (x : Event). is_post x.request) (sym noted_is) ∙ post in
    let behind : is_behind past e ≡ ((slice_index_or (past ++ e ∷ rest) (k - 1) before).node == e.node) =
    rw (posted, latest_at past e rest (k - 1) before long) refl in
    result
    ∙ ap (λ (es : List Event). (slice_index_or es (k - 1) before).node == (slice_index_or es k own).node) same
    ∙ ap (λ (x : Event). (slice_index_or (past ++ e ∷ rest) (k - 1) before).node == x.node) (event_at past e rest k own count)
    ∙ sym behind
