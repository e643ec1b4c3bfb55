-- One entry more, and how many commits there are then.
use Rattle.std.proofs.Common.{◌≡◌, ℕ, zero, suc, ◌+◌, ◌≤◌, ◌<◌, take, get_or, Bool, true, false, List, [], ◌∷◌, ◌++◌, length, refl, sym, ap, subst, ◌∙◌, arith, None, Some, length-append}
use Rattle.std.specs.Prelude.{Option, IfSome, if◌then◌else◌}
use Rattle.std.proofs.lemmas.Bool.{and_parts}
use Rattle.std.proofs.lemmas.List.{take_more}
use Rattle.std.proofs.lemmas.Option.{slice_get_read}
use Rattle.tl_schema.specs.declared.catalog.Catalog.{Catalog}
use Rattle.tl_schema.specs.declared.catalog.Setup.{Setup}
use Rattle.tl_isolation.specs.declared.entry.Entry.{Entry}
use Rattle.tl_isolation.specs.declared.entry.Entry.TheVariants as entry
use Rattle.tl_isolation.specs.declared.state.Transaction.{Transaction}
use Rattle.tl_isolation.specs.declared.state.SiState.{SiState}
use Rattle.tl_isolation.specs.State.{held_by, held_as, is_lost, opening_state}
use Rattle.tl_isolation.specs.Step.{Allowed, after, with_held, end_with, commit, commit_answer, undo, undo_answer, forget_note, take_statement, try_commit, meet_rival}
use Rattle.tl_isolation.specs.History.{IsHistoryFrom, IsHistory, Step, state_from, state_after}
use Rattle.tl_si.specs.declared.state.State.{State}
use Rattle.tl_si.specs.Faults.{BreaksAt}
use Rattle.tl_si.specs.Shown.{shown}
use Rattle.tl_si.specs.Sound.{IsSound, keep_keys, keeps_key}
use Rattle.tl_si.proofs.Stays.{opens_sound, stays_sound}

one_allowed : (catalog : Catalog) (s : SiState) (es : List Entry) (e : Entry) → IsHistoryFrom catalog s es → Allowed catalog (state_from catalog s es) e
    → IsHistoryFrom catalog s (es ++ e ∷ [])
one_allowed catalog s [] e h a = (a, tt)
one_allowed catalog s (x ∷ es) e h a = (h.0, one_allowed catalog (after catalog s x) es e h.1 a)

one_after : (catalog : Catalog) (s : SiState) (es : List Entry) (e : Entry) → state_from catalog s (es ++ e ∷ []) ≡ after catalog (state_from catalog s es) e
one_after catalog s [] e = refl
one_after catalog s (x ∷ es) e = one_after catalog (after catalog s x) es e

-- a state with the commits of another
abbrev Keeps : SiState → SiState → Type 0
Keeps new old = new.commits ≡ old.commits

noted_keeps : (b : Bool) (node : ℕ) (s : SiState) → Keeps (forget_note node b s) s
noted_keeps true node s = refl
noted_keeps false node s = refl

held_keeps : (o : Option Transaction) (f : Transaction → Transaction) (s : SiState) → Keeps (with_held o f s) s
held_keeps None f s = refl
held_keeps (Some t) f s = refl

lost_keeps : (b : Bool) (x y s : SiState) → Keeps x s → Keeps y s → Keeps (if b then x else y) s
lost_keeps true x y s p q = p
lost_keeps false x y s p q = q

end_keeps : (told : _) (t : Transaction) (s : SiState) → Keeps (end_with told t s) s
end_keeps told t s = lost_keeps (is_lost t.phase) _ _ s refl refl

undo_keeps : (o : Option Transaction) (s : SiState) → Keeps (undo o s) s
undo_keeps None s = refl
undo_keeps (Some t) s = end_keeps (undo_answer t.rival t.unanswered) t s

none_more : (new old : SiState) → Keeps new old → length new.commits ≤ 1 + length old.commits
none_more new old e = let kept = ap length e in omega (arith, kept)

commit_more : (o : Option Transaction) (s : SiState) → length (commit o s).commits ≤ 1 + length s.commits
commit_more None s = omega arith
commit_more (Some t) s =
    let committed : SiState = record s { commits = s.commits ++ record { tid = t.tid; writes = t.own } ∷ [] } in
    let kept = ap length (end_keeps (commit_answer t.unanswered) t committed) in
    let one = length-append s.commits (record { tid = t.tid; writes = t.own } ∷ []) in
    omega (arith, kept, one)

commits_after : (catalog : Catalog) (s : SiState) (e : Entry) → length (after catalog s e).commits ≤ 1 + length s.commits
commits_after catalog s (entry.Asked node) = omega arith
commits_after catalog s (entry.Began node tid first) = omega arith
commits_after catalog s (entry.Said node bound said) =
    let taken : SiState = with_held (held_by node s.held) (take_statement catalog s bound said) s in
    none_more (forget_note node said.answered taken) s (noted_keeps said.answered node taken ∙ held_keeps (held_by node s.held) (take_statement catalog s bound said) s)
commits_after catalog s (entry.Tried tid) = none_more (after catalog s (entry.Tried tid)) s (held_keeps (held_as tid s.held) try_commit s)
commits_after catalog s (entry.Clash tid rival at) = none_more (after catalog s (entry.Clash tid rival at)) s (held_keeps (held_as tid s.held) (meet_rival rival) s)
commits_after catalog s (entry.Committed tid) = commit_more (held_as tid s.held) s
commits_after catalog s (entry.Undone tid) = none_more (after catalog s (entry.Undone tid)) s (undo_keeps (held_as tid s.held) s)
commits_after catalog s (entry.Answered node statement told) = omega arith
commits_after catalog s (entry.Vanished node ending) = omega arith

-- the entries before a place are a history, and lead to the state
pub record Stands (setup : Setup) (es : List Entry) (i : ℕ) (state : State) : Type 0 where
  pub history : IsHistory setup (take i es)
  pub reached : shown state ≡ state_after setup (take i es)
  pub sound : IsSound setup.catalog (shown state)
  pub few : length state.commits ≤ 1 + i

take_read : (es : List Entry) (i : ℕ) (e : Entry) → i < length es → e ≡ get_or es i e → take (i + 1) es ≡ take i es ++ e ∷ []
take_read es i e h p = take_more es i e h ∙ ap (λ (x : Entry). take i es ++ x ∷ []) (sym p)

pub opens : (setup : Setup) (es : List Entry) (state : State) → shown state ≡ opening_state setup → Stands setup es 0 state
opens setup es state e = record {
  history = tt;
  reached = e;
  sound = subst (IsSound setup.catalog) (sym e) (opens_sound setup);
  few = let one = ap (λ (s : SiState). length s.commits) e in omega (arith, one);
}

-- an entry of the list keeps the keys
pub keeps_at : (setup : Setup) (es : List Entry) (i : ℕ) (e : Entry) → keep_keys setup.catalog es ≡ true → i < length es → e ≡ get_or es i e → keeps_key setup.catalog e ≡ true
keeps_at setup [] i e k h p = absurd (omega (arith, h))
keeps_at setup (x ∷ es) zero e k h p = subst (λ (y : Entry). keeps_key setup.catalog y ≡ true) (sym p) (and_parts (keeps_key setup.catalog x) (keep_keys setup.catalog es) k).0
keeps_at setup (x ∷ es) (suc i) e k h p = keeps_at setup es i e (and_parts (keeps_key setup.catalog x) (keep_keys setup.catalog es) k).1 (omega (arith, h)) p

pub goes_on : (setup : Setup) (es : List Entry) (i : ℕ) (e : Entry) (state next : State) → keep_keys setup.catalog es ≡ true → i < length es → e ≡ get_or es i e
    → Stands setup es i state → Step setup.catalog (shown state) e (shown next) → Stands setup es (i + 1) next
goes_on setup es i e state next k h p stands (a, n) = record {
  history =
      subst (λ (l : List Entry). IsHistory setup l) (sym (take_read es i e h p))
      (one_allowed setup.catalog (opening_state setup) (take i es) e stands.history (subst (λ (x : SiState). Allowed setup.catalog x e) stands.reached a));
  reached =
      n ∙ ap (λ (x : SiState). after setup.catalog x e) stands.reached
      ∙ sym (ap (state_after setup) (take_read es i e h p) ∙ one_after setup.catalog (opening_state setup) (take i es) e);
  sound = subst (IsSound setup.catalog) (sym n) (stays_sound setup.catalog (shown state) e stands.sound (keeps_at setup es i e k h p) a);
  few =
      let more = commits_after setup.catalog (shown state) e in
      let before = stands.few in
      let same = ap (λ (x : SiState). length x.commits) n in
      omega (arith, more, before, same);
}

pub stops : (setup : Setup) (es : List Entry) (i : ℕ) (e : Entry) (state : State) → i < length es → e ≡ get_or es i e
    → Stands setup es i state → (Allowed setup.catalog (shown state) e → ⊥) → BreaksAt setup es i
stops setup es i e state h p stands a = record {
  within = h;
  before = stands.history;
  refused =
      subst (λ (o : Option Entry). IfSome o (λ x. Allowed setup.catalog (state_after setup (take i es)) x → ⊥)) (sym (slice_get_read es (length es) i e refl h p))
      (subst (λ (x : SiState). Allowed setup.catalog x e → ⊥) stands.reached a);
}
