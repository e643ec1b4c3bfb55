-- The machine of snapshot isolation keeps each row at home: it fits its table, and stands under its own record key.
use Rattle.std.proofs.Common.{◌≡◌, ℕ, zero, suc, Bool, true, false, not, cond, List, [], ◌∷◌, ◌++◌, Option, Some, None, Result, Ok, Err, find, take, refl, sym, ◌∙◌}
use Rattle.std.specs.Prelude.{◌==◌, if◌then◌else◌}
use Rattle.std.specs.FinMap as finmap
use Rattle.std.specs.List.{AllByRecursion}
use Rattle.tl_lemmas.proofs.Lists.{all_filter, all_map, all_push, found}
use Rattle.tl_values.specs.declared.value.Value.{Value}
use Rattle.tl_schema.specs.declared.catalog.Catalog.{Catalog}
use Rattle.tl_schema.specs.declared.catalog.Setup.{Setup}
use Rattle.tl_write.specs.declared.fault.ChangeFault.{ChangeFault}
use Rattle.tl_write.specs.declared.write.Effect.{Effect}
use Rattle.tl_write.specs.declared.write.Write.{Write}
use Rattle.tl_write.specs.Own.{key_cmp}
use Rattle.tl_write.specs.Tables.{Tables, laid_over}
use Rattle.tl_isolation.specs.declared.bound.Bound.{Bound}
use Rattle.tl_isolation.specs.declared.bound.Bound.TheVariants as bound
use Rattle.tl_isolation.specs.declared.entry.Answer.{Answer}
use Rattle.tl_isolation.specs.declared.entry.Said.{Said}
use Rattle.tl_isolation.specs.declared.entry.Entry.{Entry}
use Rattle.tl_isolation.specs.declared.entry.Entry.TheVariants as entry
use Rattle.tl_isolation.specs.declared.state.Commit.{Commit}
use Rattle.tl_isolation.specs.declared.state.Transaction.{Transaction}
use Rattle.tl_isolation.specs.declared.state.SiState.{SiState}
use Rattle.tl_isolation.specs.declared.state.TxnPhase.TheVariants as phase
use Rattle.tl_isolation.specs.Tables.{AreHome, OpensFitting, Suits}
use Rattle.tl_isolation.specs.State.{held_as, held_by, is_fresh, is_lost, opening_state, tables_after, tables_from, view_of, without_held}
use Rattle.tl_isolation.specs.Step.{after, begin, commit, commit_answer, effect_on, end_with, forget_note, keep_answer, lose, meet_rival, open_by_begin, own_after, take_statement, try_commit, undo, undo_answer, with_held, with_outcome}
use Rattle.tl_isolation.specs.History.{state_from}
use Rattle.tl_protocol.specs.World.{Decision, Commit as ToCommit, Undo, World}
use Rattle.tl_protocol.specs.Move as move
use Rattle.tl_protocol.specs.Move.{Move, is_nested, is_outside}
use Rattle.tl_protocol.specs.Told.{finished_as, finished_so, told}
use Rattle.tl_protocol.proofs.Shown.{AreHomeWrites, AreKeyed, Proper}
use Rattle.tl_protocol.proofs.HomeKeys.{change_keyed, opening_keyed, puts_keyed}
use Rattle.tl_protocol.proofs.Homes.{change_home, laid_home, opening_home, puts_home}

-- a change is one of its table
abbrev pub SuitsBound : Catalog → Bound → Type 0
SuitsBound catalog (bound.Change edit) = Suits catalog edit
SuitsBound catalog b = Unit {0}

-- what an entry has to meet so that rows stay at home
abbrev pub SuitsEntry : Catalog → Entry → Type 0
SuitsEntry catalog (entry.Said node b said) = SuitsBound catalog b
SuitsEntry catalog e = Unit {0}

pub opening_proper : (setup : Setup) → OpensFitting setup → Proper setup.catalog (opening_state setup)
opening_proper setup fits =
    let home = opening_home setup.catalog setup.rows fits in
    record { commits = ((home, opening_keyed setup.catalog setup.rows home), tt); held = tt }

abbrev IsProperCommit : Catalog → Commit → Type 0
IsProperCommit catalog c = AreHomeWrites catalog c.writes × AreKeyed catalog c.writes

abbrev IsProperHeld : Catalog → Transaction → Type 0
IsProperHeld catalog t = AreHomeWrites catalog t.own × AreKeyed catalog t.own

module _ (catalog : Catalog) where
  -- Tables. Those after proper commits are at home
  from_home : (tables : Tables) (commits : List Commit) → AreHome catalog tables → AllByRecursion (IsProperCommit catalog) commits → AreHome catalog (tables_from tables commits)
  from_home tables [] h i = h
  from_home tables (c ∷ cs) h i = from_home (laid_over tables c.writes) cs (laid_home catalog tables c.writes h i.0.0) i.1

  empty_home : AreHome catalog finmap.empty
  empty_home key row e = absurd (none row (sym (finmap.get-empty key_cmp key) ∙ e))
    where
      none : (row : List Value) → ◌≡◌ {A = Option (List Value)} None (Some row) → ⊥
      none row e = cc

  first_proper : (n : ℕ) (commits : List Commit) → AllByRecursion (IsProperCommit catalog) commits → AllByRecursion (IsProperCommit catalog) (take n commits)
  first_proper zero cs h = tt
  first_proper (suc n) [] h = tt
  first_proper (suc n) (c ∷ cs) h = (h.0, first_proper n cs h.1)

  pub tables_home : (s : SiState) → Proper catalog s → (n : ℕ) → AreHome catalog (tables_after (take n s.commits))
  tables_home s p n = from_home finmap.empty (take n s.commits) empty_home (first_proper n s.commits p.commits)

  pub view_home : (s : SiState) → Proper catalog s → (t : Transaction) → AreHomeWrites catalog t.own → AreHome catalog (view_of s t)
  view_home s p t h = laid_home catalog (tables_after (take t.first s.commits)) t.own (tables_home s p t.first) h

  -- Entries. A held transaction is changed, and its own writes stay at home
  held_proper : (s : SiState) (o : Option Transaction) (f : Transaction → Transaction) → Proper catalog s
      → ((t : Transaction) → o ≡ Some t → IsProperHeld catalog (f t)) → Proper catalog (with_held o f s)
  held_proper s None f p h = p
  held_proper s (Some t) f p h = record {
    commits = p.commits;
    held = all_map (IsProperHeld catalog) (IsProperHeld catalog) (λ (x : Transaction). if x.tid == (f t).tid then f t else x) one s.held p.held;
  }
    where
      one : (x : Transaction) → IsProperHeld catalog x → IsProperHeld catalog (if x.tid == (f t).tid then f t else x)
      one x i = elim (x.tid == (f t).tid) as (λ b. IsProperHeld catalog (cond b (f t) x)) [ true ↦ h t refl | false ↦ i ]

  -- notes and answers don't matter
  forgotten_proper : (s : SiState) (node : ℕ) (answered : Bool) → Proper catalog s → Proper catalog (forget_note node answered s)
  forgotten_proper s node true p = record { commits = p.commits; held = p.held }
  forgotten_proper s node false p = p

  ended_proper : (s : SiState) (told : Answer) (t : Transaction) → Proper catalog s → Proper catalog (end_with told t s)
  ended_proper s told t p = go (is_lost t.phase)
    where
      rest : AllByRecursion (IsProperHeld catalog) (without_held t.tid s.held)
      rest = all_filter (IsProperHeld catalog) (IsProperHeld catalog) (λ (x : Transaction). not (x.tid == t.tid)) (λ x i j. j) s.held p.held

      go : (b : Bool) → Proper catalog (if b then record s { held = without_held t.tid s.held } else with_outcome t.node (Some told) (record s { held = without_held t.tid s.held }))
      go true = record { commits = p.commits; held = rest }
      go false = record { commits = p.commits; held = rest }

  committed_proper : (s : SiState) (o : Option Transaction) → Proper catalog s → ((t : Transaction) → o ≡ Some t → IsProperHeld catalog t) → Proper catalog (commit o s)
  committed_proper s None p h = p
  committed_proper s (Some t) p h =
      let c : Commit = record { tid = t.tid; writes = t.own } in
      ended_proper (record s { commits = s.commits ++ c ∷ [] }) (commit_answer t.unanswered) t
      (record { commits = all_push (IsProperCommit catalog) s.commits c p.commits (h t refl); held = p.held })

  undone_proper : (s : SiState) (o : Option Transaction) → Proper catalog s → Proper catalog (undo o s)
  undone_proper s None p = p
  undone_proper s (Some t) p = ended_proper s (undo_answer t.rival t.unanswered) t p

  opened_own : (t : Transaction) → IsProperHeld catalog t → IsProperHeld catalog (open_by_begin t)
  opened_own t h = elim (is_fresh t) as (λ b. IsProperHeld catalog (cond b (record t { opened = true }) t)) [ true ↦ h | false ↦ h ]

  kept_own : (told : Answer) (answered : Bool) (t : Transaction) → IsProperHeld catalog t → IsProperHeld catalog (keep_answer told answered t)
  kept_own told true t h = h
  kept_own told false t h = h

  changed_own : (result : Result Effect ChangeFault) (own : List Write)
      → ((effect : Effect) → result ≡ Ok effect → AreHomeWrites catalog effect.writes × AreKeyed catalog effect.writes)
      → AreHomeWrites catalog own × AreKeyed catalog own → AreHomeWrites catalog (own_after result own) × AreKeyed catalog (own_after result own)
  changed_own (Ok effect) own f h =
      (puts_home catalog effect.writes own (f effect refl).0 h.0, puts_keyed catalog effect.writes own (f effect refl).1 h.1)
  changed_own (Err refusal) own f h = h

  -- what a statement leaves of the own writes
  taken_own : (s : SiState) (b : Bound) (said : Said) (t : Transaction) → SuitsBound catalog b → Proper catalog s → IsProperHeld catalog t
      → IsProperHeld catalog (take_statement catalog s b said t)
  taken_own s bound.Begin said t k p h = opened_own t h
  taken_own s bound.Commit said t k p h = h
  taken_own s bound.Rollback said t k p h = h
  taken_own s (bound.Recover gone) said t k p h = h
  taken_own s (bound.Select query) said t k p h = kept_own said.answer said.answered t h
  taken_own s (bound.Change edit) said t k p h =
      changed_own (effect_on catalog s t edit) t.own
      (λ effect e. (
        change_home catalog edit (view_of s t) t.own effect (view_home s p t h.0) k e,
        change_keyed catalog edit (view_of s t) t.own effect (view_home s p t h.0) k e,
      )) h

  lost_own : (node : ℕ) (t : Transaction) → IsProperHeld catalog t → IsProperHeld catalog (lose node t)
  lost_own node t h = elim (t.node == node) as (λ b. IsProperHeld catalog (cond b (record t { phase = phase.Lost }) t)) [ true ↦ h | false ↦ h ]

  is_proper : (s : SiState) → Proper catalog s → (p : Transaction → Bool) (t : Transaction) → find p s.held ≡ Some t → IsProperHeld catalog t
  is_proper s h p t e = found (IsProperHeld catalog) p s.held t h.held e

  step_proper : (s : SiState) (e : Entry) → SuitsEntry catalog e → Proper catalog s → Proper catalog (after catalog s e)
  step_proper s (entry.Asked node) k p = record { commits = p.commits; held = p.held }
  step_proper s (entry.Began node tid first) k p = record {
    commits = p.commits;
    held = all_push (IsProperHeld catalog) s.held (begin node tid first) p.held (tt, tt);
  }
  step_proper s (entry.Said node b said) k p =
      forgotten_proper (with_held (held_by node s.held) (take_statement catalog s b said) s) node said.answered
      (held_proper s (held_by node s.held) (take_statement catalog s b said) p
      (λ t e. taken_own s b said t k p (is_proper s p (λ x. x.node == node) t e)))
  step_proper s (entry.Tried tid) k p = held_proper s (held_as tid s.held) try_commit p (λ t e. is_proper s p (λ x. x.tid == tid) t e)
  step_proper s (entry.Clash tid rival at) k p = held_proper s (held_as tid s.held) (meet_rival rival) p (λ t e. is_proper s p (λ x. x.tid == tid) t e)
  step_proper s (entry.Committed tid) k p = committed_proper s (held_as tid s.held) p (λ t e. is_proper s p (λ x. x.tid == tid) t e)
  step_proper s (entry.Undone tid) k p = undone_proper s (held_as tid s.held) p
  step_proper s (entry.Answered node statement said) k p = record { commits = p.commits; held = p.held }
  step_proper s (entry.Vanished node ending) k p = record {
    commits = p.commits;
    held = all_map (IsProperHeld catalog) (IsProperHeld catalog) (lose node) (lost_own node) s.held p.held;
  }

  pub proper_after : (s : SiState) (entries : List Entry) → AllByRecursion (SuitsEntry catalog) entries → Proper catalog s → Proper catalog (state_from catalog s entries)
  proper_after s [] k p = p
  proper_after s (e ∷ es) k p = proper_after (after catalog s e) es k.1 (step_proper s e k.0 p)

-- Moves. Only a change changes rows
nested_suits : (catalog : Catalog) (b : Bound) → is_nested b ≡ true → SuitsBound catalog b
nested_suits catalog bound.Begin h = tt
nested_suits catalog (bound.Recover gone) h = tt
nested_suits catalog bound.Commit h = tt
nested_suits catalog bound.Rollback h = tt
nested_suits catalog (bound.Select query) h = tt
nested_suits catalog (bound.Change edit) h = absurd cc

outside_suits : (catalog : Catalog) (b : Bound) → is_outside b ≡ true → SuitsBound catalog b
outside_suits catalog bound.Begin h = tt
outside_suits catalog (bound.Recover gone) h = tt
outside_suits catalog bound.Commit h = tt
outside_suits catalog bound.Rollback h = tt
outside_suits catalog (bound.Select query) h = tt
outside_suits catalog (bound.Change edit) h = absurd cc

finished_suits : (catalog : Catalog) (d : Decision) (tid : ℕ) → SuitsEntry catalog (finished_as d tid)
finished_suits catalog ToCommit tid = tt
finished_suits catalog (Undo rival) tid = tt

ended_suits : (catalog : Catalog) (committed : Bool) (tid : ℕ) → SuitsEntry catalog (finished_so committed tid)
ended_suits catalog true tid = tt
ended_suits catalog false tid = tt

pub told_suits : (commits : List Commit) (w : World) (m : Move w) → AllByRecursion (SuitsEntry w.catalog) (told commits w m)
told_suits commits w (move.Ask n at) = (tt, tt)
told_suits commits w (move.Draw n seen at room) = tt
told_suits commits w (move.Bring n seen low at) = tt
told_suits commits w (move.Begin n tid seen floor at number low) = (tt, tt)
told_suits commits w (move.Learn n manager seen floor r seen_so low) = tt
told_suits commits w (move.Look n t facts looked at) = tt
told_suits commits w (move.Cover n t facts covers looked at right) = tt
told_suits commits w (move.SayBegun n statement t facts at fresh) = (tt, tt)
told_suits commits w (move.SayNested n statement b t facts at opened nested) = (nested_suits w.catalog b nested, tt)
told_suits commits w (move.SayOutside n statement b at outside) = (outside_suits w.catalog b outside, tt)
told_suits commits w (move.SaySelect n statement query said t facts at takes means) = (tt, tt)
told_suits commits w (move.SayChange n statement edit said own t facts at takes suits means) = (suits, tt)
told_suits commits w (move.Try n stamp t facts at may some absent above) = (tt, tt)
told_suits commits w (move.TryNothing n t facts at may none) = (tt, tt)
told_suits commits w (move.LoadOwn n k a at own new none) = tt
told_suits commits w (move.Clash n place rival o a at own new strange) = (tt, tt)
told_suits commits w (move.StoreOwn n stamp floor a l at same above least) = tt
told_suits commits w (move.MovedOwn n a l at moved) = tt
told_suits commits w (move.Decide n stamp a at all same above) = tt
told_suits commits w (move.LoadUndo n k a rival at stored) = tt
told_suits commits w (move.StoreUndo n stamp a rival l at same above) = tt
told_suits commits w (move.MovedUndo n a rival l at moved) = tt
told_suits commits w (move.MarkUndone n stamp a rival at none same above) = tt
told_suits commits w (move.GiveUp n t facts at may) = tt
told_suits commits w (move.LoadCommits n t d at) = tt
told_suits commits w (move.StoreCommits n stamp t d c at same above) = (finished_suits w.catalog d t.tid, tt)
told_suits commits w (move.MovedCommits n t d c at moved) = tt
told_suits commits w (move.End n statement tid said at) = (tt, tt)
told_suits commits w (move.Vanish n ending r) = (tt, tt)
told_suits commits w (move.There n statement gone at free none) = (tt, tt)
told_suits commits w (move.Claim n gone also at free posted) = tt
told_suits commits w (move.FindOrphan n duties x d at left active) = tt
told_suits commits w (move.FindNone n duties d at left none) = tt
told_suits commits w (move.ReadLog n duties o at) = tt
told_suits commits w (move.LoadLost n k duties o log seen at named new) = tt
told_suits commits w (move.StoreLost n stamp duties o log seen l at same above) = tt
told_suits commits w (move.MovedLost n duties o log seen l at moved) = tt
told_suits commits w (move.MarkLost n stamp duties o log seen at all same above) = tt
told_suits commits w (move.LoadFinish n duties o committed at) = tt
told_suits commits w (move.StoreFinish n stamp duties o committed c at same above) = (ended_suits w.catalog committed o.tid, tt)
told_suits commits w (move.MovedFinish n duties o committed c at moved) = tt
told_suits commits w (move.EndLost n duties o at) = tt
told_suits commits w (move.SayRecovered n statement duties at is_next done) = (tt, tt)
