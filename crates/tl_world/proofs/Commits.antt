-- The numbers of the commits, entry by entry, and how many of them a snapshot has.
use Rattle.std.proofs.Common.{◌≡◌, ℕ, ◌≤◌, Bool, true, false, List, [], ◌∷◌, ◌++◌, length, Option, Some, None, append_assoc, append-nil, refl, sym, ap, ◌∙◌, arith}
use Rattle.std.specs.Prelude.{map, filter, drop, take, zero, suc, if◌then◌else◌}
use Rattle.std.specs.List.{AllByRecursion}
use Rattle.tl_schema.specs.declared.catalog.Catalog.{Catalog}
use Rattle.tl_descriptor.specs.Tids.{TidSet, has}
use Rattle.tl_isolation.specs.declared.entry.Answer.{Answer}
use Rattle.tl_isolation.specs.declared.entry.Entry.{Entry}
use Rattle.tl_isolation.specs.declared.entry.Entry.TheVariants as entry
use Rattle.tl_isolation.specs.declared.state.Commit.{Commit}
use Rattle.tl_isolation.specs.declared.state.SiState.{SiState}
use Rattle.tl_isolation.specs.declared.state.Transaction.{Transaction}
use Rattle.tl_isolation.specs.History.{IsHistoryFrom, state_from}
use Rattle.std.specs.Prelude.{◌==◌}
use Rattle.std.proofs.lemmas.Bool.{eqb-true}
use Rattle.tl_lemmas.proofs.Lists.{passes}
use Rattle.tl_isolation.specs.State.{held_as, held_by, is_lost}
use Rattle.tl_isolation.specs.Step.{Allowed, after, commit, commit_answer, end_with, forget_note, meet_rival, take_statement, try_commit, undo, undo_answer, with_held}
use Rattle.tl_protocol.specs.Told.{count_in}
use Rattle.tl_journal.specs.Law.{AreFirst}
use Rattle.tl_manager.specs.declared.mark.Mark.{Mark}
use Rattle.tl_manager.specs.declared.mark.Mark.TheVariants as mark
use Rattle.tl_manager.specs.declared.request.ManagerReply.TheVariants as manager
use Rattle.tl_manager.specs.declared.request.Reply.{Reply}
use Rattle.tl_manager.specs.declared.request.Reply.TheVariants as reply
use Rattle.tl_node.specs.After.{marked}
use Rattle.tl_world.specs.Stands.{committed_by, committed_in}
use Rattle.tl_world.specs.Told.{counted_on, first_in, marked_in}
use Rattle.tl_isolation.proofs.Kept.{numbered}

abbrev pub tids : List Commit → List ℕ
tids commits = map (λ (c : Commit). c.tid) commits

noted_same : (node : ℕ) (answered : Bool) (state : SiState) → (forget_note node answered state).commits ≡ state.commits
noted_same node true state = refl
noted_same node false state = refl

held_same : (o : Option Transaction) (f : Transaction → Transaction) (state : SiState) → (with_held o f state).commits ≡ state.commits
held_same None f state = refl
held_same (Some t) f state = refl

ended_same : (told : Answer) (t : Transaction) (state : SiState) → (end_with told t state).commits ≡ state.commits
ended_same told t state = by (is_lost t.phase) refl
  where
    by : (b : Bool) → is_lost t.phase ≡ b → (end_with told t state).commits ≡ state.commits
    by true e = rw e refl
    by false e = rw e refl

undone_same : (o : Option Transaction) (state : SiState) → (undo o state).commits ≡ state.commits
undone_same None state = refl
undone_same (Some t) state = ended_same (undo_answer t.rival t.unanswered) t state

tids_more : (xs : List Commit) (c : Commit) → tids (xs ++ c ∷ []) ≡ tids xs ++ c.tid ∷ []
tids_more [] c = refl
tids_more (x ∷ xs) c = ap (λ ys. x.tid ∷ ys) (tids_more xs c)

none_found : (t : Transaction) → ◌≡◌ {A = Option Transaction} None (Some t) → ⊥
none_found t e = cc

committed_more : (catalog : Catalog) (state : SiState) (tid : ℕ) (t : Transaction) → held_as tid state.held ≡ Some t
    → tids (commit (held_as tid state.held) state).commits ≡ tids state.commits ++ tid ∷ []
committed_more catalog state tid t e =
    ap (λ o. tids (commit o state).commits) e
    ∙ ap tids (ended_same (commit_answer t.unanswered) t (record state { commits = state.commits ++ record { tid = t.tid; writes = t.own } ∷ [] }))
    ∙ tids_more state.commits (record { tid = t.tid; writes = t.own })
    ∙ ap (λ k. tids state.commits ++ k ∷ []) (numbered tid state.held t e)

same_tids : (state new : SiState) → new.commits ≡ state.commits → tids new.commits ≡ tids state.commits ++ []
same_tids state new e = ap tids e ∙ sym (append-nil (tids state.commits))

-- one entry more
after_commits : (catalog : Catalog) (state : SiState) (e : Entry) → Allowed catalog state e → tids (after catalog state e).commits ≡ tids state.commits ++ committed_by e
after_commits catalog state (entry.Asked node) a = same_tids state (after catalog state (entry.Asked node)) refl
after_commits catalog state (entry.Began node tid first) a = same_tids state (after catalog state (entry.Began node tid first)) refl
after_commits catalog state (entry.Said node bound said) a =
    same_tids state (after catalog state (entry.Said node bound said))
    (noted_same node said.answered (with_held (held_by node state.held) (take_statement catalog state bound said) state)
    ∙ held_same (held_by node state.held) (take_statement catalog state bound said) state)
after_commits catalog state (entry.Tried tid) a =
    same_tids state (after catalog state (entry.Tried tid)) (held_same (held_as tid state.held) try_commit state)
after_commits catalog state (entry.Clash tid rival at) a =
    same_tids state (after catalog state (entry.Clash tid rival at)) (held_same (held_as tid state.held) (meet_rival rival) state)
after_commits catalog state (entry.Committed tid) a = committed_more catalog state tid a.0 a.1
after_commits catalog state (entry.Undone tid) a = same_tids state (after catalog state (entry.Undone tid)) (undone_same (held_as tid state.held) state)
after_commits catalog state (entry.Answered node statement told) a = same_tids state (after catalog state (entry.Answered node statement told)) refl
after_commits catalog state (entry.Vanished node ending) a = same_tids state (after catalog state (entry.Vanished node ending)) refl

-- and several
pub commits_from : (catalog : Catalog) (state : SiState) (es : List Entry) → IsHistoryFrom catalog state es
    → tids (state_from catalog state es).commits ≡ tids state.commits ++ committed_in es
commits_from catalog state [] h = sym (append-nil (tids state.commits))
commits_from catalog state (e ∷ es) h =
    commits_from catalog (after catalog state e) es h.1
    ∙ ap (λ xs. xs ++ committed_in es) (after_commits catalog state e h.0)
    ∙ append_assoc (tids state.commits) (committed_by e) (committed_in es)

-- a history goes on where its front leads
pub history_behind : (catalog : Catalog) (state : SiState) (es ds : List Entry) → IsHistoryFrom catalog state (es ++ ds)
    → IsHistoryFrom catalog (state_from catalog state es) ds
history_behind catalog state [] ds h = h
history_behind catalog state (e ∷ es) ds h = history_behind catalog (after catalog state e) es ds h.1

-- ---- a snapshot that has the first ones and no others

zero_least : (n : ℕ) → n ≤ 0 → n ≡ 0
zero_least n h = omega arith

count_within : (set : TidSet) (commits : List Commit) → count_in set commits ≤ length commits
count_within set [] = omega arith
count_within set (c ∷ cs) = by (has set c.tid) (count_within set cs)
  where
    by : (b : Bool) → count_in set cs ≤ length cs
        → length (if b then c ∷ filter (λ (x : Commit). has set x.tid) cs else filter (λ (x : Commit). has set x.tid) cs) ≤ length (c ∷ cs)
    by true h = let g : count_in set cs ≤ length cs = h in omega arith
    by false h = let g : count_in set cs ≤ length cs = h in omega arith

on_true : (b : Bool) (n m : ℕ) → b ≡ true → n ≡ m → counted_on b n ≡ suc m
on_true true n m e f = let g : n ≡ m = f in omega arith
on_true false n m e f = cc

on_false : (b : Bool) (n : ℕ) → b ≡ false → n ≡ 0 → counted_on b n ≡ 0
on_false false zero e f = refl
on_false false (suc n) e f = cc
on_false true n e f = cc

pub first_is : (set : TidSet) (n : ℕ) (commits : List Commit) → n ≤ length commits
    → AllByRecursion (λ (c : Commit). has set c.tid ≡ true) (take n commits) → AllByRecursion (λ (c : Commit). has set c.tid ≡ false) (drop n commits)
    → first_in set (tids commits) ≡ n
first_is set n [] few h g = sym (zero_least n few)
first_is set zero (c ∷ cs) few h g = on_false (has set c.tid) (first_in set (tids cs)) g.0 (first_is set zero cs (zero_few (length cs)) tt g.1)
  where
    zero_few : (k : ℕ) → 0 ≤ k
    zero_few k = omega arith
first_is set (suc n) (c ∷ cs) few h g = on_true (has set c.tid) (first_in set (tids cs)) n h.0 (first_is set n cs (fewer n (length cs) few) h.1 g)
  where
    fewer : (n k : ℕ) → suc n ≤ suc k → n ≤ k
    fewer n k l = omega arith

pub first_counts : (set : TidSet) (commits : List Commit) → AreFirst set commits → first_in set (tids commits) ≡ count_in set commits
first_counts set commits f = first_is set (count_in set commits) commits (count_within set commits) f.0 f.1

-- what is told of a mark
pub marked_is : (commits : List Commit) (number : ℕ) (p : Reply) (m : Mark)
    → ((tid : ℕ) (snapshot floor : TidSet) → p ≡ reply.Manager (manager.Began tid snapshot floor) → AreFirst snapshot commits)
    → marked_in (tids commits) number p m ≡ marked commits number p m
marked_is commits number p (mark.Began tid) h = by p h
  where
    by : (p : Reply) → ((tid : ℕ) (snapshot floor : TidSet) → p ≡ reply.Manager (manager.Began tid snapshot floor) → AreFirst snapshot commits)
        → marked_in (tids commits) number p (mark.Began tid) ≡ marked commits number p (mark.Began tid)
    by (reply.Manager (manager.Began other snapshot floor)) h =
        ap (λ k. entry.Began number tid k ∷ []) (first_counts snapshot commits (h other snapshot floor refl))
    by p h = refl
marked_is commits number p m h = refl
