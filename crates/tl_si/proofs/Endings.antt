-- What a commit and an undoing leave.
use Rattle.std.proofs.Common.{◌≡◌, ℕ, ◌==◌, ◌&&◌, Bool, true, List, [], ◌∷◌, ◌++◌, Option, Some, None, sym, ap, subst, ◌∙◌}
use Rattle.std.specs.Prelude.{remove, if◌then◌else◌}
use Rattle.std.proofs.lemmas.Bool.{and_from, and_parts, eqb-true}
use Rattle.std.proofs.lemmas.Option.{same_Some}
use Rattle.tl_lemmas.proofs.Lists.{passes}
use Rattle.tl_write.specs.declared.write.Write.{Write}
use Rattle.tl_isolation.specs.declared.entry.Answer.{Answer}
use Rattle.tl_isolation.specs.declared.state.Commit.{Commit}
use Rattle.tl_isolation.specs.declared.state.NodeState.{NodeState}
use Rattle.tl_isolation.specs.declared.state.SiState.{SiState}
use Rattle.tl_isolation.specs.declared.state.Transaction.{Transaction}
use Rattle.tl_isolation.specs.State.{held_as, is_lost, node_of, put_node, without_held}
use Rattle.tl_isolation.specs.Step.{IsHeld, MayCommit, begin, commit, commit_answer, end_with, is_alone, is_ready, undo, undo_answer, with_noted, with_outcome}
use Rattle.tl_si.specs.declared.state.State.{State}
use Rattle.tl_si.specs.Ends.{ended}
use Rattle.tl_si.specs.Shown.{IsOut, shown}
use Rattle.tl_si.proofs.Alone.{without_out}

module _ (tid : ℕ) (old mid : State) (at : ℕ) (t : Transaction) (out : IsOut (λ (t : Transaction). t.tid == tid) old at t mid) where
  its_number : t.tid ≡ tid
  its_number = eqb-true t.tid tid (passes (λ (t : Transaction). t.tid == tid) old.held.items t out.first)

  -- the others are those that were there, whatever commits there are now
  ended_is : (told : Answer) (commits : List Commit)
      → ended tid t.node t.phase told (record (shown mid) { commits = commits }) ≡ end_with told t (record (shown old) { commits = commits })
  ended_is told commits =
      ap (λ (s : SiState). ended tid t.node t.phase told (record s { commits = commits })) out.rest
      ∙ ap (λ (held : List Transaction). end_left held)
      (ap (λ (n : ℕ). without_held n (remove old.held.items at)) (sym its_number) ∙ without_out old.held.items at t out.here)
    where
      end_left : List Transaction → SiState
      end_left held =
          let gone : SiState = record (shown old) { commits = commits; held = held } in
          if is_lost t.phase then gone else with_outcome t.node (Some told) gone

  pub undone_is : (u : Transaction) (told : Answer) (new : SiState) → u ≡ t → told ≡ undo_answer u.rival u.unanswered
      → new ≡ ended tid u.node u.phase told (shown mid) → new ≡ undo (held_as tid old.held.items) (shown old)
  undone_is u told new e a n =
      n ∙ ap (λ (v : Transaction). ended tid v.node v.phase told (shown mid)) e
      ∙ ap (λ (x : Answer). ended tid t.node t.phase x (shown mid)) (a ∙ ap (λ (v : Transaction). undo_answer v.rival v.unanswered) e)
      ∙ ap (λ (commits : List Commit). ended tid t.node t.phase (undo_answer t.rival t.unanswered) (record (shown mid) { commits = commits })) (ap (λ (s : SiState). s.commits) out.rest)
      ∙ ended_is (undo_answer t.rival t.unanswered) old.commits
      ∙ ap (λ (o : Option Transaction). undo o (shown old)) (sym out.first)

  pub committed_is : (u : Transaction) (told : Answer) (writes : List Write) (past more : List Commit) (new : SiState) → u ≡ t → told ≡ commit_answer u.unanswered
      → writes ≡ u.own → past ≡ mid.commits → more ≡ past ++ record { tid = tid; writes = writes } ∷ []
      → new ≡ ended tid u.node u.phase told (record (shown mid) { commits = more }) → new ≡ commit (held_as tid old.held.items) (shown old)
  committed_is u told writes past more new e a w p m n =
      n ∙ ap (λ (v : Transaction). ended tid v.node v.phase told (record (shown mid) { commits = more })) e
      ∙ ap (λ (x : Answer). ended tid t.node t.phase x (record (shown mid) { commits = more })) (a ∙ ap (λ (v : Transaction). commit_answer v.unanswered) e)
      ∙ ended_is (commit_answer t.unanswered) more
      ∙ ap (λ (commits : List Commit). end_with (commit_answer t.unanswered) t (record (shown old) { commits = commits }))
      (m ∙ ap (λ (cs : List Commit). cs ++ record { tid = tid; writes = writes } ∷ []) (p ∙ ap (λ (s : SiState). s.commits) out.rest)
      ∙ ap (λ (ws : List Write). old.commits ++ record { tid = tid; writes = ws } ∷ []) (w ∙ ap (λ (v : Transaction). v.own) e)
      ∙ ap (λ (n : ℕ). old.commits ++ record { tid = n; writes = t.own } ∷ []) (sym its_number))
      ∙ ap (λ (o : Option Transaction). commit o (shown old)) (sym out.first)

  pub may_commit_is : (may : Bool) → ((s : SiState) → s.commits ≡ mid.commits → may ≡ (is_ready t && is_alone s t)) → may ≡ true → IsHeld (shown old) tid (MayCommit (shown old))
  may_commit_is may h e = (t, out.first, and_parts (is_ready t) (is_alone (shown old) t) (sym (h (shown old) (sym (ap (λ (s : SiState). s.commits) out.rest))) ∙ e))

  pub only_commit : (may : Bool) → ((s : SiState) → s.commits ≡ mid.commits → may ≡ (is_ready t && is_alone s t)) → IsHeld (shown old) tid (MayCommit (shown old)) → may ≡ true
  only_commit may h (x, e, k) =
      let same : x ≡ t = same_Some x t (sym e ∙ out.first) in
      h (shown old) (sym (ap (λ (s : SiState). s.commits) out.rest))
      ∙ and_from (is_ready t) (is_alone (shown old) t) (subst (λ (y : Transaction). is_ready y ≡ true) same k.0) (subst (λ (y : Transaction). is_alone (shown old) y ≡ true) same k.1)

-- a transaction more
pub began_is : (s : SiState) (node tid first : ℕ) (begun : List ℕ) (held : List Transaction) (nodes : List NodeState) → begun ≡ s.begun ++ tid ∷ []
    → held ≡ s.held ++ begin node tid first ∷ [] → nodes ≡ put_node (record (node_of node s.nodes) { noted = None }) s.nodes
    → ◌≡◌ {A = SiState} (record { commits = s.commits; begun = begun; vanished = s.vanished; held = held; nodes = nodes })
    (with_noted node None (record s { begun = s.begun ++ tid ∷ []; held = s.held ++ begin node tid first ∷ [] }))
began_is s node tid first begun held nodes b h n = λ i. record { commits = s.commits; begun = b i; vanished = s.vanished; held = h i; nodes = n i }
