-- A state that shows a ledger, after a turn of one node.
use Rattle.std.proofs.Common.{◌≡◌, ℕ, ◌≤◌, ◌==◌, Bool, true, false, List, Option, Some, None, if◌then◌else◌, reverse, refl, sym, ap, subst, ◌∙◌}
use Rattle.std.specs.List.{list_any}
use Rattle.std.proofs.lemmas.Bool.{eqb-true}
use Rattle.tl_base.specs.NodeSet.{has_node}
use Rattle.tl_isolation.specs.declared.entry.Answer.{Answer}
use Rattle.tl_isolation.specs.declared.state.Commit.{Commit}
use Rattle.tl_isolation.specs.declared.state.NodeState.{NodeState}
use Rattle.tl_isolation.specs.declared.state.Transaction.{Transaction}
use Rattle.tl_isolation.specs.declared.state.SiState.{SiState}
use Rattle.tl_isolation.specs.State.{held_as, held_by, is_lost, node_of, put_held, without_held}
use Rattle.tl_isolation.specs.Step.{end_with, forget_note, with_held, with_noted, with_outcome}
use Rattle.tl_protocol.specs.Store.{put}
use Rattle.tl_protocol.proofs.Ledger.{Seat, Ledger, ended, holding, seated}
use Rattle.tl_protocol.proofs.Held.{HeldTurn, IsOf, NodeTurn, held_ended, held_of, held_put, held_same, node_noted, node_outcome, node_same}
use Rattle.tl_protocol.proofs.Shown.{Shows}

-- what is so of the seat, and of the others
put_seat : (P : ℕ → Seat → Type 0) (n : ℕ) (seat : Seat) (seats : ℕ → Seat) (m : ℕ) → P n seat → ((n == m) ≡ false → P m (seats m)) → P m (put n seat seats m)
put_seat P n seat seats m here others =
    elim (n == m) as (λ b. (n == m) ≡ b → P m (if b then seat else seats m)) [
      | true ↦ λ e. subst (λ (i : ℕ). P i seat) (eqb-true n m e) here
      | false ↦ λ e. others e
    ] refl

-- the state's lists after it, over commits and numbers
pub turned : (s new : SiState) (a : Ledger) → Shows s a → (n : ℕ) (seat : Seat) (commits : List Commit) (begun : ℕ → Bool)
    → new.commits ≡ reverse commits → ((tid : ℕ) → list_any (λ t. t == tid) new.begun ≡ begun tid)
    → HeldTurn s.held new.held new.begun n seat.held → NodeTurn s.nodes new.nodes n seat.noted seat.outcome
    → has_node new.vanished n ≡ seat.vanished → ((m : ℕ) → 1 ≤ m → (n == m) ≡ false → has_node new.vanished m ≡ has_node s.vanished m)
    → Shows new (record { commits = commits; begun = begun; seats = put n seat a.seats })
turned s new a shows n seat commits begun cs bs held nodes gone others = record {
  commits = cs;
  begun = bs;
  tidy = held.tidy;
  noted = λ m one. put_seat (λ i x. (node_of i new.nodes).noted ≡ x.noted) n seat a.seats m nodes.noted
      (λ ne. ap (λ (x : NodeState). x.noted) (nodes.others m ne) ∙ shows.noted m one);
  outcome = λ m one. put_seat (λ i x. (node_of i new.nodes).outcome ≡ x.outcome) n seat a.seats m nodes.outcome
      (λ ne. ap (λ (x : NodeState). x.outcome) (nodes.others m ne) ∙ shows.outcome m one);
  held = λ m one. put_seat (λ i x. held_by i new.held ≡ x.held) n seat a.seats m held.here (λ ne. held.others m ne ∙ shows.held m one);
  vanished = λ m one. put_seat (λ i x. has_node new.vanished i ≡ x.vanished) n seat a.seats m gone (λ ne. others m one ne ∙ shows.vanished m one);
}

module _ (s : SiState) (a : Ledger) (shows : Shows s a) (n : ℕ) (node : 1 ≤ n) where
  -- where no commit, number or node is added
  pub turned_alone : (new : SiState) (seat : Seat) → new.commits ≡ s.commits → new.begun ≡ s.begun → new.vanished ≡ s.vanished → seat.vanished ≡ (a.seats n).vanished
      → HeldTurn s.held new.held s.begun n seat.held → NodeTurn s.nodes new.nodes n seat.noted seat.outcome → Shows new (seated a n seat)
  turned_alone new seat cs bs vs gone held nodes =
      turned s new a shows n seat a.commits a.begun (cs ∙ shows.commits) (λ tid. ap (list_any (λ t. t == tid)) bs ∙ shows.begun tid)
      (subst (λ (numbers : List ℕ). HeldTurn s.held new.held numbers n seat.held) (sym bs) held) nodes
      (ap (λ set. has_node set n) vs ∙ shows.vanished n node ∙ sym gone) (λ m one ne. ap (λ set. has_node set m) vs)

  -- the transaction that the node holds
  pub holds_it : (t : Transaction) → (a.seats n).held ≡ Some t → held_by n s.held ≡ Some t
  holds_it t e = shows.held n node ∙ e

  is_of : (t : Transaction) → (a.seats n).held ≡ Some t → IsOf s.held s.begun n t
  is_of t e = held_of s.held s.begun n t shows.tidy (holds_it t e)

  pub held_by_number : (t : Transaction) → (a.seats n).held ≡ Some t → held_as t.tid s.held ≡ Some t
  held_by_number t e = let o : IsOf s.held s.begun n t = is_of t e in o.tidy.by_tid

  pub held_unchanged : (now : Option Transaction) → (a.seats n).held ≡ now → HeldTurn s.held s.held s.begun n now
  held_unchanged now e = held_same s.held s.begun n now shows.tidy (shows.held n node ∙ e)

  held_changed : (old t : Transaction) → (a.seats n).held ≡ Some old → t.node ≡ old.node → t.tid ≡ old.tid
      → HeldTurn s.held (put_held t s.held) s.begun n (Some t)
  held_changed old t e is_node tid = held_put s.held s.begun n old t shows.tidy (holds_it old e) is_node tid

  nodes_unchanged : NodeTurn s.nodes s.nodes n (a.seats n).noted (a.seats n).outcome
  nodes_unchanged = node_same s.nodes n (a.seats n).noted (a.seats n).outcome (shows.noted n node) (shows.outcome n node)

  -- the transaction alone is changed
  pub held_turned : (f : Transaction → Transaction) (t : Transaction) → (a.seats n).held ≡ Some t → (f t).node ≡ t.node → (f t).tid ≡ t.tid
      → Shows (with_held (held_as t.tid s.held) f s) (holding a n (f t))
  held_turned f t e is_node tid =
      subst (λ (o : Option Transaction). Shows (with_held o f s) (holding a n (f t))) (sym (held_by_number t e))
      (turned_alone (record s { held = put_held (f t) s.held }) (record (a.seats n) { held = Some (f t) }) refl refl refl refl
      (held_changed t (f t) e is_node tid) nodes_unchanged)

  -- and by an answer the note too
  pub said_turned : (f : Transaction → Transaction) (answered : Bool) (t now : Transaction) → (a.seats n).held ≡ Some t → f t ≡ now → now.node ≡ t.node → now.tid ≡ t.tid
      → Shows (forget_note n answered (with_held (held_by n s.held) f s))
      (seated a n (record (a.seats n) { noted = if answered then None else (a.seats n).noted; held = Some now }))
  said_turned f answered t now e is is_node tid =
      subst (λ (o : Option Transaction). Shows (forget_note n answered (with_held o f s))
      (seated a n (record (a.seats n) { noted = if answered then None else (a.seats n).noted; held = Some now }))) (sym (holds_it t e))
      (subst (λ (x : Transaction). Shows (forget_note n answered (record s { held = put_held x s.held }))
      (seated a n (record (a.seats n) { noted = if answered then None else (a.seats n).noted; held = Some now }))) (sym is)
      (go answered))
    where
      go : (answered : Bool) → Shows (forget_note n answered (record s { held = put_held now s.held }))
          (seated a n (record (a.seats n) { noted = if answered then None else (a.seats n).noted; held = Some now }))
      go true = turned_alone (with_noted n None (record s { held = put_held now s.held })) (record (a.seats n) { noted = None; held = Some now }) refl refl refl refl
          (held_changed t now e is_node tid) (node_noted s.nodes n None (a.seats n).outcome (shows.outcome n node))
      go false = turned_alone (record s { held = put_held now s.held }) (record (a.seats n) { held = Some now }) refl refl refl refl
          (held_changed t now e is_node tid) nodes_unchanged

  -- a node without a transaction answers
  pub said_alone : (f : Transaction → Transaction) → (a.seats n).held ≡ None
      → Shows (forget_note n true (with_held (held_by n s.held) f s)) (seated a n (record (a.seats n) { noted = None }))
  said_alone f e =
      subst (λ (o : Option Transaction). Shows (forget_note n true (with_held o f s)) (seated a n (record (a.seats n) { noted = None }))) (sym (shows.held n node ∙ e))
      (turned_alone (with_noted n None s) (record (a.seats n) { noted = None }) refl refl refl refl (held_unchanged (a.seats n).held refl)
      (node_noted s.nodes n None (a.seats n).outcome (shows.outcome n node)))

  -- the node's transaction ends, where these are the commits then
  pub end_turned : (t : Transaction) (told : Answer) (old new : List Commit) → (a.seats n).held ≡ Some t → old ≡ reverse new
      → Shows (end_with told t (record s { commits = old })) (record { commits = new; begun = a.begun; seats = put n (ended (a.seats n) t told) a.seats })
  end_turned t told old new e is =
      let held : HeldTurn s.held (without_held t.tid s.held) s.begun n None = held_ended s.held s.begun n t shows.tidy (holds_it t e) in
      go held (is_lost t.phase) (is_of t e)
    where
      go : HeldTurn s.held (without_held t.tid s.held) s.begun n None → (b : Bool) → IsOf s.held s.begun n t
          → Shows (if b then record s { commits = old; held = without_held t.tid s.held } else with_outcome t.node (Some told) (record s { commits = old; held = without_held t.tid s.held }))
          (record {
            commits = new;
            begun = a.begun;
            seats = put n (record { noted = (a.seats n).noted; held = None; outcome = if b then (a.seats n).outcome else Some told; vanished = (a.seats n).vanished }) a.seats;
          })
      go held true o = turned s (record s { commits = old; held = without_held t.tid s.held }) a shows n
          (record (a.seats n) { held = None }) new a.begun is shows.begun held nodes_unchanged (shows.vanished n node) (λ m one ne. refl)
      go held false o =
          subst (λ (i : ℕ). Shows (with_outcome i (Some told) (record s { commits = old; held = without_held t.tid s.held }))
          (record { commits = new; begun = a.begun; seats = put n (record (a.seats n) { held = None; outcome = Some told }) a.seats })) (sym o.is_node)
          (turned s (with_outcome n (Some told) (record s { commits = old; held = without_held t.tid s.held })) a shows n
          (record (a.seats n) { held = None; outcome = Some told }) new a.begun is shows.begun held
          (node_outcome s.nodes n (a.seats n).noted (Some told) (shows.noted n node)) (shows.vanished n node) (λ m one ne. refl))
