-- Each entry is allowed where the ledger has what it asks for, and the state after it shows the ledger after it.
use Rattle.std.proofs.Common.{◌≡◌, ℕ, ◌-◌, ◌≤◌, ◌⊎◌, Bool, true, false, not, ◌&&◌, ◌||◌, List, [], ◌∷◌, ◌++◌, length, Option, Some, None, is_none, map, refl, sym, ap, subst, ◌∙◌, ⊎_elim, arith}
use Rattle.std.specs.Prelude.{◌==◌, slice_get, take, drop, if◌then◌else◌}
use Rattle.std.specs.FinMap as finmap
use Rattle.std.specs.List.{list_any}
use Rattle.std.proofs.lemmas.Bool.{and_left, eq-eqb, eqb-true, not_from_false, or_left, or_right}
use Rattle.std.proofs.lemmas.Bool.Decides.{nat_tests}
use Rattle.std.proofs.lemmas.List.{length-reverse, take_all}
use Rattle.std.proofs.lemmas.List.Folds.{list_any-append}
use Rattle.std.proofs.lemmas.Nat.Bits.{bit_at-zero}
use Rattle.tl_lemmas.proofs.Lists.{any_found, found, none_any, none_passes, passes, reverse_cons, weaker}
use Rattle.tl_schema.specs.declared.catalog.Catalog.{Catalog}
use Rattle.tl_schema.specs.declared.catalog.Setup.{Setup}
use Rattle.tl_descriptor.specs.Tids.{TidSet}
use Rattle.tl_algebra.specs.declared.edit.Edit.{Edit}
use Rattle.tl_algebra.specs.declared.query.Query.{Query}
use Rattle.tl_write.specs.declared.write.Write.{Write}
use Rattle.tl_write.specs.Own.{is_written}
use Rattle.tl_write.specs.Tables.{Tables, laid_over}
use Rattle.tl_isolation.specs.declared.bound.Bound.{Bound}
use Rattle.tl_isolation.specs.declared.bound.Bound.TheVariants as bound
use Rattle.tl_isolation.specs.declared.entry.Answer.{Answer}
use Rattle.tl_isolation.specs.declared.entry.Answer.TheVariants as answer
use Rattle.tl_isolation.specs.declared.entry.Ending.{Ending}
use Rattle.tl_isolation.specs.declared.entry.Entry.TheVariants as entry
use Rattle.tl_isolation.specs.declared.state.Commit.{Commit}
use Rattle.tl_isolation.specs.declared.state.Transaction.{Transaction}
use Rattle.tl_isolation.specs.declared.state.SiState.{SiState}
use Rattle.tl_isolation.specs.Meaning.{SelectAnswers}
use Rattle.tl_isolation.specs.State.{held_as, held_by, idle, is_fresh, is_live, is_lost, is_open, is_trying, opening_state, put_node, tables_after}
use Rattle.tl_isolation.specs.Step.{after, begin, commit, commit_answer, forget_note, is_ready, is_rival, keep_answer, lose, may_try, may_undo, meet_rival, none_lost, open_by_begin, take_statement, takes_statement, try_commit, undo, undo_answer, with_held, with_noted}
use Rattle.tl_isolation.specs.Tables.{AreHome}
use Rattle.tl_protocol.specs.Store.{Key, put}
use Rattle.tl_protocol.specs.Move.{Changes, is_nested, is_outside}
use Rattle.tl_protocol.specs.Told.{count_in, says}
use Rattle.tl_protocol.proofs.Ledger.{Ledger, Clear, CommittedLater, ended, holding, left, lost, opening_ledger, seated, view}
use Rattle.tl_protocol.proofs.Shown.{IsTidy, Proper, Shows, Tells}
use Rattle.tl_protocol.proofs.Proper.{tables_home}
use Rattle.tl_protocol.proofs.Laid.{count_turned, later_any, none_later, tables_viewed, writes_one}
use Rattle.tl_protocol.proofs.Held.{HeldTurn, NodeTurn, held_begun, held_lost, node_noted, node_put, vanished_here, vanished_other}
use Rattle.tl_protocol.proofs.Turns.{end_turned, held_by_number, held_turned, held_unchanged, holds_it, said_alone, said_turned, turned, turned_alone}

pub opening_shown : (setup : Setup) → Shows (opening_state setup) (opening_ledger setup)
opening_shown setup = record {
  commits = refl;
  begun = λ tid. refl;
  tidy = tt;
  noted = λ n one. refl;
  outcome = λ n one. refl;
  held = λ n one. refl;
  vanished = λ n one. ap (λ (b : ℕ). b == 1) (bit_at-zero (n - 1));
}

-- the order of commits doesn't matter to their number
pub count_shown : (s : SiState) (a : Ledger) → Shows s a → (set : TidSet) → count_in set s.commits ≡ count_in set a.commits
count_shown s a shows set = ap (count_in set) shows.commits ∙ count_turned set a.commits

number_shown : (s : SiState) (a : Ledger) → Shows s a → length s.commits ≡ length a.commits
number_shown s a shows = ap (λ (cs : List Commit). length cs) shows.commits ∙ length-reverse a.commits

pub tables_shown : (s : SiState) (a : Ledger) → Shows s a → (n : ℕ) (k : Key) → finmap.get (tables_after (take n s.commits)) k ≡ view n k a.commits
tables_shown s a shows n k = ap (λ (cs : List Commit). finmap.get (tables_after (take n cs)) k) shows.commits ∙ tables_viewed n k a.commits

pub all_tables_shown : (s : SiState) (a : Ledger) → Shows s a → (k : Key) → finmap.get (tables_after s.commits) k ≡ view (length a.commits) k a.commits
all_tables_shown s a shows k =
    let whole : length s.commits ≤ length a.commits = subst (λ (m : ℕ). m ≤ length a.commits) (sym (number_shown s a shows)) (omega arith) in
    ap (λ (cs : List Commit). finmap.get (tables_after cs) k) (sym (take_all (length a.commits) s.commits whole)) ∙ tables_shown s a shows (length a.commits) k

pub held_shown : (s : SiState) (a : Ledger) → Shows s a → (tid : ℕ) (t : Transaction) → held_as tid s.held ≡ Some t
    → (1 ≤ t.node) × ((a.seats t.node).held ≡ Some t) × (t.tid ≡ tid)
held_shown s a shows tid t e =
    let i : IsTidy s.held s.begun t = found (IsTidy s.held s.begun) (λ x. x.tid == tid) s.held t shows.tidy e in
    (i.node, sym (shows.held t.node i.node) ∙ i.by_node, eqb-true t.tid tid (passes (λ x. x.tid == tid) s.held t e))

or_if : (b c : Bool) → (b || (c || false)) ≡ (if c then true else b)
or_if true true = refl
or_if true false = refl
or_if false true = refl
or_if false false = refl

open_not_fresh : (live opened none : Bool) → (live && opened) ≡ true → (live && not opened && none) ≡ false
open_not_fresh live opened none h = grind (arith, nat_tests)

all_three : (x y z : Bool) → x ≡ true → y ≡ true → z ≡ true → (x && y && z) ≡ true
all_three x y z f g h = grind (arith, nat_tests)

kept_node : (told : Answer) (answered : Bool) (t : Transaction) → (keep_answer told answered t).node ≡ t.node
kept_node told true t = refl
kept_node told false t = refl

kept_tid : (told : Answer) (answered : Bool) (t : Transaction) → (keep_answer told answered t).tid ≡ t.tid
kept_tid told true t = refl
kept_tid told false t = refl

number_begun : (numbers : List ℕ) (begun : ℕ → Bool) (tid : ℕ) → ((m : ℕ) → list_any (λ t. t == m) numbers ≡ begun m)
    → (m : ℕ) → list_any (λ t. t == m) (numbers ++ tid ∷ []) ≡ put tid true begun m
number_begun numbers begun tid f m =
    list_any-append (λ t. t == m) numbers (tid ∷ []) ∙ ap (λ (b : Bool). b || ((tid == m) || false)) (f m) ∙ or_if (begun m) (tid == m)

module _ (catalog : Catalog) (s : SiState) (a : Ledger) (shows : Shows s a) (n : ℕ) (node : 1 ≤ n) where
  pub asked : (a.seats n).vanished ≡ false → (a.seats n).held ≡ None → (a.seats n).outcome ≡ None
      → Tells catalog s (entry.Asked n ∷ []) (seated a n (record (a.seats n) { noted = Some (length a.commits) }))
  asked v h o = record {
    allowed = ((shows.vanished n node ∙ v, shows.held n node ∙ h, shows.outcome n node ∙ o), tt);
    shows = turned_alone s a shows n node (with_noted n (Some (length s.commits)) s) (record (a.seats n) { noted = Some (length a.commits) }) refl refl refl refl
        (held_unchanged s a shows n node (a.seats n).held refl)
        (subst (λ (m : ℕ). NodeTurn s.nodes (with_noted n (Some (length s.commits)) s).nodes n (Some m) (a.seats n).outcome) (number_shown s a shows)
        (node_noted s.nodes n (Some (length s.commits)) (a.seats n).outcome (shows.outcome n node)));
  }

  pub began : (tid first noted : ℕ) → (a.seats n).noted ≡ Some noted → noted ≤ first → first ≤ length a.commits → (tid == 0) ≡ false
      → a.begun tid ≡ false → (a.seats n).held ≡ None
      → Tells catalog s (entry.Began n tid first ∷ []) (record {
        commits = a.commits;
        begun = put tid true a.begun;
        seats = put n (record (a.seats n) { noted = None; held = Some (begin n tid first) }) a.seats;
      })
  began tid first noted e from within some fresh none =
      let free : list_any (λ t. t == tid) s.begun ≡ false = shows.begun tid ∙ fresh in
      record {
        allowed = (((noted, shows.noted n node ∙ e, from), subst (λ (m : ℕ). first ≤ m) (sym (number_shown s a shows)) within, some, free), tt);
        shows = turned s (with_noted n None (record s { begun = s.begun ++ tid ∷ []; held = s.held ++ begin n tid first ∷ [] })) a shows n
            (record (a.seats n) { noted = None; held = Some (begin n tid first) }) a.commits (put tid true a.begun) shows.commits
            (number_begun s.begun a.begun tid shows.begun)
            (held_begun s.held s.begun n tid first shows.tidy node (shows.held n node ∙ none) free)
            (node_noted s.nodes n None (a.seats n).outcome (shows.outcome n node))
            (shows.vanished n node) (λ m one ne. refl);
      }

  pub said_begun : (statement : ℕ) (t : Transaction) → (a.seats n).vanished ≡ false → (a.seats n).held ≡ Some t → is_fresh t ≡ true
      → Tells catalog s (says n statement bound.Begin answer.Begun ∷ [])
      (seated a n (record (a.seats n) { noted = None; held = Some (record t { opened = true }) }))
  said_begun statement t v e fresh = record {
    allowed = ((shows.vanished n node ∙ v, (refl, (t, holds_it s a shows n node t e, fresh))), tt);
    shows = said_turned s a shows n node (λ (x : Transaction). open_by_begin x) true t (record t { opened = true }) e
        (ap (λ (b : Bool). if b then record t { opened = true } else t) fresh) refl refl;
  }

  pub said_nested : (statement : ℕ) (b : Bound) (t : Transaction) → (a.seats n).vanished ≡ false → (a.seats n).held ≡ Some t → is_open t ≡ true
      → is_nested b ≡ true → Tells catalog s (says n statement b answer.Nested ∷ []) (seated a n (record (a.seats n) { noted = None }))
  said_nested statement b t v e opened nested = go b nested
    where
      same : open_by_begin t ≡ t
      same = ap (λ (b : Bool). if b then record t { opened = true } else t) (open_not_fresh (is_live t.phase) t.opened (is_none t.unanswered) opened)

      shown : (f : Transaction → Transaction) → f t ≡ t → Shows (forget_note n true (with_held (held_by n s.held) f s)) (seated a n (record (a.seats n) { noted = None }))
      shown f is =
          subst (λ (o : Option Transaction). Shows (forget_note n true (with_held (held_by n s.held) f s)) (seated a n (record (a.seats n) { noted = None; held = o }))) (sym e)
          (said_turned s a shows n node f true t t e is refl refl)

      go : (b : Bound) → is_nested b ≡ true → Tells catalog s (says n statement b answer.Nested ∷ []) (seated a n (record (a.seats n) { noted = None }))
      go bound.Begin h = record {
        allowed = ((shows.vanished n node ∙ v, (refl, (t, holds_it s a shows n node t e, opened))), tt);
        shows = shown (λ (x : Transaction). open_by_begin x) same;
      }
      go (bound.Recover gone) h = record {
        allowed = ((shows.vanished n node ∙ v, (refl, (t, holds_it s a shows n node t e, opened))), tt);
        shows = shown (λ (x : Transaction). x) refl;
      }
      go bound.Commit h = absurd cc
      go bound.Rollback h = absurd cc
      go (bound.Select query) h = absurd cc
      go (bound.Change edit) h = absurd cc

  pub said_outside : (statement : ℕ) (b : Bound) → (a.seats n).vanished ≡ false → (a.seats n).held ≡ None → (a.seats n).outcome ≡ None
      → is_outside b ≡ true → Tells catalog s (says n statement b answer.Outside ∷ []) (seated a n (record (a.seats n) { noted = None }))
  said_outside statement b v none o outside = go b outside
    where
      go : (b : Bound) → is_outside b ≡ true → Tells catalog s (says n statement b answer.Outside ∷ []) (seated a n (record (a.seats n) { noted = None }))
      go bound.Commit h = record {
        allowed = ((shows.vanished n node ∙ v, (refl, shows.held n node ∙ none, shows.outcome n node ∙ o)), tt);
        shows = said_alone s a shows n node (λ (x : Transaction). x) none;
      }
      go bound.Rollback h = record {
        allowed = ((shows.vanished n node ∙ v, (refl, shows.held n node ∙ none, shows.outcome n node ∙ o)), tt);
        shows = said_alone s a shows n node (λ (x : Transaction). x) none;
      }
      go bound.Begin h = absurd cc
      go (bound.Recover gone) h = absurd cc
      go (bound.Select query) h = absurd cc
      go (bound.Change edit) h = absurd cc

  pub said_there : (statement gone : ℕ) → (a.seats n).vanished ≡ false → (a.seats n).held ≡ None
      → Tells catalog s (says n statement (bound.Recover gone) (answer.There gone) ∷ []) (seated a n (record (a.seats n) { noted = None }))
  said_there statement gone v none = record {
    allowed = ((shows.vanished n node ∙ v, (refl, refl, shows.held n node ∙ none)), tt);
    shows = said_alone s a shows n node (λ (x : Transaction). x) none;
  }

  pub said_recovered : (statement gone : ℕ) → (a.seats n).vanished ≡ false → (a.seats n).held ≡ None → 1 ≤ gone → (a.seats gone).held ≡ None
      → Tells catalog s (says n statement (bound.Recover gone) (answer.Recovered gone) ∷ []) (seated a n (record (a.seats n) { noted = None }))
  said_recovered statement gone v none one free = record {
    allowed = ((shows.vanished n node ∙ v, (refl, refl, shows.held n node ∙ none, none_is_lost)), tt);
    shows = said_alone s a shows n node (λ (x : Transaction). x) none;
  }
    where
      none_is_lost : none_lost s gone ≡ true
      none_is_lost =
          not_from_false (list_any (λ (t : Transaction). (t.node == gone) && is_lost t.phase) s.held)
          (none_any (λ (t : Transaction). (t.node == gone) && is_lost t.phase) s.held
          (weaker (λ (t : Transaction). (t.node == gone) ≡ false) (λ (t : Transaction). ((t.node == gone) && is_lost t.phase) ≡ false)
          (λ t h. and_left (t.node == gone) (is_lost t.phase) h) s.held
          (none_passes (λ (t : Transaction). t.node == gone) s.held (shows.held gone one ∙ free))))

  -- on whatever tables that have the rows of the transaction's first commits
  pub said_select : (statement : ℕ) (query : Query) (told : Answer) (answered : Bool) (t : Transaction)
      → (a.seats n).vanished ≡ false → (a.seats n).held ≡ Some t → takes_statement answered t ≡ true
      → Proper catalog s → ((tables : Tables) → AreHome catalog tables → ((k : Key) → finmap.get tables k ≡ view t.first k a.commits) → SelectAnswers query (laid_over tables t.own) told)
      → Tells catalog s (entry.Said n (bound.Select query) (record { statement = statement; answer = told; answered = answered }) ∷ [])
      (seated a n (record (a.seats n) { noted = if answered then None else (a.seats n).noted; held = Some (keep_answer told answered t) }))
  said_select statement query told answered t v e takes proper means = record {
    allowed = (
      (
        shows.vanished n node ∙ v,
        (t, holds_it s a shows n node t e, (takes, means (tables_after (take t.first s.commits)) (tables_home catalog s proper t.first) (tables_shown s a shows t.first))),
      ),
      tt,
    );
    shows = said_turned s a shows n node (keep_answer told answered) answered t (keep_answer told answered t) e refl (kept_node told answered t) (kept_tid told answered t);
  }

  pub said_change : (statement : ℕ) (edit : Edit) (told : Answer) (own : List Write) (answered : Bool) (t : Transaction)
      → (a.seats n).vanished ≡ false → (a.seats n).held ≡ Some t → takes_statement answered t ≡ true
      → Proper catalog s → ((tables : Tables) → AreHome catalog tables → ((k : Key) → finmap.get tables k ≡ view t.first k a.commits) → Changes catalog edit tables t.own told own)
      → Tells catalog s (entry.Said n (bound.Change edit) (record { statement = statement; answer = told; answered = answered }) ∷ [])
      (seated a n (record (a.seats n) {
        noted = if answered then None else (a.seats n).noted;
        held = Some (record (keep_answer told answered t) { own = own });
      }))
  said_change statement edit told own answered t v e takes proper means =
      let change : Changes catalog edit (tables_after (take t.first s.commits)) t.own told own =
      means (tables_after (take t.first s.commits)) (tables_home catalog s proper t.first) (tables_shown s a shows t.first) in
      record {
        allowed = ((shows.vanished n node ∙ v, (t, holds_it s a shows n node t e, (takes, change.answer))), tt);
        shows = said_turned s a shows n node (take_statement catalog s (bound.Change edit) (record { statement = statement; answer = told; answered = answered })) answered t
            (record (keep_answer told answered t) { own = own }) e
            (ap (λ (ws : List Write). record (keep_answer told answered t) { own = ws }) change.leaves) (kept_node told answered t) (kept_tid told answered t);
      }

  pub tried : (t : Transaction) → (a.seats n).held ≡ Some t → may_try t ≡ true
      → Tells catalog s (entry.Tried t.tid ∷ []) (holding a n (try_commit t))
  tried t e may = record {
    allowed = ((t, held_by_number s a shows n node t e, may), tt);
    shows = held_turned s a shows n node (λ (x : Transaction). try_commit x) t e refl refl;
  }

  -- the rival is committed after the snapshot, or another transaction that tried
  pub clashed : (rival at : ℕ) (t : Transaction) (w : Write) → (a.seats n).held ≡ Some t → is_trying t.phase ≡ true → (rival == t.tid) ≡ false
      → slice_get t.own at ≡ Some w
      → CommittedLater t.first rival w.key a.commits
      ⊎ ((i : ℕ) × (g : Transaction) × (1 ≤ i) × ((a.seats i).held ≡ Some g) × (g.tid ≡ rival) × (g.tried ≡ true) × (is_written w.key g.own ≡ true))
      → Tells catalog s (entry.Clash t.tid rival at ∷ []) (holding a n (meet_rival rival t))
  clashed rival at t w e trying other here there = record {
    allowed = ((t, held_by_number s a shows n node t e, (trying, other, (w, here, is_there))), tt);
    shows = held_turned s a shows n node (λ (x : Transaction). meet_rival rival x) t e refl refl;
  }
    where
      committed_one : Commit → Bool
      committed_one c = (c.tid == rival) && is_written w.key c.writes

      held_one : Transaction → Bool
      held_one h = (h.tid == rival) && h.tried && is_written w.key h.own

      is_there : is_rival s t rival w.key ≡ true
      is_there =
          ⊎_elim
          (λ (later : CommittedLater t.first rival w.key a.commits).
          or_left (list_any committed_one (drop t.first s.commits)) (list_any held_one s.held)
          (ap (λ (cs : List Commit). list_any committed_one (drop t.first cs)) shows.commits ∙ later_any t.first rival w.key a.commits later))
          (λ (h : (i : ℕ) × (g : Transaction) × (1 ≤ i) × ((a.seats i).held ≡ Some g) × (g.tid ≡ rival) × (g.tried ≡ true) × (is_written w.key g.own ≡ true)).
          or_right (list_any committed_one (drop t.first s.commits)) (list_any held_one s.held)
          (any_found (λ (x : Transaction). x.node == h.0) held_one s.held h.1 (shows.held h.0 h.2 ∙ h.3)
          (all_three (h.1.tid == rival) h.1.tried (is_written w.key h.1.own) (eq-eqb h.1.tid rival h.4) h.5 h.6)))
          there

  pub committed : (t : Transaction) → (a.seats n).held ≡ Some t → is_ready t ≡ true
      → ((k : Key) → is_written k t.own ≡ true → Clear t.first k a.commits)
      → Tells catalog s (entry.Committed t.tid ∷ []) (record {
        commits = record { tid = t.tid; writes = t.own } ∷ a.commits;
        begun = a.begun;
        seats = put n (ended (a.seats n) t (commit_answer t.unanswered)) a.seats;
      })
  committed t e ready clear =
      let c : Commit = record { tid = t.tid; writes = t.own } in
      let alone : list_any (writes_one t.own) (drop t.first s.commits) ≡ false =
      ap (λ (cs : List Commit). list_any (writes_one t.own) (drop t.first cs)) shows.commits ∙ none_later t.first t.own a.commits clear in
      record {
        allowed = ((t, held_by_number s a shows n node t e, (ready, not_from_false (list_any (writes_one t.own) (drop t.first s.commits)) alone)), tt);
        shows = subst (λ (o : Option Transaction). Shows (commit o s) (record {
          commits = c ∷ a.commits;
          begun = a.begun;
          seats = put n (ended (a.seats n) t (commit_answer t.unanswered)) a.seats;
        })) (sym (held_by_number s a shows n node t e))
            (end_turned s a shows n node t (commit_answer t.unanswered) (s.commits ++ c ∷ []) (c ∷ a.commits) e
            (ap (λ (cs : List Commit). cs ++ c ∷ []) shows.commits ∙ sym (reverse_cons c a.commits)));
      }

  pub undone : (t : Transaction) → (a.seats n).held ≡ Some t → may_undo t ≡ true
      → Tells catalog s (entry.Undone t.tid ∷ []) (seated a n (ended (a.seats n) t (undo_answer t.rival t.unanswered)))
  undone t e may = record {
    allowed = ((t, held_by_number s a shows n node t e, may), tt);
    shows = subst (λ (o : Option Transaction). Shows (undo o s) (seated a n (ended (a.seats n) t (undo_answer t.rival t.unanswered)))) (sym (held_by_number s a shows n node t e))
        (end_turned s a shows n node t (undo_answer t.rival t.unanswered) s.commits a.commits e shows.commits);
  }

  pub answered : (statement : ℕ) (told : Answer) → (a.seats n).outcome ≡ Some told
      → Tells catalog s (entry.Answered n statement told ∷ []) (seated a n (record (a.seats n) { noted = None; outcome = None }))
  answered statement told e = record {
    allowed = (shows.outcome n node ∙ e, tt);
    shows = turned_alone s a shows n node (record s { nodes = put_node (idle n) s.nodes }) (record (a.seats n) { noted = None; outcome = None }) refl refl refl refl
        (held_unchanged s a shows n node (a.seats n).held refl) (node_put s.nodes n (idle n) refl);
  }

  pub vanished : (ending : Ending) → (a.seats n).vanished ≡ false
      → Tells catalog s (entry.Vanished n ending ∷ []) (seated a n (left (a.seats n)))
  vanished ending v = record {
    allowed = (shows.vanished n node ∙ v, tt);
    shows = turned s (after catalog s (entry.Vanished n ending)) a shows n (left (a.seats n)) a.commits a.begun shows.commits shows.begun
        (subst (λ (o : Option Transaction). HeldTurn s.held (map (lose n) s.held) s.begun n (lost o)) (shows.held n node) (held_lost s.held s.begun n shows.tidy))
        (node_put s.nodes n (idle n) refl) (vanished_here s.vanished n) (λ m one ne. vanished_other s.vanished n m node one ne);
  }
