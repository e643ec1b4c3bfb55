-- The moves of statements: what a running node's own transaction reads and says, and how its commit or its undoing begins.
use Rattle.std.proofs.Common.{◌≡◌, ℕ, ◌<◌, Bool, true, false, List, [], ◌∷◌, Option, Some, None, refl, sym, ap, ◌∙◌, subst, arith}
use Rattle.std.specs.Prelude.{if◌then◌else◌}
use Rattle.std.specs.FinMap as finmap
use Rattle.std.specs.List.{AllByRecursion}
use Rattle.tl_values.specs.declared.value.Value.{Value}
use Rattle.tl_algebra.specs.declared.edit.Edit.{Edit}
use Rattle.tl_algebra.specs.declared.query.Query.{Query}
use Rattle.tl_logrec.specs.declared.entry.Flag.TheVariants as flag
use Rattle.tl_write.specs.declared.write.Write.{Write}
use Rattle.tl_write.specs.Own.{is_written}
use Rattle.tl_write.specs.Tables.{Tables, laid_over}
use Rattle.tl_isolation.specs.declared.bound.Bound.{Bound}
use Rattle.tl_isolation.specs.declared.bound.Bound.TheVariants as bound
use Rattle.tl_isolation.specs.declared.entry.Answer.{Answer}
use Rattle.tl_isolation.specs.declared.entry.Answer.TheVariants as answer
use Rattle.tl_isolation.specs.declared.state.Commit.{Commit}
use Rattle.tl_isolation.specs.declared.state.Transaction.{Transaction}
use Rattle.tl_isolation.specs.declared.state.TxnPhase.{TxnPhase}
use Rattle.tl_isolation.specs.declared.state.TxnPhase.TheVariants as phase
use Rattle.tl_isolation.specs.Meaning.{SelectAnswers}
use Rattle.tl_isolation.specs.State.{is_fresh, is_open}
use Rattle.tl_isolation.specs.Step.{keep_answer, may_try, may_undo, takes_statement}
use Rattle.tl_isolation.specs.Tables.{AreHome, Suits}
use Rattle.tl_protocol.specs.Store.{Key, CommitsCell, LogCell, log_stamp, put, row_shown}
use Rattle.tl_protocol.specs.World.{Stage, Fresh, Opened, Answering, Txn, Fact, Covers, Holds, Attempt, Commit as ToCommit, Undo, Phase, Idle, Live, Trying, Closing, NoDuty, World, At, Agrees}
use Rattle.tl_protocol.specs.Move.{Changes, Look, Cover, SayBegun, SayNested, SayOutside, SaySelect, SayChange, There, Try, TryNothing, GiveUp, is_empty, is_nested, is_outside, may_commit, may_give_up, takes_statements}
use Rattle.tl_protocol.specs.Next.{after_saying, fact_of, log_cell}
use Rattle.tl_protocol.specs.Told.{is_answered, says, says_in}
use Rattle.tl_protocol.proofs.Ledger.{Ledger, Seat, seated, view}
use Rattle.tl_protocol.proofs.Shown.{Tells}
use Rattle.tl_protocol.proofs.Finished.{commits_of}
use Rattle.tl_protocol.proofs.Showing.{said_begun, said_change, said_nested, said_outside, said_select, said_there, tried}
use Rattle.tl_protocol.proofs.Inv.{Base, Blank, NoLog, CommitLog, Nothing, Core, FactOk, Ghost, IdleOk, Inv, Kept, LiveOk, NodeOk, SeenOk, Shared, TxnOk, base, held_txn, nodes_of, nowhere, own_stored, shared, unless_lost, vanished_of}
use Rattle.tl_protocol.proofs.Later.{grows_refl, holds_same}
use Rattle.tl_protocol.proofs.Frames.{link_own, link_same, put_one, put_same}
use Rattle.tl_protocol.proofs.Owner.{txn_sees}
use Rattle.tl_protocol.proofs.Steps.{active_at, core_log_seat, core_seat, core_turn, node_at, not_vanished, numbered, seated_vanished, with_phase}

-- the transaction with these own writes, in this stage
abbrev staged : Txn → List Write → Stage → Txn
staged t own stage = record t { own = own; stage = stage }

-- BEGIN opens the transaction in which nothing was said
begun_so : (n first : ℕ) (t : Txn) (stage : Stage) → stage ≡ Fresh
    → record (held_txn n first (staged t t.own stage) phase.Live false None) { opened = true } ≡ held_txn n first (staged t t.own Opened) phase.Live false None
begun_so n first t Fresh e = refl
begun_so n first t Opened e = cc
begun_so n first t (Answering told) e = cc

fresh_so : (n first : ℕ) (t : Txn) (stage : Stage) → stage ≡ Fresh → is_fresh (held_txn n first (staged t t.own stage) phase.Live false None) ≡ true
fresh_so n first t Fresh e = refl
fresh_so n first t Opened e = cc
fresh_so n first t (Answering told) e = cc

open_so : (n first : ℕ) (t : Txn) (stage : Stage) → stage ≡ Opened → is_open (held_txn n first (staged t t.own stage) phase.Live false None) ≡ true
open_so n first t Fresh e = cc
open_so n first t Opened e = refl
open_so n first t (Answering told) e = cc

takes_so : (n first : ℕ) (t : Txn) (stage : Stage) → takes_statements stage ≡ true
    → takes_statement (is_answered stage) (held_txn n first (staged t t.own stage) phase.Live false None) ≡ true
takes_so n first t Fresh e = refl
takes_so n first t Opened e = refl
takes_so n first t (Answering told) e = cc

-- the answer of a statement waits for the end, or was given at once
select_so : (n first : ℕ) (t : Txn) (said : Answer) (stage : Stage) → takes_statements stage ≡ true
    → keep_answer said (is_answered stage) (held_txn n first (staged t t.own stage) phase.Live false None)
    ≡ held_txn n first (staged t t.own (after_saying said stage)) phase.Live false None
select_so n first t said Fresh e = refl
select_so n first t said Opened e = refl
select_so n first t said (Answering before) e = cc

change_so : (n first : ℕ) (t : Txn) (own : List Write) (said : Answer) (stage : Stage) → takes_statements stage ≡ true
    → record (keep_answer said (is_answered stage) (held_txn n first (staged t t.own stage) phase.Live false None)) { own = own }
    ≡ held_txn n first (staged t own (after_saying said stage)) phase.Live false None
change_so n first t own said Fresh e = refl
change_so n first t own said Opened e = refl
change_so n first t own said (Answering before) e = cc

try_so : (n first : ℕ) (t : Txn) (stage : Stage) → may_commit stage ≡ true → may_try (held_txn n first (staged t t.own stage) phase.Live false None) ≡ true
try_so n first t Fresh e = cc
try_so n first t Opened e = refl
try_so n first t (Answering told) e = e

give_up_so : (n first : ℕ) (t : Txn) (stage : Stage) → may_give_up stage ≡ true → may_undo (held_txn n first (staged t t.own stage) phase.Live false None) ≡ true
give_up_so n first t Fresh e = cc
give_up_so n first t Opened e = refl
give_up_so n first t (Answering told) e = e

-- tables that have the rows of the first commits have those that were read
agrees : (first : ℕ) (cs : List Commit) (tables : Tables) → ((k : Key) → finmap.get tables k ≡ view first k cs) → (facts : List Fact)
    → AllByRecursion (FactOk first cs) facts → Agrees tables facts
agrees first cs tables h [] r = tt
agrees first cs tables h (f ∷ fs) r = (holds_same _ _ h f r.0, agrees first cs tables h fs r.1)

-- the transaction goes on, held as it now is
txn_so : (s : Shared) (logs : ℕ → Option LogCell) (i : ℕ) (t : Txn) (held now : Option Transaction) (p q : TxnPhase) (tried : Bool) (own : List Write) (stage : Stage)
    → (o : TxnOk s i t nowhere held p false None) → now ≡ Some (held_txn i o.first (staged t own stage) q tried None)
    → TxnOk (record s { logs = logs }) i (staged t own stage) nowhere now q tried None
txn_so s logs i t held now p q tried own stage o e = record {
  m = o.m;
  known = o.known;
  first = o.first;
  first_is = o.first_is;
  begun = o.begun;
  unfinished = o.unfinished;
  is_held = e;
  stands = λ k h. cc;
  only = o.only;
}

-- where nothing is written no version of it stands anywhere
own_nowhere : (t : Txn) (own : List Write) → is_empty own ≡ true → (k : Key) → is_written k own ≡ false
own_nowhere t [] e k = refl
own_nowhere t (o ∷ os) e k = cc

txn_empty : (s : Shared) (i : ℕ) (t : Txn) (held now : Option Transaction) (p q : TxnPhase) (tried : Bool)
    → (o : TxnOk s i t nowhere held p false None) → is_empty t.own ≡ true → now ≡ Some (held_txn i o.first t q tried None)
    → TxnOk s i t (own_stored t) now q tried None
txn_empty s i t held now p q tried o empty e = record {
  m = o.m;
  known = o.known;
  first = o.first;
  first_is = o.first_is;
  begun = o.begun;
  unfinished = o.unfinished;
  is_held = e;
  stands = λ k h. let n = own_nowhere t t.own empty k in cc (n, h);
  only = λ k f h m. let n = o.only k f h m in cc n;
}

seen_now : (c : CommitsCell) → SeenOk c c
seen_now c = record { before = omega arith; same = λ e. refl }

-- the seat alone
core_seat_alone : (b : Base) (a : Ledger) (g : Ghost) → Core b a g → (i : ℕ) (seat : Seat) → NodeOk (shared b g) i (g.phases i) seat
    → Core b (seated a i seat) g
core_seat_alone b a g c i seat h = record {
  cells = c.cells;
  nodes = put_one (λ j x. NodeOk (shared b g) j (g.phases j) x) i seat a.seats h (λ j ne. c.nodes j);
  active = c.active;
  done = c.done;
  managers = c.managers;
  numbers = c.numbers;
  commits = c.commits;
  distinct = c.distinct;
  opens = c.opens;
  taken = c.taken;
  begun = c.begun;
  logs = c.logs;
}

-- the facts of a live transaction, in the phase p as it is held
record LiveNow (s : Shared) (i : ℕ) (t : Txn) (facts : List Fact) (held : Option Transaction) (p : TxnPhase) : Type 0 where
  pub txn : TxnOk s i t nowhere held p false None
  pub log : s.logs t.tid ≡ None
  pub reads : AllByRecursion (FactOk txn.first (commits_of s.finished)) facts

module _ (w : World) (a : Ledger) (g : Ghost) (v : Inv w a g) where
  -- the facts of a running node's live transaction
  live_at : (n : ℕ) (t : Txn) (facts : List Fact) → At w n (Live t facts) → LiveNow (shared (base w) g) n t facts (a.seats n).held phase.Live
  live_at n t facts at =
      let l : LiveOk (shared (base w) g) n t facts (a.seats n) = node_at w a g v n (Live t facts) at in
      let here : LiveNow (shared (base w) g) n t facts (a.seats n).held (unless_lost (a.seats n).vanished phase.Live) =
      record { txn = l.txn; log = l.log; reads = l.reads } in
      subst (λ b. LiveNow (shared (base w) g) n t facts (a.seats n).held (unless_lost b phase.Live)) (not_vanished w a g v n at.runs) here

  pub live_ok : (n : ℕ) (t : Txn) (facts : List Fact) → At w n (Live t facts) → LiveOk (shared (base w) g) n t facts (a.seats n)
  live_ok n t facts at = node_at w a g v n (Live t facts) at

  -- its snapshot shows what its first commits left
  pub sees_at : (n : ℕ) (t : Txn) (facts : List Fact) (at : At w n (Live t facts)) (k : Key)
      → row_shown t.snapshot (w.cells k).versions ≡ view (live_ok n t facts at).txn.first k (commits_of g.finished)
  sees_at n t facts at k =
      let l = live_ok n t facts at in
      txn_sees (base w) a g v.core n t nowhere (a.seats n).held (unless_lost (a.seats n).vanished phase.Live) false None l.txn (active_at w a g v n (Live t facts) at) k
      ∙ ap (view l.txn.first k) v.core.commits

  -- one fact more
  know_kept : (n : ℕ) (t : Txn) (facts : List Fact) (at : At w n (Live t facts)) (fact : Fact)
      → FactOk (live_ok n t facts at).txn.first (commits_of g.finished) fact
      → Inv (record w { phases = put n (Live t (fact ∷ facts)) w.phases }) a (with_phase g n (Live t (fact ∷ facts)))
  know_kept n t facts at fact h =
      let l = live_ok n t facts at in
      let p : Phase = Live t (fact ∷ facts) in
      let active = active_at w a g v n (Live t facts) at in
      record {
        core = core_turn (base w) a g v.core n p (record { txn = l.txn; log = l.log; reads = (h, l.reads) }) active;
        link = link_own (base w) (base w) (nodes_of w) (vanished_of a) (vanished_of a) g.phases g.menders n p (grows_refl w.cells w.commits) at.runs (λ i. refl) v.link;
      }

  pub cover_kept : (n : ℕ) (t : Txn) (facts : List Fact) (covers : Key → List Value → Bool) (looked : Key → Bool) (at : At w n (Live t facts))
      (right : Holds (λ k. row_shown t.snapshot (w.cells k).versions) (Covers covers looked)) → Kept w a g (Cover n t facts covers looked at right)
  cover_kept n t facts covers looked at right = record {
    ledger = a;
    ghost = with_phase g n (Live t (Covers covers looked ∷ facts));
    inv = know_kept n t facts at (Covers covers looked) (λ k row e. right k row (sees_at n t facts at k ∙ e));
    tells = λ s h proper. record { allowed = tt; shows = h };
    ended = λ s q. refl;
    catalog = refl;
  }

  pub look_kept : (n : ℕ) (t : Txn) (facts : List Fact) (looked : Key → Bool) (at : At w n (Live t facts)) → Kept w a g (Look n t facts looked at)
  look_kept n t facts looked at = record {
    ledger = a;
    ghost = with_phase g n (Live t (fact_of w t.snapshot looked ∷ facts));
    inv = know_kept n t facts at (fact_of w t.snapshot looked) (λ k e. sym (sees_at n t facts at k));
    tells = λ s h proper. record { allowed = tt; shows = h };
    ended = λ s q. refl;
    catalog = refl;
  }

  -- the node's transaction, live in another stage, with another note
  restaged : (n : ℕ) (t : Txn) (facts : List Fact) (at : At w n (Live t facts)) (own : List Write) (stage : Stage) (note : Option ℕ)
      → Inv (record w { phases = put n (Live (staged t own stage) []) w.phases })
      (seated a n (record (a.seats n) { noted = note; held = Some (held_txn n (live_at n t facts at).txn.first (staged t own stage) phase.Live false None) }))
      (with_phase g n (Live (staged t own stage) []))
  restaged n t facts at own stage note =
      let p : Phase = Live (staged t own stage) [] in
      let o = (live_at n t facts at).txn in
      let now : Option Transaction = Some (held_txn n o.first (staged t own stage) phase.Live false None) in
      let seat : Seat = record (a.seats n) { noted = note; held = now } in
      record {
        core = core_seat (base w) a g v.core n p seat (record {
          txn = subst (λ b. TxnOk (shared (base w) g) n (staged t own stage) nowhere now (unless_lost b phase.Live) false None) (sym (not_vanished w a g v n at.runs))
              (txn_so (shared (base w) g) w.logs n t (a.seats n).held now phase.Live phase.Live false own stage o refl);
          log = (live_at n t facts at).log;
          reads = tt;
        }) (active_at w a g v n (Live t facts) at);
        link = link_own (base w) (base w) (nodes_of w) (vanished_of a) (vanished_of (seated a n seat)) g.phases g.menders n p (grows_refl w.cells w.commits) at.runs
            (seated_vanished a n seat refl) v.link;
      }

  pub say_begun_kept : (n statement : ℕ) (t : Txn) (facts : List Fact) (at : At w n (Live t facts)) (fresh : t.stage ≡ Fresh)
      → Kept w a g (SayBegun n statement t facts at fresh)
  say_begun_kept n statement t facts at fresh =
      let o = (live_at n t facts at).txn in
      record {
        ledger = seated a n (record (a.seats n) { noted = None; held = Some (held_txn n o.first (staged t t.own Opened) phase.Live false None) });
        ghost = with_phase g n (Live (staged t t.own Opened) []);
        inv = restaged n t facts at t.own Opened None;
        tells = λ s h proper.
            subst (λ (x : Transaction). Tells w.catalog s (says n statement bound.Begin answer.Begun ∷ []) (seated a n (record (a.seats n) { noted = None; held = Some x })))
            (begun_so n o.first t t.stage fresh)
            (said_begun w.catalog s a h n (numbered w a g v n at.runs) statement (held_txn n o.first t phase.Live false None) (not_vanished w a g v n at.runs) o.is_held
            (fresh_so n o.first t t.stage fresh));
        ended = λ s q. refl;
        catalog = refl;
      }

  -- tables that have what its first commits left agree with what it read
  agrees_at : (n : ℕ) (t : Txn) (facts : List Fact) (at : At w n (Live t facts)) (tables : Tables)
      → ((k : Key) → finmap.get tables k ≡ view (live_at n t facts at).txn.first k a.commits) → Agrees tables facts
  agrees_at n t facts at tables h =
      let l = live_at n t facts at in
      agrees l.txn.first (commits_of g.finished) tables (λ k. h k ∙ ap (view l.txn.first k) v.core.commits) facts l.reads

  pub say_select_kept : (n statement : ℕ) (query : Query) (said : Answer) (t : Txn) (facts : List Fact) (at : At w n (Live t facts))
      (takes : takes_statements t.stage ≡ true) (means : (tables : Tables) → AreHome w.catalog tables → Agrees tables facts → SelectAnswers query (laid_over tables t.own) said)
      → Kept w a g (SaySelect n statement query said t facts at takes means)
  say_select_kept n statement query said t facts at takes means =
      let o = (live_at n t facts at).txn in
      let note : Option ℕ = if is_answered t.stage then None else (a.seats n).noted in
      record {
        ledger = seated a n (record (a.seats n) { noted = note; held = Some (held_txn n o.first (staged t t.own (after_saying said t.stage)) phase.Live false None) });
        ghost = with_phase g n (Live (staged t t.own (after_saying said t.stage)) []);
        inv = restaged n t facts at t.own (after_saying said t.stage) note;
        tells = λ s h proper.
            subst (λ (x : Transaction). Tells w.catalog s (says_in t.stage n statement (bound.Select query) said ∷ []) (seated a n (record (a.seats n) { noted = note; held = Some x })))
            (select_so n o.first t said t.stage takes)
            (said_select w.catalog s a h n (numbered w a g v n at.runs) statement query said (is_answered t.stage) (held_txn n o.first t phase.Live false None)
            (not_vanished w a g v n at.runs) o.is_held (takes_so n o.first t t.stage takes) proper
            (λ tables home e. means tables home (agrees_at n t facts at tables e)));
        ended = λ s q. refl;
        catalog = refl;
      }

  pub say_change_kept : (n statement : ℕ) (edit : Edit) (said : Answer) (own : List Write) (t : Txn) (facts : List Fact) (at : At w n (Live t facts))
      (takes : takes_statements t.stage ≡ true) (suits : Suits w.catalog edit)
      (means : (tables : Tables) → AreHome w.catalog tables → Agrees tables facts → Changes w.catalog edit tables t.own said own)
      → Kept w a g (SayChange n statement edit said own t facts at takes suits means)
  say_change_kept n statement edit said own t facts at takes suits means =
      let o = (live_at n t facts at).txn in
      let note : Option ℕ = if is_answered t.stage then None else (a.seats n).noted in
      record {
        ledger = seated a n (record (a.seats n) { noted = note; held = Some (held_txn n o.first (staged t own (after_saying said t.stage)) phase.Live false None) });
        ghost = with_phase g n (Live (staged t own (after_saying said t.stage)) []);
        inv = restaged n t facts at own (after_saying said t.stage) note;
        tells = λ s h proper.
            subst (λ (x : Transaction). Tells w.catalog s (says_in t.stage n statement (bound.Change edit) said ∷ []) (seated a n (record (a.seats n) { noted = note; held = Some x })))
            (change_so n o.first t own said t.stage takes)
            (said_change w.catalog s a h n (numbered w a g v n at.runs) statement edit said own (is_answered t.stage) (held_txn n o.first t phase.Live false None)
            (not_vanished w a g v n at.runs) o.is_held (takes_so n o.first t t.stage takes) proper
            (λ tables home e. means tables home (agrees_at n t facts at tables e)));
        ended = λ s q. refl;
        catalog = refl;
      }

  -- a node says something of its own, and no transaction changes
  unnoted : (n : ℕ) → NodeOk (shared (base w) g) n (g.phases n) (record (a.seats n) { noted = None })
      → Inv w (seated a n (record (a.seats n) { noted = None })) g
  unnoted n h =
      let seat : Seat = record (a.seats n) { noted = None } in
      record {
        core = core_seat_alone (base w) a g v.core n seat h;
        link = link_same (base w) (base w) (nodes_of w) (vanished_of a) (vanished_of (seated a n seat)) g.phases g.menders (grows_refl w.cells w.commits)
            (seated_vanished a n seat refl) v.link;
      }

  -- the phase of a running node in the invariant
  phase_at : (n : ℕ) (p : Phase) → At w n p → p ≡ g.phases n
  phase_at n p at = sym (v.link.runs n at.runs ∙ at.so_far)

  idle_at : (n : ℕ) → At w n Idle → IdleOk (shared (base w) g) n (a.seats n)
  idle_at n at = node_at w a g v n Idle at

  idle_unnoted : (n : ℕ) → At w n Idle → Inv w (seated a n (record (a.seats n) { noted = None })) g
  idle_unnoted n at =
      unnoted n (subst (λ p. NodeOk (shared (base w) g) n p (record (a.seats n) { noted = None })) (phase_at n Idle at)
      (record { free = (idle_at n at).free; answered = (idle_at n at).answered }))

  pub say_nested_kept : (n statement : ℕ) (b : Bound) (t : Txn) (facts : List Fact) (at : At w n (Live t facts)) (opened : t.stage ≡ Opened)
      (nested : is_nested b ≡ true) → Kept w a g (SayNested n statement b t facts at opened nested)
  say_nested_kept n statement b t facts at opened nested =
      let o = (live_at n t facts at).txn in
      let l : LiveOk (shared (base w) g) n t facts (a.seats n) = node_at w a g v n (Live t facts) at in
      record {
        ledger = seated a n (record (a.seats n) { noted = None });
        ghost = g;
        inv = unnoted n (subst (λ p. NodeOk (shared (base w) g) n p (record (a.seats n) { noted = None })) (phase_at n (Live t facts) at)
            (record { txn = l.txn; log = l.log; reads = l.reads }));
        tells = λ s h proper.
            said_nested w.catalog s a h n (numbered w a g v n at.runs) statement b (held_txn n o.first t phase.Live false None) (not_vanished w a g v n at.runs)
            o.is_held (open_so n o.first t t.stage opened) nested;
        ended = λ s q. refl;
        catalog = refl;
      }

  pub say_outside_kept : (n statement : ℕ) (b : Bound) (at : At w n Idle) (outside : is_outside b ≡ true) → Kept w a g (SayOutside n statement b at outside)
  say_outside_kept n statement b at outside =
      let i = idle_at n at in
      let runs = not_vanished w a g v n at.runs in
      record {
        ledger = seated a n (record (a.seats n) { noted = None });
        ghost = g;
        inv = idle_unnoted n at;
        tells = λ s h proper. said_outside w.catalog s a h n (numbered w a g v n at.runs) statement b runs i.free.not_held (i.answered runs) outside;
        ended = λ s q. refl;
        catalog = refl;
      }

  pub there_kept : (n statement gone : ℕ) (at : At w n Idle) (free : w.recoveries n ≡ NoDuty) (none : w.notices gone ≡ None)
      → Kept w a g (There n statement gone at free none)
  there_kept n statement gone at free none = record {
    ledger = seated a n (record (a.seats n) { noted = None });
    ghost = g;
    inv = idle_unnoted n at;
    tells = λ s h proper. said_there w.catalog s a h n (numbered w a g v n at.runs) statement gone (not_vanished w a g v n at.runs) (idle_at n at).free.not_held;
    ended = λ s q. refl;
    catalog = refl;
  }

  pub try_kept : (n stamp : ℕ) (t : Txn) (facts : List Fact) (at : At w n (Live t facts)) (may : may_commit t.stage ≡ true)
      (some : is_empty t.own ≡ false) (absent : log_stamp (w.logs t.tid) ≡ 0) (above : 0 < stamp)
      → Kept w a g (Try n stamp t facts at may some absent above)
  try_kept n stamp t facts at may some absent above =
      let o = (live_at n t facts at).txn in
      let cell : LogCell = log_cell stamp n flag.Trying t in
      let attempt : Attempt = record { txn = t; log = stamp; stored = λ k. false } in
      let p : Phase = Trying attempt None in
      let now : Option Transaction = Some (held_txn n o.first t phase.Trying true None) in
      let seat : Seat = record (a.seats n) { held = now } in
      let b : Base = record (base w) { logs = put t.tid (Some cell) w.logs } in
      record {
        ledger = seated a n seat;
        ghost = with_phase g n p;
        inv = record {
          core = core_log_seat (base w) a g v.core n p t.tid (Some cell) seat o.begun (record {
            txn = subst (λ lost. TxnOk (shared b g) n t nowhere now (unless_lost lost phase.Trying) true None)
                (sym (not_vanished w a g v n at.runs))
                (txn_so (shared (base w) g) b.logs n t (a.seats n).held now phase.Live phase.Trying true t.own t.stage o refl);
            log = put_same t.tid (Some cell) w.logs;
            hand = tt;
          }) (active_at w a g v n (Live t facts) at);
          link = link_own (base w) b (nodes_of w) (vanished_of a) (vanished_of (seated a n seat)) g.phases g.menders n p (grows_refl w.cells w.commits) at.runs
              (seated_vanished a n seat refl) v.link;
        };
        tells = λ s h proper.
            tried w.catalog s a h n (numbered w a g v n at.runs) (held_txn n o.first t phase.Live false None) o.is_held (try_so n o.first t t.stage may);
        ended = λ s q. refl;
        catalog = refl;
      }

  pub try_nothing_kept : (n : ℕ) (t : Txn) (facts : List Fact) (at : At w n (Live t facts)) (may : may_commit t.stage ≡ true)
      (none : is_empty t.own ≡ true) → Kept w a g (TryNothing n t facts at may none)
  try_nothing_kept n t facts at may none =
      let o = (live_at n t facts at).txn in
      let p : Phase = Closing t ToCommit (Some w.commits) in
      let now : Option Transaction = Some (held_txn n o.first t phase.Trying true None) in
      let seat : Seat = record (a.seats n) { held = now } in
      record {
        ledger = seated a n seat;
        ghost = with_phase g n p;
        inv = record {
          core = core_seat (base w) a g v.core n p seat (record {
            txn = subst (λ b. TxnOk (shared (base w) g) n t (own_stored t) now (unless_lost b phase.Trying) true None) (sym (not_vanished w a g v n at.runs))
                (txn_empty (shared (base w) g) n t (a.seats n).held now phase.Live phase.Trying true o none refl);
            log = subst (CommitLog n t) (sym (live_at n t facts at).log) (Nothing n t none);
            hand = seen_now w.commits;
          }) (active_at w a g v n (Live t facts) at);
          link = link_own (base w) (base w) (nodes_of w) (vanished_of a) (vanished_of (seated a n seat)) g.phases g.menders n p (grows_refl w.cells w.commits) at.runs
              (seated_vanished a n seat refl) v.link;
        };
        tells = λ s h proper.
            tried w.catalog s a h n (numbered w a g v n at.runs) (held_txn n o.first t phase.Live false None) o.is_held (try_so n o.first t t.stage may);
        ended = λ s q. refl;
        catalog = refl;
      }

  pub give_up_kept : (n : ℕ) (t : Txn) (facts : List Fact) (at : At w n (Live t facts)) (may : may_give_up t.stage ≡ true)
      → Kept w a g (GiveUp n t facts at may)
  give_up_kept n t facts at may =
      let p : Phase = Closing t (Undo None) (Some w.commits) in
      let o = (live_at n t facts at).txn in
      record {
        ledger = a;
        ghost = with_phase g n p;
        inv = record {
          core = core_turn (base w) a g v.core n p (record {
            p = phase.Live;
            tried = false;
            txn = o;
            runs = λ e. refl;
            gives_up = give_up_so n o.first t t.stage may;
            log = subst (Blank n t) (sym (live_at n t facts at).log) (NoLog n t);
            hand = seen_now w.commits;
          }) (active_at w a g v n (Live t facts) at);
          link = link_own (base w) (base w) (nodes_of w) (vanished_of a) (vanished_of a) g.phases g.menders n p (grows_refl w.cells w.commits) at.runs (λ i. refl) v.link;
        };
        tells = λ s h proper. record { allowed = tt; shows = h };
        ended = λ s q. refl;
        catalog = refl;
      }
