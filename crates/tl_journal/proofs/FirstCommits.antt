-- Of the commits so far the snapshot of a transaction that begins has the first ones.
use Rattle.std.proofs.Common.{◌≡◌, inl, inr, ⊎_elim, ℕ, zero, suc, ◌+◌, ◌<◌, ◌≤◌, ◌^◌, true, false, List, [], ◌∷◌, ◌++◌, length, take, drop, reverse, Some, sym, ap, ◌∙◌, subst, arith}
use Rattle.std.specs.Prelude.{nat_lt}
use Rattle.std.specs.List.{AllByRecursion}
use Rattle.std.proofs.lemmas.Bool.{cases_lt, le-ltb, lt-ltb}
use Rattle.std.proofs.lemmas.List.{length-append, length-reverse, length_push, take_all, take-append-le, drop-append-le, drop_all}
use Rattle.tl_lemmas.proofs.Lists.{all_push, reverse_cons}
use Rattle.tl_base.specs.declared.place.Settings.{Settings}
use Rattle.tl_descriptor.specs.Tids.{TidSet, has}
use Rattle.tl_manager.specs.declared.request.ManagerReply.TheVariants as manager
use Rattle.tl_manager.specs.declared.request.ManagerRequest.{ManagerRequest}
use Rattle.tl_manager.specs.declared.request.ManagerRequest.TheVariants as asked
use Rattle.tl_manager.specs.declared.request.Reply.{Reply}
use Rattle.tl_manager.specs.declared.request.Reply.TheVariants as reply
use Rattle.tl_manager.specs.Floor.{newer}
use Rattle.tl_schema.specs.declared.catalog.Setup.{Setup}
use Rattle.tl_isolation.specs.declared.entry.Entry.{Entry}
use Rattle.tl_isolation.specs.declared.script.Script.{Script}
use Rattle.tl_isolation.specs.declared.script.Session.{Session}
use Rattle.tl_isolation.specs.declared.state.Commit.{Commit}
use Rattle.tl_isolation.specs.declared.state.SiState.{SiState}
use Rattle.tl_isolation.specs.History.{state_after}
use Rattle.tl_isolation.specs.Script.{setup_of}
use Rattle.tl_protocol.specs.World.{Fact, Txn, World}
use Rattle.tl_protocol.specs.Run.{Layout}
use Rattle.tl_protocol.proofs.Finished.{Finished, Fits, Snap, commits_of, firsts}
use Rattle.tl_protocol.proofs.Inv.{Ghost, Inv}
use Rattle.tl_protocol.proofs.Laid.{count_turned}
use Rattle.tl_protocol.proofs.Ledger.{Ledger}
use Rattle.tl_protocol.proofs.Reached.{reached}
use Rattle.tl_protocol.proofs.Sets.{count_is, fits}
use Rattle.tl_journal.specs.declared.event.Event.{Event}
use Rattle.tl_journal.specs.Ask.{Ask, LoadCommits, StoreCommits, LoadLog, StoreLog, LoadRecord, StoreRecord, ReadPage, DrawNumbers, AskManager, Told}
use Rattle.tl_journal.specs.Asks.{asks}
use Rattle.tl_journal.specs.Bytes.{heard, home_of, place_of, written}
use Rattle.tl_journal.specs.Journal.{IsCall, IsEvent, IsPost, entries_told, has_vanished, node_after, session_of}
use Rattle.tl_journal.specs.Law.{AreFirst, IsRun}
use Rattle.tl_journal.specs.Node.{Node, owed_by}
use Rattle.tl_journal.specs.Reads.{Reads}
use Rattle.tl_journal.specs.Served.{Answers, Parts, Serves, parts_of}
use Rattle.tl_journal.proofs.Asking.{may_ask, newer_snap}
use Rattle.tl_journal.proofs.Heeded.{heeded, is_call}
use Rattle.tl_journal.proofs.Journals.{stood_at}
use Rattle.tl_journal.proofs.Logs.{along_at, at_event, manager_replies}
use Rattle.tl_journal.proofs.ManagerServes.{MayAsk}
use Rattle.tl_journal.proofs.Meets.{Before}
use Rattle.tl_journal.proofs.Opens.{layout_of}
use Rattle.tl_journal.proofs.Posted.{before_stood, home_among}
use Rattle.tl_journal.proofs.Present.{ReadsFor}

-- ---- a set that fits the commits has the first ones

abbrev IsIn : TidSet → Commit → Type 0
IsIn set c = has set c.tid ≡ true

abbrev IsOut : TidSet → Commit → Type 0
IsOut set c = has set c.tid ≡ false

-- of these commits the set has the first n and no others
abbrev HasFirst : TidSet → ℕ → List Commit → Type 0
HasFirst set n commits = AllByRecursion (IsIn set) (take n commits) × AllByRecursion (IsOut set) (drop n commits)

-- one commit more
first_push : (set : TidSet) (n : ℕ) (commits : List Commit) (c : Commit) → has set c.tid ≡ nat_lt (length commits) n → HasFirst set n commits
    → HasFirst set n (commits ++ c ∷ [])
first_push set n commits c h first =
    let longer : length (commits ++ c ∷ []) ≡ length commits + 1 = length_push commits c in
    ⊎_elim
    (λ (less : length commits < n). (
      subst (AllByRecursion (IsIn set)) (sym (take_all n (commits ++ c ∷ []) (omega arith)))
          (all_push (IsIn set) commits c (subst (AllByRecursion (IsIn set)) (take_all n commits (omega arith)) first.0) (h ∙ lt-ltb (length commits) n less)),
      subst (AllByRecursion (IsOut set)) (sym (drop_all n (commits ++ c ∷ []) (omega arith))) tt,
    ))
    (λ (more : n ≤ length commits). (
      subst (AllByRecursion (IsIn set)) (sym (take-append-le n commits (c ∷ []) more)) first.0,
      subst (AllByRecursion (IsOut set)) (sym (drop-append-le n commits (c ∷ []) more))
          (all_push (IsOut set) (drop n commits) c first.1 (h ∙ le-ltb (length commits) n more)),
    ))
    (cases_lt (length commits) n)

first_fits : (set : TidSet) (n : ℕ) (commits : List Commit) → Fits set n commits → HasFirst set n (reverse commits)
first_fits set zero [] f = (tt, tt)
first_fits set (suc n) [] f = (tt, tt)
first_fits set n (c ∷ commits) f =
    subst (HasFirst set n) (sym (reverse_cons c commits))
    (first_push set n (reverse commits) c (f.0 ∙ ap (λ k. nat_lt k n) (sym (length-reverse commits))) (first_fits set n commits f.1))

-- a set of those that finished first has the first commits
snap_first : (set : TidSet) (finished : List Finished) (commits : List Commit) → Snap set finished → commits ≡ reverse (commits_of finished)
    → AreFirst set commits
snap_first set finished commits s e =
    subst (AreFirst set) (sym e)
    (subst (λ n. HasFirst set n (reverse (commits_of finished)))
    (sym (count_turned set (commits_of finished) ∙ count_is set s.m finished s.known.agree))
    (first_fits set (firsts s.m finished) (commits_of finished) (fits set s.m finished s.known.agree)))

-- ---- the snapshot is a set of those that finished first

same_snapshot : (tid other : ℕ) (snapshot set floor mark : TidSet) → Told (manager.Began tid snapshot floor) ≡ Told (manager.Began other set mark) → set ≡ snapshot
same_snapshot tid other snapshot set floor mark e = cc

module _ (w : World) (a : Ledger) (g : Ghost) (v : Inv w a g) (settings : Settings) where
  -- it is the newer one of the manager's copy and the set that the node has seen
  began_snap : (n m : ℕ) (request : ManagerRequest) (after : Parts) (tid : ℕ) (snapshot floor : TidSet)
      → MayAsk (λ s. Snap s g.finished) settings (parts_of w) n m request → Answers settings (parts_of w) m request (Told (manager.Began tid snapshot floor)) after
      → Snap snapshot g.finished
  began_snap n m (asked.Begin node seen) after tid snapshot floor may (inl h) =
      subst (λ s. Snap s g.finished) (same_snapshot tid h.0 snapshot (newer (w.copies m) seen) floor h.1 h.2)
      (newer_snap w a g v (w.copies m) seen (v.core.managers.copy_known m) may.2)
  began_snap n m (asked.Begin node seen) after tid snapshot floor may (inr h) = let e = h.0 in absurd cc
  began_snap n m (asked.Range low high) after tid snapshot floor may h = let e = h.0 in absurd cc
  began_snap n m (asked.End ended) after tid snapshot floor may h = let e = h.0 in absurd cc
  began_snap n m (asked.Orphans node) after tid snapshot floor may (inl h, same) = let e = h.2 in absurd cc
  began_snap n m (asked.Orphans node) after tid snapshot floor may (inr h, same) = let e = h.1 in absurd cc
  began_snap n m (asked.Floor seen) after tid snapshot floor may h = let e = h.0.1 in absurd cc
  began_snap n m (asked.Post node also) after tid snapshot floor may h = absurd h
  began_snap n m (asked.Claim node) after tid snapshot floor may (inl h) = let e = h.1 in absurd cc
  began_snap n m (asked.Claim node) after tid snapshot floor may (inr h) = let e = h.4 in absurd cc

module _ (R : Txn → List Fact → Reads → Type 0) (layout : Layout) (setup : Setup) (settings : Settings) (w : World) (state : SiState) (entries : List Entry)
    (n : ℕ) (node : Node) (b : Before R layout setup settings w state entries n node) (after : Parts) (tid : ℕ) (snapshot floor : TidSet) where
  -- it is a manager that tells it
  told_snap : (ask : Ask) → asks settings setup.catalog node ≡ Some ask → IsCall (place_of settings ask) (written ask) (reply.Manager (manager.Began tid snapshot floor))
      → Serves settings (parts_of w) n ask (heard ask (reply.Manager (manager.Began tid snapshot floor))) after
      → Snap snapshot (reached b.opening b.reach).ghost.finished
  told_snap (AskManager m request) is call serves =
      let c = reached b.opening b.reach in
      began_snap w c.ledger c.ghost c.inv settings n m request after tid snapshot floor
      (may_ask R layout setup settings w state entries n node b m request is) serves
  told_snap LoadCommits is call serves = absurd call
  told_snap (StoreCommits stamp set) is call serves = absurd call
  told_snap (LoadLog of) is call serves = absurd call
  told_snap (StoreLog stamp entry) is call serves = absurd call
  told_snap (LoadRecord key) is call serves = absurd call
  told_snap (StoreRecord key stamp versions) is call serves = absurd call
  told_snap (ReadPage shard from before) is call serves = absurd call
  told_snap DrawNumbers is call serves = absurd call

-- ---- in a run

module _ (script : Script) (settings : Settings) (past : List Event) (e : Event) (rest : List Event) (run : IsRun script settings (past ++ e ∷ rest))
    (tid : ℕ) (snapshot floor : TidSet) (told : e.reply ≡ reply.Manager (manager.Began tid snapshot floor)) where
  by_request : (session : Session) → session_of script e.node ≡ Some session → has_vanished past e.node ≡ false
      → (ask : Ask) → asks settings script.catalog (node_after settings script past session) ≡ Some ask → e.place ≡ place_of settings ask → e.request ≡ written ask
      → AreFirst snapshot (state_after (setup_of script settings) (entries_told past)).commits
  by_request session is_session runs ask is at_place bytes =
      let layout : Layout = layout_of script settings in
      let setup : Setup = setup_of script settings in
      let state : SiState = state_after (setup_of script settings) (entries_told past) in
      let node : Node = node_after settings script past session in
      let s = stood_at script settings past (e ∷ rest) run in
      let stands = s.nodes e.node session is_session runs in
      let least : 1 ≤ e.node = subst (λ (i : ℕ). 1 ≤ i) stands.is_so.number stands.fits.least in
      let b = before_stood layout script settings past s run.bound.opening e.node session is_session runs least in
      let c = reached b.opening b.reach in
      let few : length (past ++ e ∷ rest) < 2 ^ 32 = run.few in
      let both : length (past ++ e ∷ rest) ≡ length past + length (e ∷ rest) = length-append past (e ∷ rest) in
      let heeds = heeded layout script settings past e rest s run.bound run.shards (omega arith) run.trace.served session is_session runs b ask is at_place bytes in
      let call : IsCall (place_of settings ask) (written ask) e.reply =
      is_call e.place (place_of settings ask) e.request (written ask) e.reply at_place bytes
      (at_event (λ (x : Event). IsCall x.place x.request x.reply) past e rest run.trace.served.calls) in
      snap_first snapshot c.ghost.finished state.commits
      (told_snap (ReadsFor settings script.catalog node.todo) layout setup settings s.world state (entries_told past) e.node node b heeds.after tid snapshot floor ask is
      (subst (IsCall (place_of settings ask) (written ask)) told call)
      (subst (λ (r : Reply). Serves settings (parts_of s.world) e.node ask (heard ask r) heeds.after) told heeds.serves))
      (c.shows.commits ∙ ap reverse c.inv.core.commits)

  -- a death notice is answered otherwise
  not_posting : IsPost script settings past e → ⊥
  not_posting p =
      let home : ℕ = home_of settings e.node in
      let notice : ManagerRequest = asked.Post e.node (owed_by (node_after settings script past p.session).doing) in
      let other : manager.Began tid snapshot floor ≡ manager.Posted =
      manager_replies script settings past e rest home notice (manager.Began tid snapshot floor) run.trace.served (home_among settings e.node run.managers)
      p.stands_at p.notice told in
      cc

  by_event : IsEvent script settings past e → AreFirst snapshot (state_after (setup_of script settings) (entries_told past)).commits
  by_event (inl r) = by_request r.session r.is_session r.runs r.ask r.asked r.stands_at r.bytes
  by_event (inr (inl p)) = absurd (not_posting p)
  by_event (inr (inr c)) = by_request c.session c.is_session c.runs c.ask c.asked c.stands_at c.bytes

  pub first_commits : AreFirst snapshot (state_after (setup_of script settings) (entries_told past)).commits
  first_commits = by_event (along_at (IsEvent script settings) [] past e rest run.trace.events_are)
