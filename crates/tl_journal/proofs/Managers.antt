-- What the logs of the managers say is what the protocol's managers hold.
use Rattle.std.proofs.Common.{◌≡◌, ℕ, ◌+◌, ◌<◌, ◌≤◌, Bool, true, false, cond, inl, inr, List, [], ◌∷◌, ◌++◌, drop, filter, length, Option, Some, None, refl, sym, ap, ◌∙◌, subst, append-nil, arith}
use Rattle.std.specs.Prelude.{◌==◌, not, if◌then◌else◌}
use Rattle.std.specs.List.{AllByRecursion}
use Rattle.std.proofs.lemmas.Bool.{eq-eqb, eqb-true, eqb-false, ne_eqb}
use Rattle.std.proofs.lemmas.Bool.Decides.{nat_tests}
use Rattle.std.proofs.lemmas.List.Concat.{flat_map-append}
use Rattle.tl_lemmas.proofs.Lists.{weaker}
use Rattle.tl_base.specs.NodeSet.{has_node}
use Rattle.tl_base.specs.declared.node.NodeSet.{NodeSet}
use Rattle.tl_base.specs.declared.place.PlaceId.TheVariants as place
use Rattle.tl_base.specs.declared.place.Settings.{Settings}
use Rattle.tl_schema.specs.declared.catalog.Setup.{Setup}
use Rattle.tl_descriptor.specs.Tids.{TidSet}
use Rattle.tl_manager.specs.declared.active.Active.{Active}
use Rattle.tl_manager.specs.declared.request.ManagerReply.TheVariants as told
use Rattle.tl_manager.specs.declared.request.ManagerRequest.TheVariants as asked
use Rattle.tl_manager.specs.declared.request.Reply.TheVariants as reply
use Rattle.tl_manager.specs.declared.request.Request.TheVariants as request
use Rattle.tl_manager.specs.Serves.{Call, active_after, begun, begun_by, brought, brought_by, copy_after, ends, gives, left, notice_after, posted, posted_by, shown, union_of}
use Rattle.tl_manager.proofs.Log.{active-push, copy-push, posted-push}
use Rattle.tl_manager.proofs.Numbers.{same_begun, same_brought}
use Rattle.tl_protocol.specs.Run.{Layout, opening_world}
use Rattle.tl_protocol.specs.Store.{log_stamp, put}
use Rattle.tl_protocol.specs.World.{Number, Undrawn, Carried, Opening, Ready}
use Rattle.tl_protocol.specs.Next.{is_drawn, numbered}
use Rattle.tl_protocol.proofs.Frames.{put_one}
use Rattle.tl_journal.specs.declared.event.Event.{Event}
use Rattle.tl_journal.specs.Ask.{Ask, LoadCommits, StoreCommits, LoadLog, StoreLog, LoadRecord, StoreRecord, ReadPage, DrawNumbers, AskManager, Heard}
use Rattle.tl_journal.specs.Bytes.{home_of, place_of}
use Rattle.tl_journal.specs.Journal.{manager_call, manager_log}
use Rattle.tl_journal.specs.Law.{AreActive, IsActive, tids_in}
use Rattle.tl_journal.specs.Served.{AreNodes, Parts, Serves, Stores, parts_of, stored_commits, stored_log, stored_record}
use Rattle.tl_journal.proofs.Meets.{AreDistinct, members}
use Rattle.tl_protocol.proofs.Managers.{drawn_above}
use Rattle.tl_journal.proofs.Logs.{manager_more}

-- ---- the invariant

-- the numbers that a manager has left are ready there, each once
pub record AreReady (numbers : ℕ → Number) (m : ℕ) (tids : List ℕ) : Type 0 where
  pub each : AllByRecursion (λ t. numbers t ≡ Ready m) tids
  pub all : (t : ℕ) → numbers t ≡ Ready m → members tids t ≡ true
  pub distinct : AreDistinct tids

abbrev pub IsSmall : NodeSet → Type 0
IsSmall set = (d : ℕ) → 16 < d → has_node set d ≡ false

-- there is no notice, or it is of these nodes, none of them above 16
abbrev pub NoticeIs : Option (ℕ → Bool) → Option NodeSet → Type 0
NoticeIs None None = Unit {0}
NoticeIs None (Some set) = ⊥
NoticeIs (Some nodes) None = ⊥
NoticeIs (Some nodes) (Some set) = AreNodes nodes set × IsSmall set

-- the protocol's manager is what its log says
pub record ManagerIs (settings : Settings) (log : List Call) (p : Parts) (m : ℕ) : Type 0 where
  pub copy : copy_after log ≡ p.copies m
  -- no number was given that had not been brought
  pub enough : length (begun log) ≤ length (brought log)
  pub numbers : AreReady p.numbers m (left log)
  pub active : AreActive settings p.active m (active_after log)
  pub notices : (n : ℕ) → home_of settings n ≡ m → NoticeIs (p.notices n) (notice_after log n)

pub record ManagersAre (settings : Settings) (past : List Event) (p : Parts) : Type 0 where
  pub each : (m : ℕ) → m < settings.managers → ManagerIs settings (manager_log m past) p m

opening_ready : (m t : ℕ) → (if t == 0 then Opening else Undrawn) ≡ Ready m → ⊥
opening_ready m t = by (t == 0)
  where
    by : (b : Bool) → cond b Opening Undrawn ≡ Ready m → ⊥
    by true e = cc
    by false e = cc

pub opening_managers : (settings : Settings) (layout : Layout) (setup : Setup) → ManagersAre settings [] (parts_of (opening_world layout setup))
opening_managers settings layout setup = record {
  each = λ m l. record {
    copy = refl;
    enough = omega arith;
    numbers = record { each = tt; all = λ t h. absurd (opening_ready m t h); distinct = tt };
    active = record { each = tt; tids = λ n h. refl };
    notices = λ n h. tt;
  };
}

-- ---- what a manager doesn't see

-- the parts agree in what belongs to this manager
pub record Agrees (settings : Settings) (p q : Parts) (m : ℕ) : Type 0 where
  pub copy : p.copies m ≡ q.copies m
  pub numbers : (t : ℕ) → p.numbers t ≡ Ready m → q.numbers t ≡ Ready m
  pub back : (t : ℕ) → q.numbers t ≡ Ready m → p.numbers t ≡ Ready m
  pub active : (n : ℕ) → home_of settings n ≡ m → p.active n ≡ q.active n
  pub notices : (n : ℕ) → home_of settings n ≡ m → p.notices n ≡ q.notices n

pub agrees_itself : (settings : Settings) (p : Parts) (m : ℕ) → Agrees settings p p m
agrees_itself settings p m = record { copy = refl; numbers = λ t e. e; back = λ t e. e; active = λ n h. refl; notices = λ n h. refl }

pub active_agrees : (settings : Settings) (m : ℕ) (active other : ℕ → Option Active) (xs : List Active)
    → ((n : ℕ) → home_of settings n ≡ m → active n ≡ other n) → AreActive settings active m xs → AreActive settings other m xs
active_agrees settings m active other xs same v = record {
  each = weaker (IsActive settings active m) (IsActive settings other m) (λ x h. (sym (same x.node h.1) ∙ h.0, h.1)) xs v.each;
  tids = λ n h. v.tids n h ∙ ap tids_in (same n h);
}

-- the log is the same, and so are the parts of the manager
manager_agrees : (settings : Settings) (log : List Call) (p q : Parts) (m : ℕ) → Agrees settings p q m → ManagerIs settings log p m → ManagerIs settings log q m
manager_agrees settings log p q m same v = record {
  copy = v.copy ∙ same.copy;
  enough = v.enough;
  numbers = record { each = weaker (λ t. p.numbers t ≡ Ready m) (λ t. q.numbers t ≡ Ready m) same.numbers (left log) v.numbers.each; all = λ t h. v.numbers.all t (same.back t h); distinct = v.numbers.distinct };
  active = active_agrees settings m p.active q.active (active_after log) same.active v.active;
  notices = λ n h. subst (λ o. NoticeIs o (notice_after log n)) (same.notices n h) (v.notices n h);
}

-- an event that no manager has in its log
pub managers_agree : (settings : Settings) (past : List Event) (e : Event) (p q : Parts) → ((m : ℕ) → manager_call m e.place e.request e.reply ≡ [])
    → ((m : ℕ) → Agrees settings p q m) → ManagersAre settings past p → ManagersAre settings (past ++ e ∷ []) q
managers_agree settings past e p q none same v = record {
  each = λ m l.
      let log : manager_log m (past ++ e ∷ []) ≡ manager_log m past =
      manager_more m past e ∙ ap (λ (calls : List Call). manager_log m past ++ calls) (none m) ∙ append-nil (manager_log m past) in
      subst (λ (calls : List Call). ManagerIs settings calls q m) (sym log) (manager_agrees settings (manager_log m past) p q m (same m) (v.each m l));
}

-- the event is this call of the manager
pub record IsCall (e : Event) (m : ℕ) (c : Call) : Type 0 where
  pub at_place : e.place ≡ place.Manager m
  pub asked_so : e.request ≡ request.Manager c.request
  pub told_so : e.reply ≡ reply.Manager c.reply

pub call_is : (e : Event) (m : ℕ) (c : Call) → IsCall e m c → (j : ℕ) → manager_call j e.place e.request e.reply ≡ cond (m == j) (c ∷ []) []
call_is e m c i j = λ k. manager_call j (i.at_place k) (i.asked_so k) (i.told_so k)

-- an event that one manager has in its log, where the parts of the others agree
pub managers_after : (settings : Settings) (past : List Event) (e : Event) (p q : Parts) (m : ℕ) (c : Call) → IsCall e m c
    → ManagerIs settings (manager_log m past ++ c ∷ []) q m → ((j : ℕ) → (m ≡ j → ⊥) → Agrees settings p q j)
    → ManagersAre settings past p → ManagersAre settings (past ++ e ∷ []) q
managers_after settings past e p q m c i here others v = record {
  each = λ j l.
      subst (λ (calls : List Call). ManagerIs settings calls q j) (sym (manager_more j past e ∙ ap (λ (calls : List Call). manager_log j past ++ calls) (call_is e m c i j)))
      (by j (m == j) refl l);
}
  where
    by : (j : ℕ) (b : Bool) → (m == j) ≡ b → j < settings.managers → ManagerIs settings (manager_log j past ++ cond b (c ∷ []) []) q j
    by j true same l = subst (λ k. ManagerIs settings (manager_log k past ++ c ∷ []) q k) (eqb-true m j same) here
    by j false other l =
        subst (λ (calls : List Call). ManagerIs settings calls q j) (sym (append-nil (manager_log j past)))
        (manager_agrees settings (manager_log j past) p q j (others j (eqb-false m j other)) (v.each j l))

-- ---- an event at a shard

shard_no_call : (e : Event) (s : ℕ) → e.place ≡ place.Shard s → (m : ℕ) → manager_call m e.place e.request e.reply ≡ []
shard_no_call e s at_shard m = ap (λ at_place. manager_call m at_place e.request e.reply) at_shard

-- the managers' parts are the same
pub managers_stay : (settings : Settings) (past : List Event) (e : Event) (p q : Parts) (s : ℕ) → e.place ≡ place.Shard s
    → p.copies ≡ q.copies → p.numbers ≡ q.numbers → p.active ≡ q.active → p.notices ≡ q.notices
    → ManagersAre settings past p → ManagersAre settings (past ++ e ∷ []) q
managers_stay settings past e p q s at_shard copies numbers active notices v =
    managers_agree settings past e p q (shard_no_call e s at_shard) (λ m. record {
      copy = λ i. copies i m;
      numbers = λ t h. subst (λ (f : ℕ → Number). f t ≡ Ready m) numbers h;
      back = λ t h. subst (λ (f : ℕ → Number). f t ≡ Ready m) (sym numbers) h;
      active = λ n h i. active i n;
      notices = λ n h i. notices i n;
    }) v

undrawn_ready : (m : ℕ) → Undrawn ≡ Ready m → ⊥
undrawn_ready m e = cc

-- a number that is ready is none of those that are drawn
still_ready : (numbers : ℕ → Number) (counter n m t : ℕ) → ((u : ℕ) → counter < u → numbers u ≡ Undrawn) → numbers t ≡ Ready m
    → numbered counter (Carried n) numbers t ≡ Ready m
still_ready numbers counter n m t undrawn ready = by (is_drawn counter t) refl
  where
    by : (b : Bool) → is_drawn counter t ≡ b → cond b (Carried n) (numbers t) ≡ Ready m
    by true drawn = absurd (undrawn_ready m (sym (undrawn t (drawn_above counter t drawn)) ∙ ready))
    by false other = ready

was_ready : (numbers : ℕ → Number) (counter n m t : ℕ) → numbered counter (Carried n) numbers t ≡ Ready m → numbers t ≡ Ready m
was_ready numbers counter n m t = by (is_drawn counter t)
  where
    by : (b : Bool) → cond b (Carried n) (numbers t) ≡ Ready m → numbers t ≡ Ready m
    by true e = absurd cc
    by false e = e

-- the numbers above the counter are drawn
pub managers_stay_drawn : (settings : Settings) (past : List Event) (e : Event) (p : Parts) (s n counter : ℕ) → e.place ≡ place.Shard s
    → ((t : ℕ) → p.counter < t → p.numbers t ≡ Undrawn) → ManagersAre settings past p
    → ManagersAre settings (past ++ e ∷ []) (record p { counter = counter; numbers = numbered p.counter (Carried n) p.numbers })
managers_stay_drawn settings past e p s n counter at_shard undrawn v =
    managers_agree settings past e p (record p { counter = counter; numbers = numbered p.counter (Carried n) p.numbers }) (shard_no_call e s at_shard) (λ m. record {
      copy = refl;
      numbers = λ t h. still_ready p.numbers p.counter n m t undrawn h;
      back = λ t h. was_ready p.numbers p.counter n m t h;
      active = λ k h. refl;
      notices = λ k h. refl;
    }) v

pub record SameManagers (p q : Parts) : Type 0 where
  pub copies : p.copies ≡ q.copies
  pub numbers : p.numbers ≡ q.numbers
  pub active : p.active ≡ q.active
  pub notices : p.notices ≡ q.notices

abbrev pub is_of_shard : Ask → Bool
is_of_shard (AskManager m request) = false
is_of_shard ask = true

module _ (settings : Settings) (past : List Event) (e : Event) (p : Parts) (v : ManagersAre settings past p) where
  stays_so : (s : ℕ) (q : Parts) → e.place ≡ place.Shard s → p.copies ≡ q.copies → p.numbers ≡ q.numbers → p.active ≡ q.active → p.notices ≡ q.notices
      → (after : Parts) → after ≡ q → ManagersAre settings (past ++ e ∷ []) after
  stays_so s q at_shard copies numbers active notices after h =
      subst (λ (z : Parts). ManagersAre settings (past ++ e ∷ []) z) (sym h) (managers_stay settings past e p q s at_shard copies numbers active notices v)

  stays_or_stored : (s found stamp : ℕ) (heard : Heard) (done : ℕ → Parts) (after : Parts) → e.place ≡ place.Shard s → ((fresh : ℕ) → SameManagers p (done fresh))
      → Stores found stamp heard done p after → ManagersAre settings (past ++ e ∷ []) after
  stays_or_stored s found stamp heard done after at_shard same (inl h) =
      let z = same h.0 in stays_so s (done h.0) at_shard z.copies z.numbers z.active z.notices after h.4
  stays_or_stored s found stamp heard done after at_shard same (inr (inl h)) = stays_so s p at_shard refl refl refl refl after h.2
  stays_or_stored s found stamp heard done after at_shard same (inr (inr h)) = stays_so s p at_shard refl refl refl refl after h.1

  -- what the shards serve leaves what the managers hold
  pub managers_stay_served : (n : ℕ) (ask : Ask) (heard : Heard) (after : Parts) → is_of_shard ask ≡ true
      → e.place ≡ place_of settings ask → ((t : ℕ) → p.counter < t → p.numbers t ≡ Undrawn) → Serves settings p n ask heard after
      → ManagersAre settings (past ++ e ∷ []) after
  managers_stay_served n LoadCommits heard after o at_shard undrawn h = stays_so _ p at_shard refl refl refl refl after h.1
  managers_stay_served n (StoreCommits stamp set) heard after o at_shard undrawn h =
      stays_or_stored _ p.commits.stamp stamp heard (stored_commits p set) after at_shard (λ fresh. record { copies = refl; numbers = refl; active = refl; notices = refl }) h
  managers_stay_served n (LoadLog tid) heard after o at_shard undrawn h = stays_so _ p at_shard refl refl refl refl after h.1
  managers_stay_served n (StoreLog stamp entry) heard after o at_shard undrawn h =
      stays_or_stored _ (log_stamp (p.logs entry.tid)) stamp heard (stored_log p entry) after at_shard (λ fresh. record { copies = refl; numbers = refl; active = refl; notices = refl }) h
  managers_stay_served n (LoadRecord key) heard after o at_shard undrawn h = stays_so _ p at_shard refl refl refl refl after h.1
  managers_stay_served n (StoreRecord key stamp versions) heard after o at_shard undrawn h =
      stays_or_stored _ (p.cells key).stamp stamp heard (stored_record p key versions) after at_shard (λ fresh. record { copies = refl; numbers = refl; active = refl; notices = refl }) h
  managers_stay_served n (ReadPage shard from before) heard after o at_shard undrawn h = stays_so _ p at_shard refl refl refl refl after h.1
  managers_stay_served n DrawNumbers heard after o at_shard undrawn (inl h) =
      subst (λ (z : Parts). ManagersAre settings (past ++ e ∷ []) z) (sym h.2) (managers_stay_drawn settings past e p _ n (p.counter + 16) at_shard undrawn v)
  managers_stay_served n DrawNumbers heard after o at_shard undrawn (inr h) = stays_so _ p at_shard refl refl refl refl after h.1
  managers_stay_served n (AskManager m request) heard after o at_shard undrawn h = cc

-- ---- one call more: the numbers

pub left_is : (log : List Call) (c : Call) → brought_by c.request ≡ [] → begun_by c.request c.reply ≡ [] → left (log ++ c ∷ []) ≡ left log
left_is log c none nothing = λ i. drop (length (same_begun log c nothing i)) (same_brought log c none i)

pub still_enough : (log : List Call) (c : Call) → brought_by c.request ≡ [] → begun_by c.request c.reply ≡ [] → length (begun log) ≤ length (brought log)
    → length (begun (log ++ c ∷ [])) ≤ length (brought (log ++ c ∷ []))
still_enough log c none nothing before =
    let b : length (begun (log ++ c ∷ [])) ≡ length (begun log) = ap length (same_begun log c nothing) in
    let t : length (brought (log ++ c ∷ [])) ≡ length (brought log) = ap length (same_brought log c none) in
    omega arith

-- ---- one call more: the active transactions

filter_all : (xs : List Active) → filter (λ _. true) xs ≡ xs
filter_all [] = refl
filter_all (x ∷ xs) = ap {B = List Active} (λ rest. x ∷ rest) (filter_all xs)

-- a call that ends nothing
pub active_more : (log : List Call) (c : Call) → ((x : Active) → ends x.tid c.request ≡ false) → active_after (log ++ c ∷ []) ≡ active_after log ++ begun_by c.request c.reply
active_more log c none =
    active-push log c
    ∙ ap (λ (test : Active → Bool). filter test (active_after log) ++ begun_by c.request c.reply) (λ i x. not (none x i))
    ∙ ap (λ (xs : List Active). xs ++ begun_by c.request c.reply) (filter_all (active_after log))

-- ---- one call more: the notices

-- a call that gives no notice of the node
posted_more : (log : List Call) (c : Call) (n : ℕ) → gives n c.request c.reply ≡ false → posted n (log ++ c ∷ []) ≡ posted n log ++ posted_by n c.request
posted_more log c n none = posted-push n log c ∙ ap (λ t. cond t [] (posted n log) ++ posted_by n c.request) none

pub notice_same : (log : List Call) (c : Call) (n : ℕ) → gives n c.request c.reply ≡ false → posted_by n c.request ≡ [] → notice_after (log ++ c ∷ []) n ≡ notice_after log n
notice_same log c n none nothing =
    ap union_of (posted_more log c n none ∙ ap (λ (new : List NodeSet). posted n log ++ new) nothing ∙ append-nil (posted n log))

-- ---- a node vanishes

nothing_posted : (sets : List NodeSet) → union_of sets ≡ None → sets ≡ []
nothing_posted [] e = refl
nothing_posted (set ∷ sets) e = cc

no_notice : (o : Option NodeSet) → NoticeIs None o → o ≡ None
no_notice None h = refl
no_notice (Some set) h = absurd h

-- the first notice of a node is its set
pub notice_posted : (log : List Call) (n : ℕ) (also : NodeSet) → notice_after log n ≡ None
    → notice_after (log ++ record { request = asked.Post n also; reply = told.Posted } ∷ []) n ≡ Some also
notice_posted log n also none =
    let c : Call = record { request = asked.Post n also; reply = told.Posted } in
    ap union_of (posted_more log c n refl
    ∙ ap (λ (sets : List NodeSet). sets ++ posted_by n c.request) (nothing_posted (posted n log) none)
    ∙ ap (λ t. cond t (also ∷ []) []) (eq-eqb n n refl))

-- a call that says nothing of numbers and transactions
pub manager_silent : (settings : Settings) (log : List Call) (p : Parts) (copies : ℕ → TidSet) (notices : ℕ → Option (ℕ → Bool)) (m : ℕ) (c : Call)
    → brought_by c.request ≡ [] → begun_by c.request c.reply ≡ [] → ((x : Active) → ends x.tid c.request ≡ false)
    → shown (copy_after log) c.request c.reply ≡ copies m
    → ((n : ℕ) → home_of settings n ≡ m → NoticeIs (notices n) (notice_after (log ++ c ∷ []) n))
    → ManagerIs settings log p m → ManagerIs settings (log ++ c ∷ []) (record p { copies = copies; notices = notices }) m
manager_silent settings log p copies notices m c none nothing no_end same stands v = record {
  copy = copy-push log c ∙ same;
  enough = still_enough log c none nothing v.enough;
  numbers = subst (AreReady p.numbers m) (sym (left_is log c none nothing)) v.numbers;
  active = subst (AreActive settings p.active m)
      (sym (active_more log c no_end ∙ ap (λ (new : List Active). active_after log ++ new) nothing ∙ append-nil (active_after log))) v.active;
  notices = stands;
}

-- the notice of a node is posted, where there is none
pub post_stands : (settings : Settings) (past : List Event) (e : Event) (p : Parts) (n : ℕ) (also : NodeSet) (nodes : ℕ → Bool) → home_of settings n < settings.managers
    → e.place ≡ place.Manager (home_of settings n) → e.request ≡ request.Manager (asked.Post n also) → e.reply ≡ reply.Manager told.Posted
    → p.notices n ≡ None → AreNodes nodes also → IsSmall also
    → ManagersAre settings past p → ManagersAre settings (past ++ e ∷ []) (record p { notices = put n (Some nodes) p.notices })
post_stands settings past e p n also nodes l at_place asked_so told_so free are small v =
    managers_after settings past e p (record p { notices = put n (Some nodes) p.notices }) m c (record { at_place = at_place; asked_so = asked_so; told_so = told_so })
    (manager_silent settings log p p.copies (put n (Some nodes) p.notices) m c refl refl (λ x. refl) here.copy stands here)
    (λ j other. record {
      copy = refl;
      numbers = λ t h. h;
      back = λ t h. h;
      active = λ k h. refl;
      notices = λ k h. put_one (λ (i : ℕ) o. home_of settings i ≡ j → p.notices i ≡ o) n (Some nodes) p.notices (λ at_j. absurd (other at_j)) (λ i ne at_j. refl) k h;
    }) v
  where
    m : ℕ
    m = home_of settings n

    log : List Call
    log = manager_log m past

    c : Call
    c = record { request = asked.Post n also; reply = told.Posted }

    here : ManagerIs settings log p m
    here = v.each m l

    stands : (k : ℕ) → home_of settings k ≡ m → NoticeIs (put n (Some nodes) p.notices k) (notice_after (log ++ c ∷ []) k)
    stands = put_one (λ (k : ℕ) o. home_of settings k ≡ m → NoticeIs o (notice_after (log ++ c ∷ []) k)) n (Some nodes) p.notices
        (λ h. subst (NoticeIs (Some nodes)) (sym (notice_posted log n also (no_notice (notice_after log n) (subst (λ o. NoticeIs o (notice_after log n)) free (here.notices n h))))) (are, small))
        (λ k ne h. subst (NoticeIs (p.notices k)) (sym (notice_same log c k refl (ap (λ t. cond t (also ∷ []) []) (ne_eqb k n (λ same. ne (sym same)))))) (here.notices k h))
