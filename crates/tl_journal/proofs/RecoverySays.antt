-- At which replies a node says Recovered or There.
use Rattle.std.proofs.Common.{◌≡◌, ℕ, Bool, true, false, List, [], ◌∷◌, Option, Some, None, Result, Ok, Err, inl, inr, refl, sym, ap, subst}
use Rattle.std.specs.List.{AllByRecursion}
use Rattle.std.proofs.lemmas.Option.{same_Some}
use Rattle.tl_base.specs.declared.place.Settings.{Settings}
use Rattle.tl_schema.specs.declared.catalog.Catalog.{Catalog}
use Rattle.tl_schema.specs.declared.catalog.Setup.{Setup}
use Rattle.tl_values.specs.declared.value.Value.{Value}
use Rattle.tl_manager.specs.declared.request.ManagerReply.TheVariants as reply
use Rattle.tl_manager.specs.declared.request.ManagerRequest.TheVariants as asked
use Rattle.tl_versions.specs.Versions.{stranger}
use Rattle.tl_algebra.specs.declared.query.Query.{Query}
use Rattle.tl_write.specs.declared.fault.ChangeFault.{ChangeFault}
use Rattle.tl_write.specs.declared.fault.ChangeFault.TheVariants as fault
use Rattle.tl_write.specs.declared.write.Effect.{Effect}
use Rattle.tl_write.specs.declared.write.Write.{Write}
use Rattle.tl_isolation.specs.declared.bound.Bound.{Bound}
use Rattle.tl_isolation.specs.declared.bound.Bound.TheVariants as bound
use Rattle.tl_isolation.specs.declared.entry.Answer.{Answer}
use Rattle.tl_isolation.specs.declared.entry.Answer.TheVariants as answer
use Rattle.tl_isolation.specs.declared.entry.Entry.{Entry}
use Rattle.tl_isolation.specs.declared.entry.Entry.TheVariants as entry
use Rattle.tl_isolation.specs.declared.state.Commit.{Commit as Committed}
use Rattle.tl_isolation.specs.declared.state.SiState.{SiState}
use Rattle.tl_isolation.specs.Meaning.{QueryAnswers, change_of, told_of}
use Rattle.tl_plan.specs.Plan.{numbers_of}
use Rattle.tl_protocol.specs.Store.{CommitsCell}
use Rattle.tl_protocol.specs.World.{Fact, Txn, Loaded, Decision, Commit, Undo, World}
use Rattle.tl_protocol.specs.Run.{Layout}
use Rattle.tl_protocol.specs.Told.{finished_as, finished_so}
use Rattle.tl_journal.specs.Ask.{Ask, Heard, AskManager, Commits, Record, Stored, Told}
use Rattle.tl_journal.specs.Asks.{Course, ToBegin, ToRead, ToIdle, ToCommit, ToRecover, asks, course_in, course_outside}
use Rattle.tl_journal.specs.Bytes.{home_of}
use Rattle.tl_journal.specs.Memory.{unsaid}
use Rattle.tl_journal.specs.Node.{Storing, Claimed, Lost, Doing, Outside, Noted, Inside, Reading, Trying, Stores, Closing, Ending, Recovering, Finishing, EndingLost, Node}
use Rattle.tl_journal.specs.Reads.{Read, Reads, all_reads, begin_reads, tables_read}
use Rattle.tl_journal.specs.Says.{says_at, says_begun, says_closing, says_commit, says_doing, says_end_lost, says_ending, says_finishing, says_idle, says_inside, says_noted, says_outside, says_read, says_recovered, says_recovering, says_rival, says_statement, says_storing}
use Rattle.tl_journal.specs.Served.{Parts, Serves, parts_of}
use Rattle.tl_journal.specs.Takes.{MayMean, Means, MeansDoing, MeansIdle, MeansInside, MeansRead, after_reply, tables_seen, view_changed}
use Rattle.tl_journal.proofs.Begins.{so_far}
use Rattle.tl_journal.proofs.Claims.{GoesOn}
use Rattle.tl_journal.proofs.ClaimsMade.{claim_asked}
use Rattle.tl_journal.proofs.Meets.{Before}
use Rattle.tl_journal.proofs.NoneLeft.{NoneOf, closed_active, closed_none, next_none}

-- ---- what a statement other than RECOVER is answered

abbrev pub is_plain : Answer → Bool
is_plain (answer.Recovered gone) = false
is_plain (answer.There gone) = false
is_plain told = true

query_plain : (query : Query) (tables : List (List (List Value))) (told : Answer) → QueryAnswers query tables told → is_plain told ≡ true
query_plain query tables (answer.Recovered gone) h = absurd h
query_plain query tables (answer.There gone) h = absurd h
query_plain query tables told h = refl

as_plain : (is told : Answer) → is_plain is ≡ true → Some is ≡ Some told → is_plain told ≡ true
as_plain is told p e = subst (λ (a : Answer). is_plain a ≡ true) (same_Some is told e) p

refusal_plain : (refusal : ChangeFault) (told : Answer) → told_of (Err refusal) ≡ Some told → is_plain told ≡ true
refusal_plain fault.Overflow told e = as_plain answer.Overflow told refl e
refusal_plain fault.Null told e = as_plain answer.Null told refl e
refusal_plain fault.Long told e = as_plain answer.Long told refl e
refusal_plain fault.Duplicate told e = as_plain answer.Duplicate told refl e
refusal_plain fault.Many told e = as_plain answer.Many told refl e
refusal_plain fault.NoMemory told e = absurd cc

change_plain : (change : Result Effect ChangeFault) (told : Answer) → told_of change ≡ Some told → is_plain told ≡ true
change_plain (Ok effect) told e = as_plain (answer.Changed effect.count) told refl e
change_plain (Err refusal) told e = refusal_plain refusal told e

means_plain : (catalog : Catalog) (statement : Bound) (own : List Write) (rows : List (List (List Value))) (told : Answer) → Means catalog statement own rows told → is_plain told ≡ true
means_plain catalog (bound.Select query) own rows told h = query_plain query (tables_seen catalog (numbers_of query) own rows) told h
means_plain catalog (bound.Change edit) own rows told h = change_plain (change_of catalog edit (view_changed catalog edit own rows) own) told h
means_plain catalog bound.Begin own rows told h = absurd h
means_plain catalog bound.Commit own rows told h = absurd h
means_plain catalog bound.Rollback own rows told h = absurd h
means_plain catalog (bound.Recover gone) own rows told h = absurd h

-- ---- what holds of each answer that is said

module _ (F : ℕ → Answer → Type 0) where
  abbrev pub Tells : Entry → Type 0
  Tells (entry.Said n b said) = F n said.answer
  Tells e = Unit {0}

  abbrev pub AllTell : List Entry → Type 0
  AllTell es = AllByRecursion Tells es

  -- what is told where the node wants memory isn't said
  pub unsaid_tell : (es : List Entry) → AllTell (unsaid es)
  unsaid_tell [] = tt
  unsaid_tell (entry.Said n b said ∷ es) = unsaid_tell es
  unsaid_tell (entry.Clash tid rival at ∷ es) = unsaid_tell es
  unsaid_tell (e ∷ es) = (tt, unsaid_tell es)

  -- ---- a node that isn't at a RECOVER

  module _ (settings : Settings) (catalog : Catalog) (node : Node) (easy : (a : Answer) → is_plain a ≡ true → F node.number a) where
    statement_tells : (statement : Bound) (t : Txn) (told : Answer) → is_plain told ≡ true → AllTell (says_statement node statement t told ∷ [])
    statement_tells statement t told plain = (easy told plain, tt)

    begun_tells : (statement : Bound) → AllTell (says_begun node statement)
    begun_tells bound.Begin = (easy answer.Begun refl, tt)
    begun_tells statement = tt

    noted_tells : (commits : List Committed) (statement : Bound) (heard : Heard) → AllTell (says_noted commits node statement heard)
    noted_tells commits statement (Told (reply.Began tid snapshot floor)) = (tt, begun_tells statement)
    noted_tells commits statement heard = tt

    read_tells : (statement : Bound) (t : Txn) (o : Option Reads) (told : Answer) → MeansRead catalog statement t o told → AllTell (says_read node statement t o told)
    read_tells statement t None told h = tt
    read_tells statement t (Some after) told h = by after.left h
      where
        by : (left : List Read) → MeansRead catalog statement t (Some (record after { left = left })) told → AllTell (says_read node statement t (Some (record after { left = left })) told)
        by [] h = statement_tells statement t told (means_plain catalog statement t.own (tables_read (record after { left = [] })) told h)
        by (read ∷ left) h = tt

    idle_tells : (statement : Bound) (t : Txn) (heard : Heard) (told : Answer) → MeansIdle catalog statement t told → AllTell (says_idle node statement t heard told)
    idle_tells bound.Begin t (Told (reply.FloorIs floor)) told h = (easy answer.Nested refl, tt)
    idle_tells (bound.Recover gone) t (Told (reply.FloorIs floor)) told h = (easy answer.Nested refl, tt)
    idle_tells (bound.Select query) t (Told (reply.FloorIs floor)) told h = statement_tells (bound.Select query) t told (means_plain catalog (bound.Select query) t.own (tables_read (begin_reads (all_reads catalog (bound.Select query)))) told h)
    idle_tells (bound.Change edit) t (Told (reply.FloorIs floor)) told h = statement_tells (bound.Change edit) t told (means_plain catalog (bound.Change edit) t.own (tables_read (begin_reads (all_reads catalog (bound.Change edit)))) told h)
    idle_tells bound.Commit t (Told (reply.FloorIs floor)) told h = absurd h
    idle_tells bound.Rollback t (Told (reply.FloorIs floor)) told h = absurd h
    idle_tells statement t heard told h = tt

    commit_tells : (t : Txn) (heard : Heard) → AllTell (says_commit t heard)
    commit_tells t (Commits c) = (tt, tt)
    commit_tells t (Stored stamp) = (tt, tt)
    commit_tells t heard = tt

    inside_tells : (statement : Bound) (t : Txn) (course : Course) (heard : Heard) (told : Answer) → MeansInside settings catalog statement t course heard told
        → AllTell (says_inside settings node statement t course heard told)
    inside_tells statement t (ToRead reads) heard told h = read_tells statement t (after_reply settings t.snapshot reads reads.left heard) told h
    inside_tells statement t ToIdle heard told h = idle_tells statement t heard told h
    inside_tells statement t ToCommit heard told h = commit_tells t heard
    inside_tells statement t course heard told h = tt

    storing_tells : (s : Storing) (l : Option Loaded) (left : List Write) (heard : Heard) → AllTell (says_storing s l left heard)
    storing_tells s None (o ∷ left) (Record cell) = by (stranger s.txn.snapshot cell.versions)
      where
        by : (rival : Option ℕ) → AllTell (says_rival s rival)
        by None = tt
        by (Some rival) = (tt, tt)
    storing_tells s l left heard = tt

    finished_tells : (d : Decision) (tid : ℕ) → AllTell (finished_as d tid ∷ [])
    finished_tells Commit tid = (tt, tt)
    finished_tells (Undo rival) tid = (tt, tt)

    closing_tells : (t : Txn) (d : Decision) (c : Option CommitsCell) (heard : Heard) → AllTell (says_closing t d c heard)
    closing_tells t d (Some c) (Stored stamp) = finished_tells d t.tid
    closing_tells t d c heard = tt

    ending_tells : (told : Answer) (heard : Heard) → AllTell (says_ending node told heard)
    ending_tells told (Told reply.Ended) = (tt, tt)
    ending_tells told heard = tt

    lost_tells : (committed : Bool) (tid : ℕ) → AllTell (finished_so committed tid ∷ [])
    lost_tells true tid = (tt, tt)
    lost_tells false tid = (tt, tt)

    finishing_tells : (o : Lost) (committed : Bool) (c : Option CommitsCell) (heard : Heard) → AllTell (says_finishing o committed c heard)
    finishing_tells o committed (Some c) (Stored stamp) = lost_tells committed o.tid
    finishing_tells o committed c heard = tt

    -- ---- a RECOVER

    outside_tells : (statement : Bound) (course : Course) (heard : Heard)
        → ((gone : ℕ) → course ≡ ToRecover gone → heard ≡ Told reply.There → F node.number (answer.There gone)) → AllTell (says_outside node statement course heard)
    outside_tells statement ToBegin (Commits c) there = (tt, tt)
    outside_tells statement ToIdle (Told (reply.FloorIs floor)) there = (easy answer.Outside refl, tt)
    outside_tells statement (ToRecover gone) (Told reply.There) there = (there gone refl refl, tt)
    outside_tells statement course heard there = tt

    recovered_tells : (c : Claimed) (tids left : List ℕ) → (tids ≡ [] → left ≡ [] → F node.number (answer.Recovered c.node)) → AllTell (says_recovered node c tids left)
    recovered_tells c [] [] done = (done refl refl, tt)
    recovered_tells c tids left done = tt

    recovering_tells : (c : Claimed) (left : List ℕ) (heard : Heard)
        → ((d : ℕ) → left ≡ d ∷ [] → heard ≡ Told (reply.Orphaned []) → F node.number (answer.Recovered c.node)) → AllTell (says_recovering node c left heard)
    recovering_tells c (d ∷ left) (Told (reply.Orphaned tids)) done =
        recovered_tells c tids left (λ t l. done d (ap (λ x. d ∷ x) l) (ap (λ x. Told (reply.Orphaned x)) t))
    recovering_tells c left heard done = tt

    end_lost_tells : (c : Claimed) (o : Lost) (heard : Heard)
        → (o.others ≡ [] → c.left ≡ [] → heard ≡ Told reply.Ended → F node.number (answer.Recovered c.node)) → AllTell (says_end_lost node c o heard)
    end_lost_tells c o (Told reply.Ended) done = recovered_tells c o.others c.left (λ t l. done t l refl)
    end_lost_tells c o heard done = tt

-- ---- what holds where RECOVER is answered

-- the node says so of its own; Recovered once none of the claimed nodes has a transaction, There at a claim for which there is
-- no notice
abbrev pub Found : Settings → ℕ → Doing → Ask → Heard → Parts → ℕ → Answer → Type 0
Found settings number doing ask heard after n (answer.Recovered gone) = (n ≡ number) × GoesOn doing (λ c. (c.node ≡ gone) × NoneOf after.active c)
Found settings number doing ask heard after n (answer.There gone) =
    (n ≡ number) × (ask ≡ AskManager (home_of settings gone) (asked.Claim gone)) × (heard ≡ Told reply.There)
Found settings number doing ask heard after n told = Unit {0}

found_plain : (settings : Settings) (number : ℕ) (doing : Doing) (ask : Ask) (heard : Heard) (after : Parts) (n : ℕ) (a : Answer) → is_plain a ≡ true
    → Found settings number doing ask heard after n a
found_plain settings number doing ask heard after n (answer.Recovered gone) e = absurd cc
found_plain settings number doing ask heard after n (answer.There gone) e = absurd cc
found_plain settings number doing ask heard after n a e = tt

module _ (R : Txn → List Fact → Reads → Type 0) (layout : Layout) (setup : Setup) (settings : Settings) (w : World) (state : SiState) (entries : List Entry)
    (n : ℕ) (node : Node) (statement : Bound) (later : List Bound) (ask : Ask) (heard : Heard) (told : Answer) (after : Parts)
    (serves : Serves settings (parts_of w) n ask heard after) where
  abbrev AllFound : Doing → Type 0
  AllFound doing =
      AllTell (Found settings node.number doing ask heard after)
      (says_doing settings setup.catalog state.commits (so_far node (statement ∷ later) doing) statement doing heard told)

  -- the manager of the last node that is left has no transaction of it
  orphans_none : (c : Claimed) (d : ℕ) → Before R layout setup settings w state entries n (so_far node (statement ∷ later) (Recovering (record c { left = d ∷ [] })))
      → asks settings setup.catalog (so_far node (statement ∷ later) (Recovering (record c { left = d ∷ [] }))) ≡ Some ask → heard ≡ Told (reply.Orphaned [])
      → NoneOf after.active c
  orphans_none c d b is e =
      let its : AskManager (home_of settings d) (asked.Orphans d) ≡ ask = same_Some (AskManager (home_of settings d) (asked.Orphans d)) ask is in
      let s : Serves settings (parts_of w) n (AskManager (home_of settings d) (asked.Orphans d)) (Told (reply.Orphaned [])) after =
      subst (λ (h : Heard). Serves settings (parts_of w) n (AskManager (home_of settings d) (asked.Orphans d)) h after) e
      (subst (λ (a : Ask). Serves settings (parts_of w) n a heard after) (sym its) serves) in
      by s
    where
      by : Serves settings (parts_of w) n (AskManager (home_of settings d) (asked.Orphans d)) (Told (reply.Orphaned [])) after → NoneOf after.active c
      by (inl x, same) = absurd (let e = x.2 in cc)
      by (inr x, same) =
          subst (λ (p : Parts). NoneOf p.active c) (sym same)
          (next_none R layout setup settings w state entries n (so_far node (statement ∷ later) (Recovering (record c { left = d ∷ [] }))) b c d b.node_is.recovery x.0)

  -- so has that of the transaction in hand, once it is ended
  ended_none : (c : Claimed) (o : Lost) → Before R layout setup settings w state entries n (so_far node (statement ∷ later) (EndingLost (record c { left = [] }) o))
      → asks settings setup.catalog (so_far node (statement ∷ later) (EndingLost (record c { left = [] }) o)) ≡ Some ask → NoneOf after.active c
  ended_none c o b is =
      let here : Node = so_far node (statement ∷ later) (EndingLost (record c { left = [] }) o) in
      let its : AskManager (home_of settings o.node) (asked.End o.tid) ≡ ask = same_Some (AskManager (home_of settings o.node) (asked.End o.tid)) ask is in
      let s : Serves settings (parts_of w) n (AskManager (home_of settings o.node) (asked.End o.tid)) heard after =
      subst (λ (a : Ask). Serves settings (parts_of w) n a heard after) (sym its) serves in
      let x = closed_active R layout setup settings w state entries n here b (record c { left = [] }) o b.node_is.recovery in
      subst (λ (p : Parts). NoneOf p.active c) (sym (s.1 o.node x.0 x.1 x.2))
      (closed_none R layout setup settings w state entries n here b c o b.node_is.recovery)

  all_found : (doing : Doing) → Before R layout setup settings w state entries n (so_far node (statement ∷ later) doing)
      → asks settings setup.catalog (so_far node (statement ∷ later) doing) ≡ Some ask → MeansDoing settings setup.catalog statement doing heard told → AllFound doing
  all_found doing b is means = by doing b is means
    where
      easy : (doing : Doing) (a : Answer) → is_plain a ≡ true → Found settings node.number doing ask heard after node.number a
      easy doing a e = found_plain settings node.number doing ask heard after node.number a e

      by : (doing : Doing) → Before R layout setup settings w state entries n (so_far node (statement ∷ later) doing)
          → asks settings setup.catalog (so_far node (statement ∷ later) doing) ≡ Some ask → MeansDoing settings setup.catalog statement doing heard told → AllFound doing
      by Outside b is means =
          outside_tells (Found settings node.number Outside ask heard after) settings setup.catalog (so_far node (statement ∷ later) Outside) (easy Outside)
          statement (course_outside statement) heard (λ gone course there. (refl, claim_asked settings setup.catalog node statement later ask (course_outside statement) gone refl course is, there))
      by (Noted seen) b is means =
          noted_tells (Found settings node.number (Noted seen) ask heard after) settings setup.catalog (so_far node (statement ∷ later) (Noted seen)) (easy (Noted seen)) state.commits statement heard
      by (Inside t) b is means =
          inside_tells (Found settings node.number (Inside t) ask heard after) settings setup.catalog (so_far node (statement ∷ later) (Inside t)) (easy (Inside t))
          statement t (course_in setup.catalog t.stage statement) heard told means
      by (Reading t reads) b is means =
          read_tells (Found settings node.number (Reading t reads) ask heard after) settings setup.catalog (so_far node (statement ∷ later) (Reading t reads)) (easy (Reading t reads))
          statement t (after_reply settings t.snapshot reads reads.left heard) told means
      by (Trying t) b is means =
          commit_tells (Found settings node.number (Trying t) ask heard after) settings setup.catalog (so_far node (statement ∷ later) (Trying t)) (easy (Trying t)) t heard
      by (Stores s l) b is means =
          storing_tells (Found settings node.number (Stores s l) ask heard after) settings setup.catalog (so_far node (statement ∷ later) (Stores s l)) (easy (Stores s l)) s l s.left heard
      by (Closing t d c) b is means =
          closing_tells (Found settings node.number (Closing t d c) ask heard after) settings setup.catalog (so_far node (statement ∷ later) (Closing t d c)) (easy (Closing t d c)) t d c heard
      by (Ending tid said_so) b is means =
          ending_tells (Found settings node.number (Ending tid said_so) ask heard after) settings setup.catalog (so_far node (statement ∷ later) (Ending tid said_so)) (easy (Ending tid said_so))
          said_so heard
      by (Recovering c) b is means =
          recovering_tells (Found settings node.number (Recovering c) ask heard after) settings setup.catalog (so_far node (statement ∷ later) (Recovering c)) (easy (Recovering c))
          c c.left heard
          (λ d left orphans. (
            refl,
            (
              refl,
              orphans_none c d
                  (subst (λ (x : List ℕ). Before R layout setup settings w state entries n (so_far node (statement ∷ later) (Recovering (record c { left = x })))) left b)
                  (subst (λ (x : List ℕ). asks settings setup.catalog (so_far node (statement ∷ later) (Recovering (record c { left = x }))) ≡ Some ask) left is) orphans,
            ),
          ))
      by (Finishing c o committed x) b is means =
          finishing_tells (Found settings node.number (Finishing c o committed x) ask heard after) settings setup.catalog (so_far node (statement ∷ later) (Finishing c o committed x))
          (easy (Finishing c o committed x)) o committed x heard
      by (EndingLost c o) b is means =
          end_lost_tells (Found settings node.number (EndingLost c o) ask heard after) settings setup.catalog (so_far node (statement ∷ later) (EndingLost c o)) (easy (EndingLost c o))
          c o heard
          (λ others left ended. (
            refl,
            (
              refl,
              ended_none c o
                  (subst (λ (x : List ℕ). Before R layout setup settings w state entries n (so_far node (statement ∷ later) (EndingLost (record c { left = x }) o))) left b)
                  (subst (λ (x : List ℕ). asks settings setup.catalog (so_far node (statement ∷ later) (EndingLost (record c { left = x }) o)) ≡ Some ask) left is),
            ),
          ))
      by doing b is means = tt

-- what a node says of a RECOVER
pub says_found : (R : Txn → List Fact → Reads → Type 0) (layout : Layout) (setup : Setup) (settings : Settings) (w : World) (state : SiState) (entries : List Entry)
    (n : ℕ) (node : Node) → Before R layout setup settings w state entries n node → (ask : Ask) (heard : Heard) (told : Answer) (after : Parts)
    → asks settings setup.catalog node ≡ Some ask → Serves settings (parts_of w) n ask heard after → MayMean settings setup.catalog node heard told
    → AllTell (Found settings node.number node.doing ask heard after) (says_at settings setup.catalog state.commits node heard told)
says_found R layout setup settings w state entries n node b ask heard told after is serves means = by node.todo b is means
  where
    by : (todo : List Bound) → Before R layout setup settings w state entries n (so_far node todo node.doing) → asks settings setup.catalog (so_far node todo node.doing) ≡ Some ask
        → MayMean settings setup.catalog (so_far node todo node.doing) heard told
        → AllTell (Found settings node.number node.doing ask heard after) (says_at settings setup.catalog state.commits (so_far node todo node.doing) heard told)
    by [] b is means = tt
    by (statement ∷ later) b is means = all_found R layout setup settings w state entries n node statement later ask heard told after serves node.doing b is means
