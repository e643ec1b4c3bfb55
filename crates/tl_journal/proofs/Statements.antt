-- A SELECT or a change is read and said: how the protocol goes on.
use Rattle.std.proofs.Common.{◌≡◌, ℕ, ◌≤◌, Bool, true, false, ◌⊎◌, inl, inr, ⊎_elim, List, [], ◌∷◌, ◌++◌, Some, Result, refl, sym, ap, ◌∙◌, subst}
use Rattle.std.specs.Prelude.{◌==◌, Ok, Err, if◌then◌else◌}
use Rattle.tl_lemmas.proofs.Lists.{found}
use Rattle.tl_base.specs.declared.place.Settings.{Settings}
use Rattle.tl_values.specs.declared.value.Value.{Value}
use Rattle.tl_schema.specs.declared.catalog.Catalog.{Catalog}
use Rattle.tl_schema.specs.declared.catalog.Setup.{Setup}
use Rattle.tl_descriptor.specs.Tids.{TidSet}
use Rattle.tl_manager.specs.declared.request.ManagerReply.TheVariants as reply
use Rattle.tl_manager.specs.Floor.{newer}
use Rattle.tl_algebra.specs.declared.edit.Edit.{Edit}
use Rattle.tl_algebra.specs.declared.query.Query.{Query}
use Rattle.tl_write.specs.declared.fault.ChangeFault.{ChangeFault}
use Rattle.tl_write.specs.declared.write.Effect.{Effect}
use Rattle.tl_write.specs.declared.write.Write.{Write}
use Rattle.tl_write.specs.Own.{is_rising, put_write, put_writes}
use Rattle.tl_write.proofs.Rising.{put_rising}
use Rattle.tl_isolation.specs.declared.bound.Bound.{Bound}
use Rattle.tl_isolation.specs.declared.bound.Bound.TheVariants as bound
use Rattle.tl_isolation.specs.declared.entry.Answer.{Answer}
use Rattle.tl_isolation.specs.declared.entry.Entry.{Entry}
use Rattle.tl_isolation.specs.declared.state.Commit.{Commit as Committed}
use Rattle.tl_isolation.specs.declared.state.SiState.{SiState}
use Rattle.tl_isolation.specs.declared.state.Transaction.{Transaction}
use Rattle.tl_isolation.specs.Meaning.{change_of}
use Rattle.tl_isolation.specs.State.{is_refusal}
use Rattle.tl_isolation.specs.History.{state_from}
use Rattle.tl_isolation.specs.Step.{own_after}
use Rattle.tl_isolation.specs.Tables.{AreHome, Suits}
use Rattle.tl_protocol.specs.Store.{Key, put, same_key}
use Rattle.tl_protocol.specs.World.{Stage, Fresh, Opened, Answering, Txn, Fact, Phase, World, Agrees, At}
use Rattle.tl_protocol.specs.World as protocol
use Rattle.tl_protocol.specs.Move as move
use Rattle.tl_protocol.specs.Move.{Changes, Move, takes_statements}
use Rattle.tl_protocol.specs.Next.{after_saying, fact_of, next, with_phase}
use Rattle.tl_protocol.specs.Told as protocol_told
use Rattle.tl_protocol.specs.Told.{says_in}
use Rattle.tl_protocol.specs.Run.{Layout}
use Rattle.tl_protocol.proofs.Frames.{put_same}
use Rattle.tl_protocol.proofs.Inv.{base}
use Rattle.tl_protocol.proofs.Reached.{Reached, reached}
use Rattle.tl_protocol.proofs.Shown.{AreHomeWrites, AreKeyed}
use Rattle.tl_protocol.proofs.Steps.{node_at, numbered}
use Rattle.tl_journal.specs.Ask.{Found, Heard, Told}
use Rattle.tl_journal.specs.Bytes.{home_of}
use Rattle.tl_journal.specs.Reads.{Read, Point, Range, Reads, all_reads, begin_reads, tables_read, take_cell, take_page}
use Rattle.tl_journal.specs.Node.{Doing, Inside, Reading, Node}
use Rattle.tl_journal.specs.Asks.{ToBegin, ToRecover, Course, ToRead, ToIdle, ToCommit, ToGiveUp, ask_floor, asks_inside, asks_read, course_in, reading_course, statement_course}
use Rattle.tl_journal.specs.Takes.{Means, MeansIdle, MeansInside, MeansRead, after_reply, answered, goes_on, idles, learnt, own_said, said, takes_inside, takes_read, view_changed, with_doing}
use Rattle.tl_journal.specs.Says.{says_idle, says_inside, says_read, says_statement, statement_number}
use Rattle.tl_journal.specs.Served.{Parts, Serves, parts_of}
use Rattle.tl_journal.proofs.Meets.{Before, NodeIs, OwnOk, PhaseIs, PresentIs, RecoveryIs, StatementIs, is_single}
use Rattle.tl_journal.proofs.Facts.{ReadsOk, all_read, is_told, load_goes_on, page_goes_on, read_begins}
use Rattle.tl_journal.proofs.Goings.{going, going_two, is_floor, is_vanishing, mover, stops, turned, turned_learnt}
use Rattle.tl_journal.proofs.Insides.{inside_goes}
use Rattle.tl_journal.proofs.Present.{GoesFor, ReadsFor, StepsFor, goes_other, steps_for, steps_for_as}
use Rattle.tl_journal.proofs.Seen.{change_means, select_means}
use Rattle.tl_journal.proofs.Stated.{StatementOn}

-- ---- what a statement comes to

reads_are : (r reads : Reads) → reading_course r ≡ ToRead reads → r ≡ reads
reads_are r reads e = on r.left e
  where
    on : (left : List Read) → reading_course (record r { left = left }) ≡ ToRead reads → record r { left = left } ≡ reads
    on [] e = absurd cc
    on (read ∷ left) e = cc

none_read : (r : Reads) → reading_course r ≡ ToIdle → r.left ≡ []
none_read r e = on r.left e
  where
    on : (left : List Read) → reading_course (record r { left = left }) ≡ ToIdle → left ≡ []
    on [] e = refl
    on (read ∷ left) e = absurd cc

statement_reads : (catalog : Catalog) (statement : Bound) (reads : Reads) → statement_course catalog statement ≡ ToRead reads
    → begin_reads (all_reads catalog statement) ≡ reads
statement_reads catalog (bound.Select query) reads e = reads_are (begin_reads (all_reads catalog (bound.Select query))) reads e
statement_reads catalog (bound.Change edit) reads e = reads_are (begin_reads (all_reads catalog (bound.Change edit))) reads e
statement_reads catalog bound.Begin reads e = absurd cc
statement_reads catalog bound.Commit reads e = absurd cc
statement_reads catalog bound.Rollback reads e = absurd cc
statement_reads catalog (bound.Recover gone) reads e = absurd cc

statement_idle : (catalog : Catalog) (statement : Bound) → is_single statement ≡ true → statement_course catalog statement ≡ ToIdle
    → (begin_reads (all_reads catalog statement)).left ≡ []
statement_idle catalog (bound.Select query) h e = none_read (begin_reads (all_reads catalog (bound.Select query))) e
statement_idle catalog (bound.Change edit) h e = none_read (begin_reads (all_reads catalog (bound.Change edit))) e
statement_idle catalog bound.Begin h e = absurd cc
statement_idle catalog bound.Commit h e = absurd cc
statement_idle catalog bound.Rollback h e = absurd cc
statement_idle catalog (bound.Recover gone) h e = absurd cc

-- the reads of a statement, in a transaction that takes statements
course_reads : (catalog : Catalog) (stage : Stage) (statement : Bound) (reads : Reads) → course_in catalog stage statement ≡ ToRead reads
    → (takes_statements stage ≡ true) × (begin_reads (all_reads catalog statement) ≡ reads)
course_reads catalog Fresh statement reads e = (refl, statement_reads catalog statement reads e)
course_reads catalog Opened statement reads e = (refl, statement_reads catalog statement reads e)
course_reads catalog (Answering told) statement reads e = on (is_refusal told) e
  where
    on : (b : Bool) → (if b then ToGiveUp else ToCommit) ≡ ToRead reads
        → (takes_statements (Answering told) ≡ true) × (begin_reads (all_reads catalog statement) ≡ reads)
    on true e = absurd cc
    on false e = absurd cc

course_idle : (catalog : Catalog) (stage : Stage) (statement : Bound) → is_single statement ≡ true → course_in catalog stage statement ≡ ToIdle
    → (takes_statements stage ≡ true) × ((begin_reads (all_reads catalog statement)).left ≡ [])
course_idle catalog Fresh statement h e = (refl, statement_idle catalog statement h e)
course_idle catalog Opened statement h e = (refl, statement_idle catalog statement h e)
course_idle catalog (Answering told) statement h e = on (is_refusal told) e
  where
    on : (b : Bool) → (if b then ToGiveUp else ToCommit) ≡ ToIdle
        → (takes_statements (Answering told) ≡ true) × ((begin_reads (all_reads catalog statement)).left ≡ [])
    on true e = absurd cc
    on false e = absurd cc

-- ---- the own writes

puts_rising : (ws own : List Write) → is_rising own ≡ true → is_rising (put_writes ws own) ≡ true
puts_rising [] own h = h
puts_rising (w ∷ ws) own h = puts_rising ws (put_write w own) (put_rising w own h)

after_rising : (result : Result Effect ChangeFault) (own : List Write) → is_rising own ≡ true → is_rising (own_after result own) ≡ true
after_rising (Ok effect) own h = puts_rising effect.writes own h
after_rising (Err refusal) own h = h

own_said_rising : (catalog : Catalog) (statement : Bound) (own : List Write) (rows : List (List (List Value))) → is_rising own ≡ true
    → is_rising (own_said catalog statement own rows) ≡ true
own_said_rising catalog (bound.Select query) own rows h = h
own_said_rising catalog (bound.Change edit) own rows h = after_rising (change_of catalog edit (view_changed catalog edit own rows) own) own h
own_said_rising catalog bound.Begin own rows h = h
own_said_rising catalog bound.Commit own rows h = h
own_said_rising catalog bound.Rollback own rows h = h
own_said_rising catalog (bound.Recover gone) own rows h = h

-- ---- the statement is said

-- the transaction after it
abbrev pub after_said : Catalog → Bound → Txn → List (List (List Value)) → Answer → Txn
after_said catalog statement t rows told = record t { own = own_said catalog statement t.own rows; stage = after_saying told t.stage }

-- the move by which a statement is said of what was read
record Says (catalog : Catalog) (v : World) (n number : ℕ) (statement : Bound) (t : Txn) (rows : List (List (List Value))) (told : Answer) : Type 0 where
  it : Move v
  is_n : mover it ≡ n
  goes_on : is_vanishing it ≡ false
  tells : (commits : List Committed) → protocol_told.told commits v it ≡ says_in t.stage n number statement told ∷ []
  leads : next v it ≡ with_phase v n (protocol.Live (after_said catalog statement t rows told) [])

module _ (settings : Settings) (catalog : Catalog) (v : World) (n number : ℕ) (t : Txn) (facts : List Fact) (reads : Reads) (told : Answer) (is_catalog : v.catalog ≡ catalog)
    (at : At v n (protocol.Live t facts)) (own_home : AreHomeWrites catalog t.own) where
  say_select : (query : Query) → StatementOn catalog (bound.Select query) → ReadsOk settings catalog (bound.Select query) t facts reads → reads.left ≡ []
      → Means catalog (bound.Select query) t.own (tables_read reads) told → Says catalog v n number (bound.Select query) t (tables_read reads) told
  say_select query fits r e means = record {
    it = move.SaySelect n number query told t facts at r.takes
        (λ tables home agrees.
        select_means settings.shards catalog facts t.own query (tables_read reads) told fits own_home (all_read settings catalog (bound.Select query) t facts reads r e)
        means tables (subst (λ c. AreHome c tables) is_catalog home) agrees);
    is_n = refl;
    goes_on = refl;
    tells = λ commits. refl;
    leads = refl;
  }

  say_change : (edit : Edit) → StatementOn catalog (bound.Change edit) → ReadsOk settings catalog (bound.Change edit) t facts reads → reads.left ≡ []
      → Means catalog (bound.Change edit) t.own (tables_read reads) told → Says catalog v n number (bound.Change edit) t (tables_read reads) told
  say_change edit fits r e means = record {
    it = move.SayChange n number edit told (own_said catalog (bound.Change edit) t.own (tables_read reads)) t facts at r.takes
        (subst (λ c. Suits c edit) (sym is_catalog) fits.suits)
        (λ tables home agrees.
        subst (λ c. Changes c edit tables t.own told (own_said catalog (bound.Change edit) t.own (tables_read reads))) (sym is_catalog)
        (change_means settings.shards catalog facts t.own edit (tables_read reads) told fits own_home
        (all_read settings catalog (bound.Change edit) t facts reads r e) means tables (subst (λ c. AreHome c tables) is_catalog home) agrees));
    is_n = refl;
    goes_on = refl;
    tells = λ commits. refl;
    leads = refl;
  }

  say : (statement : Bound) → StatementOn catalog statement → ReadsOk settings catalog statement t facts reads → reads.left ≡ []
      → Means catalog statement t.own (tables_read reads) told → Says catalog v n number statement t (tables_read reads) told
  say (bound.Select query) fits r e means = say_select query fits r e means
  say (bound.Change edit) fits r e means = say_change edit fits r e means
  say bound.Begin fits r e means = absurd means
  say bound.Commit fits r e means = absurd means
  say bound.Rollback fits r e means = absurd means
  say (bound.Recover gone) fits r e means = absurd means

-- a transaction that takes statements is answered at once, or waits
stage_cases : (stage : Stage) → takes_statements stage ≡ true → (stage ≡ Fresh) ⊎ (stage ≡ Opened)
stage_cases Fresh e = inl refl
stage_cases Opened e = inr refl
stage_cases (Answering told) e = absurd cc

said_fresh : (catalog : Catalog) (node : Node) (statement : Bound) (t : Txn) (rows : List (List (List Value))) (told : Answer) → t.stage ≡ Fresh
    → said catalog node statement t rows told ≡ with_doing node (Inside (after_said catalog statement t rows told))
said_fresh catalog node statement t rows told e =
    subst
    (λ (s : Stage).
    said catalog node statement (record t { stage = s }) rows told ≡ with_doing node (Inside (after_said catalog statement (record t { stage = s }) rows told)))
    (sym e) refl

said_opened : (catalog : Catalog) (node : Node) (statement : Bound) (t : Txn) (rows : List (List (List Value))) (told : Answer) → t.stage ≡ Opened
    → said catalog node statement t rows told ≡ answered node told (Inside (after_said catalog statement t rows told))
said_opened catalog node statement t rows told e =
    subst
    (λ (s : Stage).
    said catalog node statement (record t { stage = s }) rows told ≡ answered node told (Inside (after_said catalog statement (record t { stage = s }) rows told)))
    (sym e) refl

-- the statement that is present then is a lawful one
fresh_present : (told : Answer) (stage : Stage) → stage ≡ Fresh → after_saying told stage ≡ Fresh → ⊥
fresh_present told Fresh e f = cc
fresh_present told Opened e f = cc
fresh_present told (Answering before) e f = cc

opened_present : (told : Answer) (stage : Stage) → stage ≡ Opened → after_saying told stage ≡ Fresh → ⊥
opened_present told Fresh e f = cc
opened_present told Opened e f = cc
opened_present told (Answering before) e f = cc

inside_any : (t : Txn) → (t.stage ≡ Fresh → ⊥) → (todo : List Bound) → PresentIs (StatementIs (Inside t)) todo
inside_any t h [] = tt
inside_any t h (statement ∷ later) = λ e. absurd (h e)

-- the node with these statements left, doing this
abbrev standing : Node → List Bound → Doing → Node
standing node todo doing = record node { todo = todo; doing = doing }

-- a SELECT or a change without reads is said at its one request
idles_single : (catalog : Catalog) (node : Node) (statement : Bound) (t : Txn) (reads : Reads) (told : Answer) → is_single statement ≡ true
    → idles catalog node statement t reads told ≡ said catalog node statement t (tables_read reads) told
idles_single catalog node (bound.Select query) t reads told h = refl
idles_single catalog node (bound.Change edit) t reads told h = refl
idles_single catalog node bound.Begin t reads told h = absurd cc
idles_single catalog node bound.Commit t reads told h = absurd cc
idles_single catalog node bound.Rollback t reads told h = absurd cc
idles_single catalog node (bound.Recover gone) t reads told h = absurd cc

says_single : (node : Node) (statement : Bound) (t : Txn) (floor : TidSet) (told : Answer) → is_single statement ≡ true
    → says_idle node statement t (Told (reply.FloorIs floor)) told ≡ says_statement node statement t told ∷ []
says_single node (bound.Select query) t floor told h = refl
says_single node (bound.Change edit) t floor told h = refl
says_single node bound.Begin t floor told h = absurd cc
says_single node bound.Commit t floor told h = absurd cc
says_single node bound.Rollback t floor told h = absurd cc
says_single node (bound.Recover gone) t floor told h = absurd cc

means_single : (catalog : Catalog) (statement : Bound) (t : Txn) (told : Answer) → is_single statement ≡ true → MeansIdle catalog statement t told
    → Means catalog statement t.own (tables_read (begin_reads (all_reads catalog statement))) told
means_single catalog (bound.Select query) t told h m = m
means_single catalog (bound.Change edit) t told h m = m
means_single catalog bound.Begin t told h m = absurd cc
means_single catalog bound.Commit t told h m = absurd cc
means_single catalog bound.Rollback t told h m = absurd cc
means_single catalog (bound.Recover gone) t told h m = absurd cc

module _ (R : Txn → List Fact → Reads → Type 0) (layout : Layout) (setup : Setup) (settings : Settings) (w : World) (state : SiState) (entries : List Entry)
    (n : ℕ) (node : Node) (b : Before R layout setup settings w state entries n node) where
  -- what the transaction writes is at home
  pub live_home : (t : Txn) (facts : List Fact) → w.phases n ≡ protocol.Live t facts → AreHomeWrites setup.catalog t.own
  live_home t facts e =
      let all : Reached setup w state entries = reached b.opening b.reach in
      let at : At w n (protocol.Live t facts) = record { runs = b.runs; so_far = e } in
      let ok = node_at w all.ledger all.ghost all.inv n (protocol.Live t facts) at in
      (found (λ (x : Transaction). AreHomeWrites setup.catalog x.own × AreKeyed setup.catalog x.own) (λ (x : Transaction). x.node == n) state.held _ all.proper.held
      (all.shows.held n (numbered w all.ledger all.ghost all.inv n b.runs) ∙ ok.txn.is_held)).0

module _ (layout : Layout) (setup : Setup) (settings : Settings) (statement : Bound) where
  abbrev R : Txn → List Fact → Reads → Type 0
  R = ReadsOk settings setup.catalog statement

  -- the node's state in a world, by what it was before
  Turn : Node → World → Type 0
  Turn base v =
      (new : Node) (world : World) → new.number ≡ base.number → new.floors ≡ base.floors → ((j : ℕ) → world.floors base.number j ≡ v.floors base.number j)
      → PhaseIs R new.doing (world.phases base.number) → RecoveryIs new.doing (world.recoveries base.number) → PresentIs (StatementIs new.doing) new.todo
      → NodeIs R settings new world base.number

  module _ (w : World) (state : SiState) (entries : List Entry) (base node : Node) (later : List Bound) (doing : Doing) (t : Txn)
      (b : Before R layout setup settings w state entries base.number node) (own_ok : OwnOk t.own) (told : Answer) where
    abbrev here : Node
    here = standing base (statement ∷ later) doing

    -- the last read, or the one request, and the statement is said at once
    ends : (first : Move w) → mover first ≡ base.number → is_vanishing first ≡ false → protocol_told.told state.commits w first ≡ []
        → (after : Parts) → parts_of (next w first) ≡ after → (next w first).recoveries base.number ≡ protocol.NoDuty → Turn base (next w first)
        → (rows : List (List (List Value))) → takes_statements t.stage ≡ true
        → Says setup.catalog (next w first) base.number (statement_number here) statement t rows told
        → GoesFor layout setup settings w state entries (says_statement here statement t told ∷ []) base.number (said setup.catalog here statement t rows told) after
    unfolding Turn
    ends first is_n on quiet after p free turn rows takes says =
        let n : ℕ = base.number in
        let v : World = next w first in
        let u : World = next v says.it in
        let after_txn : Txn = after_said setup.catalog statement t rows told in
        let entry : List Entry = says_statement here statement t told ∷ [] in
        let e : entry ≡ protocol_told.told state.commits w first
        ++ protocol_told.told (state_from setup.catalog state (protocol_told.told state.commits w first)).commits v says.it =
        sym (ap (λ ds. ds ++ protocol_told.told (state_from setup.catalog state ds).commits v says.it) quiet ∙ says.tells state.commits) in
        let parts : parts_of u ≡ after = ap parts_of says.leads ∙ p in
        let phase : u.phases n ≡ protocol.Live after_txn [] =
        ap (λ (x : World). x.phases n) says.leads ∙ put_same n (protocol.Live after_txn []) v.phases in
        let no_duty : u.recoveries n ≡ protocol.NoDuty = ap (λ (x : World). x.recoveries n) says.leads ∙ free in
        let floors : (j : ℕ) → u.floors n j ≡ v.floors n j = λ j. ap (λ (x : World). x.floors n j) says.leads in
        let rises : OwnOk after_txn.own = record { rising = own_said_rising setup.catalog statement t.own rows own_ok.rising } in
        ⊎_elim
        (λ (fresh : t.stage ≡ Fresh).
        let new : Node = with_doing here (Inside after_txn) in
        subst (λ (x : Node). GoesFor layout setup settings w state entries entry n x after) (sym (said_fresh setup.catalog here statement t rows told fresh))
        (going_two R layout setup settings w state entries n node b new after entry first says.it is_n on says.is_n says.goes_on e parts
        (turn new u refl refl floors (phase, rises) no_duty (inside_any after_txn (fresh_present told t.stage fresh) (statement ∷ later)))))
        (λ (opened : t.stage ≡ Opened).
        let new : Node = answered here told (Inside after_txn) in
        subst (λ (x : Node). GoesFor layout setup settings w state entries entry n x after) (sym (said_opened setup.catalog here statement t rows told opened))
        (goes_other R (ReadsFor settings setup.catalog later) layout setup settings w state entries entry n new after refl
        (going_two R layout setup settings w state entries n node b new after entry first says.it is_n on says.is_n says.goes_on e parts
        (turn new u refl refl floors (phase, rises) no_duty (inside_any after_txn (opened_present told t.stage opened) later)))))
        (stage_cases t.stage takes)

  module _ (fits : StatementOn setup.catalog statement) (w : World) (state : SiState) (entries : List Entry) (node : Node) (later : List Bound) (doing : Doing) (t : Txn)
      (b : Before R layout setup settings w state entries node.number (standing node (statement ∷ later) doing)) (own_ok : OwnOk t.own)
      (facts : List Fact) (live : w.phases node.number ≡ protocol.Live t facts) (free : w.recoveries node.number ≡ protocol.NoDuty) (told : Answer) where
    abbrev now : Node
    now = standing node (statement ∷ later) doing

    -- a record or a page was read: there is more to read, or the statement is said
    looks : (looked : Key → Bool) (after : Parts) → parts_of w ≡ after → (reads : Reads) → R t (fact_of w t.snapshot looked ∷ facts) reads
        → MeansRead setup.catalog statement t (Some reads) told
        → GoesFor layout setup settings w state entries (says_read now statement t (Some reads) told) node.number (goes_on setup.catalog now statement t reads told) after
    unfolding Turn
    looks looked after p reads r means = on reads.left r means
      where
        first : Move w
        first = move.Look node.number t facts looked (record { runs = b.runs; so_far = live })

        v : World
        v = next w first

        now_facts : List Fact
        now_facts = fact_of w t.snapshot looked ∷ facts

        turn : Turn node v
        turn new world e f same ph re st = turned R settings now new w world node.number b.node_is e f same ph re st

        on : (left : List Read) → R t now_facts (record reads { left = left }) → MeansRead setup.catalog statement t (Some (record reads { left = left })) told
            → GoesFor layout setup settings w state entries (says_read now statement t (Some (record reads { left = left })) told) node.number
            (goes_on setup.catalog now statement t (record reads { left = left }) told) after
        on [] r means =
            ends w state entries node now later doing t b own_ok told first refl refl refl after p free turn (tables_read (record reads { left = [] })) r.takes
            (say settings setup.catalog v node.number (statement_number now) t now_facts (record reads { left = [] }) told b.catalog
            (record { runs = b.runs; so_far = put_same node.number (protocol.Live t now_facts) w.phases })
            (live_home R layout setup settings w state entries node.number now b t facts live) statement fits r refl means)
        on (read ∷ left) r means =
            let more : Reads = record reads { left = read ∷ left } in
            let new : Node = with_doing now (Reading t more) in
            going R layout setup settings w state entries node.number now b new after [] first refl refl refl p
            (turn new v refl refl (λ j. refl) (now_facts, put_same node.number (protocol.Live t now_facts) w.phases, own_ok, r) free tt)

    -- the reply to the first of the reads that are left
    reads_on : (reads : Reads) (reply : Heard) (after : Parts) → R t facts reads → Serves settings (parts_of w) node.number (asks_read reads.left) reply after
        → MeansRead setup.catalog statement t (after_reply settings t.snapshot reads reads.left reply) told
        → GoesFor layout setup settings w state entries (says_read now statement t (after_reply settings t.snapshot reads reads.left reply) told) node.number
        (takes_read settings setup.catalog now statement t reads reply told) after
    reads_on reads reply after r serves means = on reads.left refl serves means
      where
        on : (left : List Read) → reads.left ≡ left → Serves settings (parts_of w) node.number (asks_read left) reply after
            → MeansRead setup.catalog statement t (after_reply settings t.snapshot (record reads { left = left }) left reply) told
            → GoesFor layout setup settings w state entries (says_read now statement t (after_reply settings t.snapshot (record reads { left = left }) left reply) told)
            node.number (takes_read settings setup.catalog now statement t (record reads { left = left }) reply told) after
        on [] e serves means = stops R layout setup settings w state entries node.number now b after (sym serves.1)
        on (Point key ∷ left) e serves means =
            let all : Reads = record reads { left = Point key ∷ left } in
            subst
            (λ (x : Heard).
            MeansRead setup.catalog statement t (after_reply settings t.snapshot all (Point key ∷ left) x) told
            → GoesFor layout setup settings w state entries (says_read now statement t (after_reply settings t.snapshot all (Point key ∷ left) x) told) node.number
            (takes_read settings setup.catalog now statement t all x told) after)
            (sym serves.0)
            (λ m.
            looks (same_key key) after (sym serves.1) (take_cell t.snapshot (w.cells key).versions all left)
            (load_goes_on settings setup.catalog statement t facts w all key left refl (subst (λ (l : List Read). R t facts (record reads { left = l })) e r)) m)
            means
        on (Range shard from first before ∷ left) e serves means =
            let all : Reads = record reads { left = Range shard from first before ∷ left } in
            let found : List Found = serves.0.0 in
            let more : Bool = serves.0.1 in
            subst
            (λ (x : Heard).
            MeansRead setup.catalog statement t (after_reply settings t.snapshot all (Range shard from first before ∷ left) x) told
            → GoesFor layout setup settings w state entries (says_read now statement t (after_reply settings t.snapshot all (Range shard from first before ∷ left) x) told)
            node.number (takes_read settings setup.catalog now statement t all x told) after)
            (sym serves.0.2)
            (λ m.
            looks (is_told settings.shards shard from before more found) after (sym serves.1)
            (take_page settings.shards t.snapshot shard from first before found more all left)
            (page_goes_on settings setup.catalog statement t facts w all shard from first before left found more refl serves.0.3
            (subst (λ (l : List Read). R t facts (record reads { left = l })) e r)) m)
            means

  module _ (fits : StatementOn setup.catalog statement) where
    -- while it reads
    pub reading_goes : (node : Node) (later : List Bound) (t : Txn) (reads : Reads) → StepsFor layout setup settings (standing node (statement ∷ later) (Reading t reads))
    reading_goes node later t reads =
        steps_for_as layout setup settings (standing node (statement ∷ later) (Reading t reads)) (asks_read reads.left) refl
        (λ w state entries reply told after b serves means.
        let p = b.node_is.phase in
        reads_on fits w state entries node later (Reading t reads) t b p.2 p.0 p.1 b.node_is.recovery told reads reply after p.3 serves means)

    module _ (some : 1 ≤ settings.shards) where
      -- the first read
      pub inside_reads : (node : Node) (later : List Bound) (t : Txn) (reads : Reads) → course_in setup.catalog t.stage statement ≡ ToRead reads
          → StepsFor layout setup settings (standing node (statement ∷ later) (Inside t))
      inside_reads node later t reads c =
          let now : Node = standing node (statement ∷ later) (Inside t) in
          let parts = course_reads setup.catalog t.stage statement reads c in
          steps_for_as layout setup settings now (asks_read reads.left) (ap (λ (x : Course). Some (asks_inside settings now t x)) c)
          (λ w state entries reply told after b serves means.
          subst
          (λ (x : Course).
          MeansInside settings setup.catalog statement t x reply told
          → GoesFor layout setup settings w state entries (says_inside settings now statement t x reply told) node.number
          (takes_inside settings setup.catalog now statement t x reply told) after)
          (sym c)
          (λ m.
          reads_on fits w state entries node later (Inside t) t b b.node_is.phase.1 [] b.node_is.phase.0 b.node_is.recovery told reads reply after
          (subst (R t []) parts.1 (read_begins settings setup.catalog statement t some parts.0)) serves m)
          means)

      -- there is nothing to read
      pub inside_idles : (node : Node) (later : List Bound) (t : Txn) → is_single statement ≡ true → course_in setup.catalog t.stage statement ≡ ToIdle
          → StepsFor layout setup settings (standing node (statement ∷ later) (Inside t))
      unfolding Turn
      inside_idles node later t single c =
          let n : ℕ = node.number in
          let m : ℕ = home_of settings n in
          let now : Node = standing node (statement ∷ later) (Inside t) in
          let parts = course_idle setup.catalog t.stage statement single c in
          let reads : Reads = begin_reads (all_reads setup.catalog statement) in
          steps_for_as layout setup settings now (ask_floor settings now t.snapshot) (ap (λ (x : Course). Some (asks_inside settings now t x)) c)
          (λ w state entries heard told after b serves means.
          let floor : TidSet = serves.0.0 in
          let first : Move w =
          move.Learn n m t.snapshot floor b.runs (inr (t, [], b.node_is.phase.0, refl)) (is_floor settings w m (newer (w.copies m) t.snapshot) floor b.laid_out serves.0.2) in
          let v : World = next w first in
          let base : Node = learnt node m floor in
          let turn : Turn base v =
          λ new world e f same ph re st.
          turned_learnt R settings now new w world n m floor b.node_is e f (λ j. same j ∙ ap (λ x. x j) (put_same n (put m floor (w.floors n)) w.floors)) ph re st in
          subst
          (λ (x : Course).
          MeansInside settings setup.catalog statement t x heard told
          → GoesFor layout setup settings w state entries (says_inside settings now statement t x heard told) n
          (takes_inside settings setup.catalog now statement t x heard told) after)
          (sym c)
          (λ idle.
          subst
          (λ (x : Heard).
          GoesFor layout setup settings w state entries (says_inside settings now statement t ToIdle x told) n
          (takes_inside settings setup.catalog now statement t ToIdle x told) after)
          (sym serves.0.1)
          (subst
          (λ (x : List Entry).
          GoesFor layout setup settings w state entries x n (idles setup.catalog (learnt now m floor) statement t reads told) after)
          (sym (says_single now statement t floor told single))
          (subst
          (λ (x : Node). GoesFor layout setup settings w state entries (says_statement now statement t told ∷ []) n x after)
          (sym (idles_single setup.catalog (learnt now m floor) statement t reads told single))
          (ends w state entries base now later (Inside t) t b b.node_is.phase.1 told first refl refl refl after (sym serves.1) b.node_is.recovery turn (tables_read reads)
          parts.0
          (say settings setup.catalog v n (statement_number now) t [] reads told b.catalog (record { runs = b.runs; so_far = b.node_is.phase.0 })
          (live_home R layout setup settings w state entries n now b t [] b.node_is.phase.0) statement fits (read_begins settings setup.catalog statement t some parts.0) parts.1
          (means_single setup.catalog statement t told single idle))))))
          means)

      -- inside a transaction
      pub inside_steps : (node : Node) (later : List Bound) (t : Txn) → StepsFor layout setup settings (standing node (statement ∷ later) (Inside t))
      inside_steps node later t = on (course_in setup.catalog t.stage statement) refl
        where
          now : Node
          now = standing node (statement ∷ later) (Inside t)

          -- where nothing is read or said
          others : ((reads : Reads) → course_in setup.catalog t.stage statement ≡ ToRead reads → ⊥)
              → (course_in setup.catalog t.stage statement ≡ ToIdle → is_single statement ≡ true → ⊥) → StepsFor layout setup settings now
          others no_read no_idle =
              steps_for layout setup settings now refl
              (λ Q. inside_goes Q layout setup settings node statement later t (λ reads e single. absurd (no_read reads e)) (λ e single. absurd (no_idle e single)))

          idle : (b : Bool) → is_single statement ≡ b → course_in setup.catalog t.stage statement ≡ ToIdle → StepsFor layout setup settings now
          idle true single e = inside_idles node later t single e
          idle false single e = others (λ reads f. no_course (sym e ∙ f)) (λ f other. not_both (sym single ∙ other))
            where
              no_course : {reads : Reads} → ToIdle ≡ ToRead reads → ⊥
              no_course h = cc

              not_both : false ≡ true → ⊥
              not_both h = cc

          on : (c : Course) → course_in setup.catalog t.stage statement ≡ c → StepsFor layout setup settings now
          on (ToRead reads) e = inside_reads node later t reads e
          on ToIdle e = idle (is_single statement) refl e
          on ToBegin e = others (λ reads f. let h : ToBegin ≡ ToRead reads = sym e ∙ f in cc) (λ f single. let h : ToBegin ≡ ToIdle = sym e ∙ f in cc)
          on ToCommit e = others (λ reads f. let h : ToCommit ≡ ToRead reads = sym e ∙ f in cc) (λ f single. let h : ToCommit ≡ ToIdle = sym e ∙ f in cc)
          on ToGiveUp e = others (λ reads f. let h : ToGiveUp ≡ ToRead reads = sym e ∙ f in cc) (λ f single. let h : ToGiveUp ≡ ToIdle = sym e ∙ f in cc)
          on (ToRecover gone) e = others (λ reads f. let h : ToRecover gone ≡ ToRead reads = sym e ∙ f in cc) (λ f single. let h : ToRecover gone ≡ ToIdle = sym e ∙ f in cc)
