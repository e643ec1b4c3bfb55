-- Where a clash is told, the version of the rival stands in the record.
use Rattle.std.proofs.Common.{◌≡◌, inl, inr, ℕ, ◌+◌, ◌<◌, ◌≤◌, ◌^◌, Bool, true, false, List, [], ◌∷◌, ◌++◌, length, Option, Some, None, refl, sym, ap, ◌∙◌, subst, arith}
use Rattle.std.specs.Prelude.{slice_get}
use Rattle.std.proofs.lemmas.List.{length-append}
use Rattle.std.proofs.lemmas.List.Elements.{All-contains, All-from_recursion}
use Rattle.std.proofs.lemmas.Option.{same_Some}
use Rattle.tl_base.specs.declared.place.Settings.{Settings}
use Rattle.tl_schema.specs.declared.catalog.Catalog.{Catalog}
use Rattle.tl_schema.specs.declared.catalog.Setup.{Setup}
use Rattle.tl_manager.specs.declared.active.Active.{Active}
use Rattle.tl_versions.specs.declared.version.Version.{Version}
use Rattle.tl_versions.specs.Versions.{stranger}
use Rattle.tl_write.specs.declared.write.Write.{Write}
use Rattle.tl_isolation.specs.declared.bound.Bound.{Bound}
use Rattle.tl_isolation.specs.declared.entry.Entry.TheVariants as entry
use Rattle.tl_isolation.specs.declared.script.Script.{Script}
use Rattle.tl_isolation.specs.declared.script.Session.{Session}
use Rattle.tl_isolation.specs.declared.state.SiState.{SiState}
use Rattle.tl_isolation.specs.declared.state.Transaction.{Transaction}
use Rattle.tl_isolation.specs.declared.state.TxnPhase.{TxnPhase}
use Rattle.tl_isolation.specs.History.{state_after}
use Rattle.tl_isolation.specs.Script.{setup_of}
use Rattle.tl_isolation.specs.State.{held_as}
use Rattle.tl_protocol.specs.Run.{Layout}
use Rattle.tl_protocol.specs.Stands.{HasInLog}
use Rattle.tl_protocol.specs.Store.{Cell, Key}
use Rattle.tl_protocol.specs.World.{Fact, Txn, World}
use Rattle.tl_protocol.specs.World as protocol
use Rattle.tl_protocol.proofs.Inv.{TxnOk, base, held_txn, shared}
use Rattle.tl_protocol.proofs.Reached.{Reached, reached}
use Rattle.tl_protocol.proofs.Turns.{held_by_number}
use Rattle.tl_protocol.proofs.Standing.{nodes_know}
use Rattle.tl_protocol.proofs.Steps.{node_at, numbered}
use Rattle.tl_journal.specs.declared.event.Event.{Event}
use Rattle.tl_journal.specs.Ask.{Ask, Heard, LoadRecord, Record}
use Rattle.tl_journal.specs.Asks.{asks}
use Rattle.tl_journal.specs.Bytes.{heard}
use Rattle.tl_journal.specs.Clashes.{ClashesStand, RivalStands, RivalsStand}
use Rattle.tl_journal.specs.Journal.{IsEvent, answer_said, entries_told, node_after}
use Rattle.tl_journal.specs.Law.{IsRun}
use Rattle.tl_journal.specs.Node.{Doing, Node, Storing, Stores}
use Rattle.tl_journal.specs.Reads.{Reads}
use Rattle.tl_journal.specs.Says.{says_at}
use Rattle.tl_journal.specs.Served.{Parts, Serves, parts_of}
use Rattle.tl_journal.proofs.ClashSays.{AllTell, ClashTells, Meets, says_meets, unsaid_tell}
use Rattle.tl_journal.proofs.Heeded.{heeded}
use Rattle.tl_journal.proofs.Journals.{holds_at, stood_at}
use Rattle.tl_journal.proofs.Logs.{along_at}
use Rattle.tl_journal.proofs.Meets.{Before, PhaseIs, attempt_of}
use Rattle.tl_journal.proofs.Opens.{layout_of}
use Rattle.tl_journal.proofs.Posted.{before_stood}
use Rattle.tl_journal.proofs.Present.{ReadsFor}
use Rattle.tl_journal.proofs.Stood.{Heeds, Stood}

-- the node asks for the cell of the next record that is left
next_asked : (settings : Settings) (catalog : Catalog) (node : Node) (todo : List Bound) (s : Storing) (own : Write) (later : List Write) (ask : Ask)
    → asks settings catalog (record node { todo = todo; doing = Stores (record s { left = own ∷ later }) None }) ≡ Some ask → ask ≡ LoadRecord own.key
next_asked settings catalog node [] s own later ask e = absurd cc
next_asked settings catalog node (statement ∷ todo) s own later ask e = sym (same_Some (LoadRecord own.key) ask e)

record_same : (x y : Cell) → Record x ≡ Record y → x ≡ y
record_same x y e = cc

-- the write behind those that are stored
behind : (stored : List Write) (own : Write) (later : List Write) → slice_get (stored ++ own ∷ later) (length stored) ≡ Some own
behind [] own later = refl
behind (o ∷ stored) own later = behind stored own later

module _ (R : Txn → List Fact → Reads → Type 0) (layout : Layout) (setup : Setup) (settings : Settings) (w : World) (state : SiState) (entries : List _)
    (n : ℕ) (node : Node) (b : Before R layout setup settings w state entries n node) (ask : Ask) (asked : asks settings setup.catalog node ≡ Some ask)
    (h : Heard) (after : Parts) (serves : Serves settings (parts_of w) n ask h after) where
  -- what the clash tells, as the protocol sees it
  pub record Found (tid rival place : ℕ) : Type 0 where
    pub transaction : Transaction
    pub held : held_as tid state.held ≡ Some transaction
    pub own : Write
    pub own_is : slice_get transaction.own place ≡ Some own
    pub active : Active
    pub active_is : w.active transaction.node ≡ Some active
    pub tid_is : active.tid ≡ tid
    pub rival_is : stranger active.snapshot (w.cells own.key).versions ≡ Some rival

  -- the running transaction is the one that is held
  own_held : (r : Reached setup w state entries) (t : Txn) (stored : Key → Bool) (p : TxnPhase) (tried : Bool) (lost : Option ℕ)
      → TxnOk (shared (base w) r.ghost) n t stored (r.ledger.seats n).held p tried lost
      → (x : Transaction) × (held_as t.tid state.held ≡ Some x) × (x.node ≡ n) × (x.own ≡ t.own)
  own_held r t stored p tried lost o =
      let own : Transaction = held_txn n o.first t p tried lost in
      (own, held_by_number state r.ledger r.shows n (numbered w r.ledger r.ghost r.inv n b.runs) own o.is_held, refl, refl)

  pub found : (tid rival place : ℕ) → Meets node.doing h tid rival place → Found tid rival place
  found tid rival place m =
      let s : Storing = m.s in
      let phase : PhaseIs R (Stores s None) (w.phases n) = subst (λ (d : Doing). PhaseIs R d (w.phases n)) m.doing_is b.node_is.phase in
      let load : ask ≡ LoadRecord m.own.key =
      next_asked settings setup.catalog node node.todo s m.own m.later ask
      (subst (λ (l : List Write). asks settings setup.catalog (record node { doing = Stores (record s { left = l }) None }) ≡ Some ask) m.left_is
      (subst (λ (d : Doing). asks settings setup.catalog (record node { doing = d }) ≡ Some ask) m.doing_is asked)) in
      let told : h ≡ Record (w.cells m.own.key) = (subst (λ (a : Ask). Serves settings (parts_of w) n a h after) load serves).0 in
      let cell : m.cell ≡ w.cells m.own.key = record_same m.cell (w.cells m.own.key) (sym m.heard_is ∙ told) in
      let r : Reached setup w state entries = reached b.opening b.reach in
      let o = node_at w r.ledger r.ghost r.inv n (protocol.Trying (attempt_of s) None) (record { runs = b.runs; so_far = phase.0 }) in
      let known : HasInLog w n (protocol.Trying (attempt_of s) None) = subst (HasInLog w n) phase.0 (nodes_know setup w state entries r n b.runs) in
      let own : slice_get s.txn.own (length s.stored) ≡ Some m.own =
      ap (λ (os : List Write). slice_get os (length s.stored)) phase.2
      ∙ ap (λ (l : List Write). slice_get (s.stored ++ l) (length s.stored)) m.left_is ∙ behind s.stored m.own m.later in
      let x = own_held r s.txn _ _ _ None o.txn in
      record {
        transaction = x.0;
        held = subst (λ (t : ℕ). held_as t state.held ≡ Some x.0) m.tid_is x.1;
        own = m.own;
        own_is = ap (λ (os : List Write). slice_get os place) x.3 ∙ subst (λ (i : ℕ). slice_get s.txn.own i ≡ Some m.own) m.place_is own;
        active = record { tid = s.txn.tid; node = n; snapshot = s.txn.snapshot };
        active_is = ap (λ (i : ℕ). w.active i) x.2 ∙ known.1;
        tid_is = m.tid_is;
        rival_is = subst (λ (c : Cell). stranger s.txn.snapshot c.versions ≡ Some rival) cell m.rival_is;
      }

module _ (script : Script) (settings : Settings) (past : List Event) (e : Event) (rest : List Event) (run : IsRun script settings (past ++ e ∷ rest)) where
  at_entry : (F : ℕ → ℕ → ℕ → Type 0) → AllTell F e.entries → ((tid rival place : ℕ) → F tid rival place → RivalStands script settings past tid rival place)
      → ClashesStand script settings past e
  at_entry F all f tid rival place c =
      f tid rival place (All-contains (ClashTells F) e.entries (entry.Clash tid rival place) (All-from_recursion (ClashTells F) e.entries all) c)

  abbrev nothing : ℕ → ℕ → ℕ → Type 0
  nothing tid rival place = ⊥

  by_event : IsEvent script settings past e → ClashesStand script settings past e
  by_event (inl r) =
      let layout = layout_of script settings in
      let setup = setup_of script settings in
      let state = state_after (setup_of script settings) (entries_told past) in
      let node : Node = node_after settings script past r.session in
      let s : Stood (layout_of script settings) script settings past = stood_at script settings past (e ∷ rest) run in
      let stands = s.nodes e.node r.session r.is_session r.runs in
      let least : 1 ≤ e.node = subst (λ (i : ℕ). 1 ≤ i) stands.is_so.number stands.fits.least in
      let b = before_stood layout script settings past s run.bound.opening e.node r.session r.is_session r.runs least in
      let few : length (past ++ e ∷ rest) < 2 ^ 32 = run.few in
      let both : length (past ++ e ∷ rest) ≡ length past + length (e ∷ rest) = length-append past (e ∷ rest) in
      let h : Heeds script settings past e s.world e.node r.ask =
      heeded layout script settings past e rest s run.bound run.shards (omega arith) run.trace.served r.session r.is_session r.runs b r.ask r.asked r.stands_at r.bytes in
      at_entry (Meets node.doing (heard r.ask e.reply))
      (subst (AllTell (Meets node.doing (heard r.ask e.reply))) (sym r.told)
      (says_meets settings script.catalog state.commits node (heard r.ask e.reply) (answer_said e.entries)))
      (λ tid rival place m.
      let f = found (ReadsFor settings script.catalog node.todo) layout setup settings s.world state (entries_told past) e.node node b r.ask r.asked (heard r.ask e.reply) h.after h.serves
      tid rival place m in
      record {
        world = s.world;
        holds = holds_at script settings past s;
        transaction = f.transaction;
        held = f.held;
        own = f.own;
        own_is = f.own_is;
        active = f.active;
        active_is = f.active_is;
        tid_is = f.tid_is;
        rival_is = f.rival_is;
      })
  by_event (inr (inl p)) = at_entry nothing (subst (AllTell nothing) (sym p.told) (tt, tt)) (λ tid rival place f. absurd f)
  by_event (inr (inr c)) =
      at_entry nothing
      (subst (AllTell nothing) (sym c.told)
      (unsaid_tell nothing (says_at settings script.catalog (state_after (setup_of script settings) (entries_told past)).commits (node_after settings script past c.session) (heard c.ask e.reply) (answer_said e.entries))))
      (λ tid rival place f. absurd f)

pub rivals_stand : RivalsStand
rivals_stand script settings past e rest run = by_event script settings past e rest run (along_at (IsEvent script settings) [] past e rest run.trace.events_are)
