-- A transaction begins and ends: the commits cell is loaded, numbers are drawn and brought, the manager begins it, and ends it.
use Rattle.std.proofs.Common.{◌≡◌, ℕ, ◌+◌, ◌≤◌, Bool, true, false, List, [], ◌∷◌, Option, Some, None, length, refl, sym, ap, ◌∙◌, subst, ⊎_elim, arith}
use Rattle.std.specs.Prelude.{◌^◌, if◌then◌else◌}
use Rattle.std.proofs.lemmas.Bool.{both_ways, ne_eqb}
use Rattle.tl_descriptor.specs.Tids.{TidSet}
use Rattle.tl_manager.specs.Floor.{newer}
use Rattle.tl_isolation.specs.declared.entry.Answer.{Answer}
use Rattle.tl_isolation.specs.declared.entry.Entry.TheVariants as entry
use Rattle.tl_isolation.specs.declared.state.TxnPhase.TheVariants as phase
use Rattle.tl_isolation.specs.Step.{begin}
use Rattle.tl_protocol.specs.Store.{Key, put}
use Rattle.tl_protocol.specs.World.{Undrawn, Carried, Ready, Begun, Idle, Noted, Drawn, Live, Ending, World, runs, At, IsFloor}
use Rattle.tl_protocol.specs.Move.{IsTold, Ask, Draw, Bring, Begin, Learn, End}
use Rattle.tl_protocol.specs.Next.{begun_txn, numbered}
use Rattle.tl_protocol.specs.Told.{count_in}
use Rattle.tl_protocol.proofs.Ledger.{Ledger, Seat, seated}
use Rattle.tl_protocol.proofs.Shown.{Tells}
use Rattle.tl_protocol.proofs.Finished.{Finished, Known, Snap, firsts, is_done}
use Rattle.tl_protocol.proofs.Sets.{Newer, count_is, firsts_all, firsts_le, firsts_mono, newer_known, opening_first}
use Rattle.tl_protocol.proofs.Inv.{Base, DrawnOk, EndingOk, Front, Ghost, IdleOk, Inv, Kept, LiveOk, NotedOk, Shared, TxnOk, base, held_txn, is_begun, is_taken, nodes_of, nowhere, shared, unless_lost, vanished_of}
use Rattle.tl_protocol.proofs.Later.{grows_refl}
use Rattle.tl_protocol.proofs.Frames.{link_own, link_same, put_same}
use Rattle.tl_protocol.proofs.Steps.{active_at, core_seat, node_at, not_vanished, numbered as is_numbered, seated_vanished, with_phase}
use Rattle.tl_protocol.proofs.Showing.{answered, asked, began, count_shown}
use Rattle.tl_protocol.proofs.Managers.{begun_ledger, core_begun, core_ended, core_learnt, core_numbers, drawn_above, numbers_brought, numbers_drawn, ready_above, undrawn_carried}

other_carrier : (n j : ℕ) → (n ≡ j → ⊥) → Carried n ≡ Carried j → ⊥
other_carrier n j ne e = ne cc

untaken_unfinished : (done taken : Bool) → (done ≡ true → taken ≡ true) → taken ≡ false → done ≡ false
untaken_unfinished true taken f e = absurd (both_ways taken e (f refl))
untaken_unfinished false taken f e = refl

-- the facts of a noted set speak of fronts and finished transactions alone
noted_same : (s z : Shared) (i : ℕ) (seen : TidSet) (seat : Seat) → s.fronts ≡ z.fronts → s.finished ≡ z.finished → NotedOk s i seen seat → NotedOk z i seen seat
noted_same s z i seen seat e f o = record {
  free = record { not_held = o.free.not_held; nowhere = subst (λ (q : Key → Option Front). (k : Key) (x : Front) → q k ≡ Some x → x.node ≡ i → ⊥) e o.free.nowhere };
  m = o.m;
  known = subst (Known seen o.m) f o.known;
  noted = λ h. o.noted h ∙ ap (λ q. Some (firsts o.m q)) f;
}

module _ (w : World) (a : Ledger) (g : Ghost) (v : Inv w a g) where
  -- what is told of a transaction's sets is of those that finished first
  told_known : (n : ℕ) (seen : TidSet) → runs w n ≡ true → IsTold w n seen → Snap seen g.finished
  told_known n seen r told =
      ⊎_elim
      (λ e. subst (λ q. Snap q g.finished) (sym e) (record { m = 1; known = opening_first g.finished v.core.opens v.core.distinct }))
      (λ h.
      let o : LiveOk (shared (base w) g) n h.0 h.1 (a.seats n) = node_at w a g v n (Live h.0 h.1) (record { runs = r; so_far = h.2 }) in
      subst (λ q. Snap q g.finished) (sym h.3) (record { m = o.txn.m; known = o.txn.known }))
      told

  pub ask_kept : (n : ℕ) (at : At w n Idle) → Kept w a g (Ask n at)
  ask_kept n at =
      let o : IdleOk (shared (base w) g) n (a.seats n) = node_at w a g v n Idle at in
      let runs_on : (a.seats n).vanished ≡ false = not_vanished w a g v n at.runs in
      let all : length a.commits ≡ firsts (length g.finished) g.finished =
      ap length v.core.commits ∙ sym (firsts_all (length g.finished) g.finished (omega arith)) in
      let seat : Seat = record (a.seats n) { noted = Some (length a.commits) } in
      let h : NotedOk (shared (base w) g) n w.commits.finished seat =
      record { free = o.free; m = length g.finished; known = v.core.done; noted = λ e. ap Some all } in
      record {
        ledger = seated a n seat;
        ghost = with_phase g n (Noted w.commits.finished);
        inv = record {
          core = core_seat (base w) a g v.core n (Noted w.commits.finished) seat h (active_at w a g v n Idle at);
          link = link_own (base w) (base w) (nodes_of w) (vanished_of a) (vanished_of (seated a n seat)) g.phases g.menders n (Noted w.commits.finished)
              (grows_refl w.cells w.commits) at.runs (seated_vanished a n seat refl) v.link;
        };
        tells = λ s shows proper. asked w.catalog s a shows n (is_numbered w a g v n at.runs) runs_on o.free.not_held (o.answered runs_on);
        ended = λ s t. refl;
        catalog = refl;
      }

  pub draw_kept : (n : ℕ) (seen : TidSet) (at : At w n (Noted seen)) (room : w.counter + 16 ≤ 2 ^ 62) → Kept w a g (Draw n seen at room)
  draw_kept n seen at room =
      let o : NotedOk (shared (base w) g) n seen (a.seats n) = node_at w a g v n (Noted seen) at in
      let b : Base = record (base w) { numbers = numbered w.counter (Carried n) w.numbers; counter = w.counter + 16 } in
      let h : DrawnOk (shared b g) n seen w.counter (a.seats n) = record {
        noted = noted_same (shared (base w) g) (shared b g) n seen (a.seats n) refl refl o;
        drawn = λ t e. ap (λ q. if q then Carried n else w.numbers t) e;
      } in
      record {
        ledger = a;
        ghost = with_phase g n (Drawn seen w.counter);
        inv = record {
          core = core_numbers (base w) a g v.core n w.counter (w.counter + 16) (Carried n) Undrawn (Drawn seen w.counter)
              (λ t e. v.core.numbers.undrawn t (drawn_above w.counter t e)) refl refl (λ j ne. undrawn_carried j)
              (numbers_drawn w.numbers w.counter n v.core.numbers room) h (active_at w a g v n (Noted seen) at);
          link = link_own (base w) b (nodes_of w) (vanished_of a) (vanished_of a) g.phases g.menders n (Drawn seen w.counter)
              (grows_refl w.cells w.commits) at.runs (λ i. refl) v.link;
        };
        tells = λ s shows proper. record { allowed = tt; shows = shows };
        ended = λ s t. refl;
        catalog = refl;
      }

  pub bring_kept : (n : ℕ) (seen : TidSet) (low : ℕ) (at : At w n (Drawn seen low)) → Kept w a g (Bring n seen low at)
  bring_kept n seen low at =
      let o : DrawnOk (shared (base w) g) n seen low (a.seats n) = node_at w a g v n (Drawn seen low) at in
      let b : Base = record (base w) { numbers = numbered low (Ready (w.home n)) w.numbers } in
      let h : NotedOk (shared b g) n seen (a.seats n) = noted_same (shared (base w) g) (shared b g) n seen (a.seats n) refl refl o.noted in
      record {
        ledger = a;
        ghost = with_phase g n (Noted seen);
        inv = record {
          core = core_numbers (base w) a g v.core n low w.counter (Ready (w.home n)) (Carried n) (Noted seen) o.drawn refl refl (other_carrier n)
              (numbers_brought w.numbers w.counter low n (w.home n) v.core.numbers o.drawn) h (active_at w a g v n (Drawn seen low) at);
          link = link_own (base w) b (nodes_of w) (vanished_of a) (vanished_of a) g.phases g.menders n (Noted seen)
              (grows_refl w.cells w.commits) at.runs (λ i. refl) v.link;
        };
        tells = λ s shows proper. record { allowed = tt; shows = shows };
        ended = λ s t. refl;
        catalog = refl;
      }

  pub begin_kept : (n tid : ℕ) (seen floor : TidSet) (at : At w n (Noted seen)) (ready : w.numbers tid ≡ Ready (w.home n))
      (low : IsFloor w (w.home n) (newer (w.copies (w.home n)) seen) floor) → Kept w a g (Begin n tid seen floor at ready low)
  begin_kept n tid seen floor at ready low =
      let c = v.core in
      let ds : List Finished = g.finished in
      let o : NotedOk (shared (base w) g) n seen (a.seats n) = node_at w a g v n (Noted seen) at in
      let runs_on : (a.seats n).vanished ≡ false = not_vanished w a g v n at.runs in
      let copy : TidSet = newer (w.copies (w.home n)) seen in
      let old : Snap (w.copies (w.home n)) ds = c.managers.copy_known (w.home n) in
      let r : Newer (w.copies (w.home n)) seen o.m ds = newer_known (w.copies (w.home n)) seen old.m o.m ds old.known o.known in
      let first : ℕ = firsts r.m ds in
      let learnt : Base = record (base w) {
        copies = put (w.home n) copy w.copies;
        floors = put n (put (w.home n) floor (w.floors n)) w.floors;
      } in
      let b : Base = record learnt {
        numbers = put tid (Begun n) w.numbers;
        active = put n (Some (record { tid = tid; node = n; snapshot = copy })) w.active;
      } in
      let seat : Seat = record (a.seats n) { noted = None; held = Some (begin n tid first) } in
      let txn : TxnOk (shared b g) n (begun_txn tid copy) nowhere seat.held (unless_lost seat.vanished phase.Live) false None = record {
        m = r.m;
        known = r.known;
        first = first;
        first_is = refl;
        begun = put_same tid (Begun n) w.numbers;
        unfinished = untaken_unfinished (is_done tid ds) (is_taken (w.numbers tid)) (c.taken tid) (ap is_taken ready);
        is_held = ap (λ q. Some (held_txn n first (begun_txn tid copy) (unless_lost q phase.Live) false None)) (sym runs_on);
        stands = λ k e. absurd (both_ways false refl e);
        only = λ k f e m. absurd (o.free.nowhere k f e m);
      } in
      let h : LiveOk (shared b g) n (begun_txn tid copy) [] seat = record { txn = txn; log = c.logs tid (ap is_begun ready); reads = tt } in
      record {
        ledger = begun_ledger a n tid first;
        ghost = with_phase g n (Live (begun_txn tid copy) []);
        inv = record {
          core = core_begun learnt a g (core_learnt w a g c n (w.home n) seen floor (record { m = o.m; known = o.known }) low)
              n tid (w.home n) first copy (Live (begun_txn tid copy) []) (is_numbered w a g v n at.runs) ready (put_same (w.home n) copy w.copies) h refl;
          link = link_own (base w) b (nodes_of w) (vanished_of a) (vanished_of (begun_ledger a n tid first)) g.phases g.menders n (Live (begun_txn tid copy) [])
              (grows_refl w.cells w.commits) at.runs (seated_vanished a n seat refl) v.link;
        };
        tells = λ s shows proper.
            subst (λ q. Tells w.catalog s (entry.Began n tid q ∷ []) (begun_ledger a n tid first))
            (sym (count_shown s a shows copy ∙ ap (count_in copy) c.commits ∙ count_is copy r.m ds r.known.agree))
            (began w.catalog s a shows n (is_numbered w a g v n at.runs) tid first (firsts o.m ds) (o.noted runs_on) (firsts_mono o.m r.m ds r.above)
            (subst (λ (q : ℕ). first ≤ q) (sym (ap length c.commits)) (firsts_le r.m ds))
            (ne_eqb tid 0 (ready_above w.numbers w.counter tid (w.home n) c.numbers ready))
            (c.begun tid ∙ ap is_begun ready) o.free.not_held);
        ended = λ s t. refl;
        catalog = refl;
      }

  pub learn_kept : (n manager : ℕ) (seen floor : TidSet) (r : runs w n ≡ true) (told : IsTold w n seen)
      (low : IsFloor w manager (newer (w.copies manager) seen) floor) → Kept w a g (Learn n manager seen floor r told low)
  learn_kept n manager seen floor r told low =
      let b : Base = record (base w) {
        copies = put manager (newer (w.copies manager) seen) w.copies;
        floors = put n (put manager floor (w.floors n)) w.floors;
      } in
      record {
        ledger = a;
        ghost = g;
        inv = record {
          core = core_learnt w a g v.core n manager seen floor (told_known n seen r told) low;
          link = link_same (base w) b (nodes_of w) (vanished_of a) (vanished_of a) g.phases g.menders (grows_refl w.cells w.commits) (λ i. refl) v.link;
        };
        tells = λ s shows proper. record { allowed = tt; shows = shows };
        ended = λ s t. refl;
        catalog = refl;
      }

  pub end_kept : (n statement tid : ℕ) (told : Answer) (at : At w n (Ending tid told)) → Kept w a g (End n statement tid told at)
  end_kept n statement tid told at =
      let o : EndingOk (shared (base w) g) n tid told (a.seats n) = node_at w a g v n (Ending tid told) at in
      let runs_on : (a.seats n).vanished ≡ false = not_vanished w a g v n at.runs in
      let b : Base = record (base w) { active = put n None w.active } in
      let seat : Seat = record (a.seats n) { noted = None; outcome = None } in
      let h : IdleOk (shared (base w) g) n seat = record { free = o.free; answered = λ e. refl } in
      record {
        ledger = seated a n seat;
        ghost = with_phase g n Idle;
        inv = record {
          core = core_ended (base w) a g v.core n seat Idle h refl;
          link = link_own (base w) b (nodes_of w) (vanished_of a) (vanished_of (seated a n seat)) g.phases g.menders n Idle
              (grows_refl w.cells w.commits) at.runs (seated_vanished a n seat refl) v.link;
        };
        tells = λ s shows proper. answered w.catalog s a shows n (is_numbered w a g v n at.runs) statement told (o.answer runs_on);
        ended = λ s t. refl;
        catalog = refl;
      }
