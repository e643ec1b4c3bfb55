-- A node stores a record cell, with its version in front of it or without.
use Rattle.std.proofs.Common.{◌≡◌, ℕ, ◌<◌, ◌≤◌, Bool, true, false, ⊎_elim, List, [], ◌∷◌, Option, Some, None, refl, sym, ap, ◌∙◌, subst}
use Rattle.std.specs.Prelude.{is_some, if◌then◌else◌}
use Rattle.std.proofs.lemmas.Bool.{false≢true}
use Rattle.std.proofs.lemmas.Option.{same_Some}
use Rattle.tl_values.specs.declared.value.Value.{Value}
use Rattle.tl_descriptor.specs.Tids.{TidSet, IsWithin, has}
use Rattle.tl_manager.specs.declared.active.Active.{Active}
use Rattle.tl_versions.specs.declared.version.Version.{Version}
use Rattle.tl_versions.specs.Versions.{prune, stranger, strip}
use Rattle.tl_write.specs.Own.{is_written}
use Rattle.tl_protocol.specs.Store.{Key, put, put_at, same_key, written}
use Rattle.tl_protocol.specs.World.{Txn, Attempt, Loaded, Phase, Trying, Undoing, World, At, IsLeast}
use Rattle.tl_protocol.specs.Move.{StoreOwn, StoreUndo}
use Rattle.tl_protocol.specs.Next.{next, own_version}
use Rattle.tl_protocol.proofs.Ledger.{Clear, Ledger}
use Rattle.tl_protocol.proofs.Finished.{Snap}
use Rattle.tl_protocol.proofs.Sets.{begins_within, within_trans}
use Rattle.tl_protocol.proofs.History.{IsKept, clear_kept, history, prune_kept, written_is}
use Rattle.tl_protocol.proofs.Inv.{CellOk, Front, Ghost, Inv, Kept, base, nodes_of, vanished_of}
use Rattle.tl_protocol.proofs.Frames.{link_own}
use Rattle.tl_protocol.proofs.Steps.{active_at, node_at}
use Rattle.tl_protocol.proofs.Owner.{no_front, txn_fits, unknown_front}
use Rattle.tl_protocol.proofs.Cells.{Standing, core_store, core_strip, grows_store, managers_cut, put_at_other, put_at_same}
use Rattle.tl_write.proofs.Keys.{key_eq}

some_there : {A : Type 0} (o : Option A) → is_some o ≡ true → (x : A) × (o ≡ Some x)
some_there None e = absurd (false≢true e)
some_there (Some x) e = (x, refl)

-- the version that is written has the row that is written
own_row : (k : Key) (t : Txn) → is_written k t.own ≡ true → written k t.own ≡ Some (own_version k t).row
own_row k t e =
    let p = some_there (written k t.own) (sym (written_is k t.own) ∙ e) in
    rw p.1 refl

-- with one version more its versions stand where they are said to stand
stands_put : (fronts : Key → Option Front) (i : ℕ) (t : Txn) (stored : Key → Bool) (first : ℕ) (j k : Key) (row : Option (List Value)) → written j t.own ≡ Some row
    → ((q : Key) → stored q ≡ true → Standing fronts i t first q) → put_at j true stored k ≡ true
    → Standing (put_at j (Some (record { node = i; tid = t.tid; row = row; first = first })) fronts) i t first k
stands_put fronts i t stored first j k row own h = by (same_key j k) refl
  where
    by : (b : Bool) → same_key j k ≡ b → (if b then true else stored k) ≡ true
        → (r : Option (List Value)) × (written k t.own ≡ Some r)
        × ((if b then Some (record { node = i; tid = t.tid; row = row; first = first }) else fronts k) ≡ Some (record { node = i; tid = t.tid; row = r; first = first }))
    by true e z = (row, subst (λ y. written y t.own ≡ Some row) (key_eq j k e) own, refl)
    by false e z = h k z

-- and nowhere else
only_put : (fronts : Key → Option Front) (i : ℕ) (stored : Key → Bool) (front : Front) (j k : Key) (f : Front)
    → ((q : Key) (f : Front) → fronts q ≡ Some f → f.node ≡ i → stored q ≡ true) → put_at j (Some front) fronts k ≡ Some f → f.node ≡ i → put_at j true stored k ≡ true
only_put fronts i stored front j k f h = by (same_key j k)
  where
    by : (b : Bool) → (if b then Some front else fronts k) ≡ Some f → f.node ≡ i → (if b then true else stored k) ≡ true
    by true z m = refl
    by false z m = h k f z m

module _ (w : World) (a : Ledger) (g : Ghost) (v : Inv w a g) where
  -- the least low-water mark that a node keeps is a known set, and above no copy and no active snapshot
  least_known : (n : ℕ) (floor : TidSet) → IsLeast w n floor → Snap floor g.finished
  least_known n floor least = subst (λ x. Snap x g.finished) (sym least.is_one.2) (v.core.managers.floor_known n least.is_one.0)

  least_floors : (n : ℕ) (floor : TidSet) → IsLeast w n floor → (j : ℕ) → j ≤ w.top → IsWithin floor (w.floors n j)
  least_floors n floor least j l =
      begins_within floor (w.floors n j) g.finished (least_known n floor least) (v.core.managers.floor_known n j) (least.begins_all j l)

  least_copies : (n : ℕ) (floor : TidSet) → IsLeast w n floor → (j : ℕ) → j ≤ w.top → IsWithin floor (w.copies j)
  least_copies n floor least j l = within_trans floor (w.floors n j) (w.copies j) (least_floors n floor least j l) (v.core.managers.floor_copy n j)

  least_snaps : (n : ℕ) (floor : TidSet) → IsLeast w n floor → (d : ℕ) (x : Active) → w.active d ≡ Some x → IsWithin floor x.snapshot
  least_snaps n floor least d x e =
      within_trans floor (w.floors n (w.home d)) x.snapshot (least_floors n floor least (w.home d) (v.core.managers.at_home d)) (v.core.managers.floor_snap n d x e)

  -- with what the cell is cut by
  store_own_with : (n stamp : ℕ) (floor : TidSet) (x : Attempt) (l : Loaded) (at : At w n (Trying x (Some l)))
      (same : (w.cells l.key).stamp ≡ l.stamp) (above : l.stamp < stamp) (least : IsLeast w n floor)
      → g.fronts l.key ≡ None → Clear (node_at w a g v n (Trying x (Some l)) at).txn.first l.key a.commits
      → (cut : TidSet) → has floor x.txn.tid ≡ false → IsKept (history l.key a.commits) cut (prune floor l.versions)
      → ((j : ℕ) → j ≤ w.top → IsWithin cut (w.copies j)) → ((d : ℕ) (y : Active) → w.active d ≡ Some y → IsWithin cut y.snapshot)
      → Kept w a g (StoreOwn n stamp floor x l at same above least)
  store_own_with n stamp floor x l at same above least free clear cut out kept copies snaps =
      let o = node_at w a g v n (Trying x (Some l)) at in
      let p = o.txn in
      let row : Option (List Value) = (own_version l.key x.txn).row in
      let front : Front = record { node = n; tid = x.txn.tid; row = row; first = p.first } in
      let vs : List Version = prune floor (own_version l.key x.txn ∷ l.versions) in
      let phase : Phase = Trying (record x { stored = put_at l.key true x.stored }) None in
      let grow = grows_store (base w) l stamp vs same above in
      record {
        ledger = a;
        ghost = record g { fronts = put_at l.key (Some front) g.fronts; cuts = put_at l.key cut g.cuts; phases = put n phase g.phases };
        inv = record {
          core = core_store (base w) a g v.core n phase l.key stamp vs (put_at l.key cut g.cuts) (Some front) grow (
            prune floor l.versions,
            ap (λ (b : Bool). own_version l.key x.txn ∷ (if b then [] else prune floor l.versions)) out,
            subst (λ (y : TidSet). IsKept (history l.key a.commits) y (prune floor l.versions)) (sym (put_at_same l.key cut g.cuts)) kept,
            clear,
          )
              (λ j ne. put_at_other l.key j cut g.cuts ne)
              (λ f e. absurd (nothing g.fronts l.key f free e))
              (λ f e. sym (ap (λ (y : Front). y.node) (same_Some front f e)))
              (managers_cut w.home w.top w.floors w.copies w.active g.cuts g.finished v.core.managers l.key cut copies snaps)
              (record {
                txn = record {
                  m = p.m;
                  known = p.known;
                  first = p.first;
                  first_is = p.first_is;
                  begun = p.begun;
                  unfinished = p.unfinished;
                  is_held = p.is_held;
                  stands = λ k. stands_put g.fronts n x.txn x.stored p.first l.key k row (own_row l.key x.txn o.hand.is_own) p.stands;
                  only = λ k f. only_put g.fronts n x.stored front l.key k f p.only;
                };
                log = o.log;
                hand = tt;
              })
              (active_at w a g v n (Trying x (Some l)) at);
          link = link_own (base w) (base (next w (StoreOwn n stamp floor x l at same above least))) (nodes_of w) (vanished_of a) (vanished_of a) g.phases g.menders n phase
              grow at.runs (λ i. refl) v.link;
        };
        tells = λ s h proper. record { allowed = tt; shows = h };
        ended = λ s t. refl;
        catalog = refl;
      }
    where
      nothing : (fronts : Key → Option Front) (k : Key) (f : Front) → fronts k ≡ None → fronts k ≡ Some f → ⊥
      nothing fronts k f e h = absurd cc

  -- nothing was in front of what was loaded, so the version may stand there
  pub store_own_kept : (n stamp : ℕ) (floor : TidSet) (x : Attempt) (l : Loaded) (at : At w n (Trying x (Some l)))
      (same : (w.cells l.key).stamp ≡ l.stamp) (above : l.stamp < stamp) (least : IsLeast w n floor)
      → Kept w a g (StoreOwn n stamp floor x l at same above least)
  store_own_kept n stamp floor x l at same above least =
      let o = node_at w a g v n (Trying x (Some l)) at in
      let p = o.txn in
      let q = o.hand in
      let k = l.key in
      let t = x.txn in
      let unmoved : (w.cells k).versions ≡ l.versions = q.load.same same in
      let free : g.fronts k ≡ None =
      no_front t.snapshot a.commits k (g.cuts k) (w.cells k).versions (g.fronts k) (unknown_front (base w) a g v.core t.snapshot p.m p.known k) (v.core.cells k)
      (ap (stranger t.snapshot) unmoved ∙ q.no_stranger) in
      let plain : IsKept (history k a.commits) (g.cuts k) (w.cells k).versions = subst (λ f. CellOk a.commits k (g.cuts k) (w.cells k).versions f) free (v.core.cells k) in
      let below : IsKept (history k a.commits) (g.cuts k) l.versions = subst (λ vs. IsKept (history k a.commits) (g.cuts k) vs) unmoved plain in
      let clear : Clear p.first k a.commits =
      clear_kept t.snapshot (g.cuts k) p.first k a.commits l.versions (txn_fits (base w) a g v.core n t x.stored (a.seats n).held _ true None p) below q.no_stranger in
      let out : has floor t.tid ≡ false = (least_known n floor least).known.strange t.tid p.unfinished in
      ⊎_elim
      (λ y. store_own_with n stamp floor x l at same above least free clear (g.cuts k) out y (λ j z. v.core.managers.cut_copy k j z) (λ d s z. v.core.managers.cut_snap k d s z))
      (λ y. store_own_with n stamp floor x l at same above least free clear floor out y (least_copies n floor least) (least_snaps n floor least))
      (prune_kept floor (g.cuts k) (history k a.commits) l.versions below)

  -- the version is removed from a record
  pub store_undo_kept : (n stamp : ℕ) (x : Attempt) (rival : Option ℕ) (l : Loaded) (at : At w n (Undoing x rival (Some l)))
      (same : (w.cells l.key).stamp ≡ l.stamp) (above : l.stamp < stamp) → Kept w a g (StoreUndo n stamp x rival l at same above)
  store_undo_kept n stamp x rival l at same above =
      let o = node_at w a g v n (Undoing x rival (Some l)) at in
      let phase : Phase = Undoing (record x { stored = put_at l.key false x.stored }) rival None in
      record {
        ledger = a;
        ghost = record g { fronts = put_at l.key None g.fronts; phases = put n phase g.phases };
        inv = record {
          core = core_strip (base w) a g v.core n stamp x rival (Some l) l (v.link.runs n at.runs ∙ at.so_far) o.hand.still o.hand.load same above;
          link = link_own (base w) (base (next w (StoreUndo n stamp x rival l at same above))) (nodes_of w) (vanished_of a) (vanished_of a) g.phases g.menders n phase
              (grows_store (base w) l stamp (strip x.txn.tid l.versions) same above) at.runs (λ i. refl) v.link;
        };
        tells = λ s h proper. record { allowed = tt; shows = h };
        ended = λ s t. refl;
        catalog = refl;
      }
