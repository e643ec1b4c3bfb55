-- Which cell bears a version of a transaction that isn't finished: that in which it stands in front.
use Rattle.std.proofs.Common.{◌≡◌, ℕ, Bool, true, false, List, [], ◌∷◌, ◌++◌, Option, Some, None, refl, ap, ◌∙◌, subst, arith}
use Rattle.std.specs.Prelude.{◌==◌, ◌||◌, if◌then◌else◌}
use Rattle.std.proofs.lemmas.Bool.{both_ways, eq-eqb, false≢true}
use Rattle.std.proofs.lemmas.Bool.Decides.{nat_tests}
use Rattle.tl_values.specs.declared.value.Value.{Value}
use Rattle.tl_descriptor.specs.Tids.{TidSet}
use Rattle.tl_versions.specs.declared.version.Version.{Version}
use Rattle.tl_versions.specs.Versions.{is_written as is_borne}
use Rattle.tl_write.specs.declared.write.Write.{Write}
use Rattle.tl_isolation.specs.declared.state.Commit.{Commit}
use Rattle.tl_isolation.specs.declared.state.Transaction.{Transaction}
use Rattle.tl_isolation.specs.declared.state.TxnPhase.{TxnPhase}
use Rattle.tl_protocol.specs.Store.{Key, written}
use Rattle.tl_protocol.specs.World.{Number, Begun, Txn}
use Rattle.tl_protocol.proofs.Ledger.{Ledger}
use Rattle.tl_protocol.proofs.Finished.{Finished, commit_on, commits_of, is_done}
use Rattle.tl_protocol.proofs.History.{IsKept, history, lay}
use Rattle.tl_protocol.proofs.Inv.{Base, CellOk, Core, Front, Ghost, TxnOk, shared}
use Rattle.tl_protocol.proofs.Owner.{owner}

-- what was laid on is borne, or it lies below
laid_on : (o : Option (Option (List Value))) (t u : ℕ) (b : Bool) (vs : List Version) → (is_borne u vs ≡ true → b ≡ true) → is_borne u (lay o t vs) ≡ true
    → (if t == u then true else b) ≡ true
laid_on None t u b vs f h = still (t == u) b (f h)
  where
    still : (c b : Bool) → b ≡ true → (if c then true else b) ≡ true
    still c b e = grind arith
laid_on (Some row) t u b vs f h = on (t == u) (is_borne u vs) b h f
  where
    on : (c x b : Bool) → c || x ≡ true → (x ≡ true → b ≡ true) → (if c then true else b) ≡ true
    on true x b e f = refl
    on false x b e f = f e

laid_commit : (k : Key) (u t : ℕ) (o : Option (List Write)) (b : Bool) (cs : List Commit) → (is_borne u (history k cs) ≡ true → b ≡ true)
    → is_borne u (history k (commit_on t o cs)) ≡ true → (if t == u then true else b) ≡ true
laid_commit k u t None b cs f h = still (t == u) b (f h)
  where
    still : (c b : Bool) → b ≡ true → (if c then true else b) ≡ true
    still c b e = grind arith
laid_commit k u t (Some ws) b cs f h = laid_on (written k ws) t u b (history k cs) f h

-- the transactions of the history are finished
pub borne_done : (k : Key) (u : ℕ) (ds : List Finished) → is_borne u (history k (commits_of ds)) ≡ true → is_done u ds ≡ true
borne_done k u [] h = absurd (false≢true h)
borne_done k u (d ∷ ds) h = laid_commit k u d.tid d.writes (is_done u ds) (commits_of ds) (borne_done k u ds) h

borne_longer : (u : ℕ) (vs gone : List Version) → is_borne u vs ≡ true → is_borne u (vs ++ gone) ≡ true
borne_longer u [] gone h = absurd (false≢true h)
borne_longer u (v ∷ vs) gone h = on (v.tid == u) (is_borne u vs) (is_borne u (vs ++ gone)) h (borne_longer u vs gone)
  where
    on : (c x y : Bool) → c || x ≡ true → (x ≡ true → y ≡ true) → c || y ≡ true
    on true x y e f = refl
    on false x y e f = f e

borne_kept : (u : ℕ) (h : List Version) (cut : TidSet) (vs : List Version) → IsKept h cut vs → is_borne u vs ≡ true → is_borne u h ≡ true
borne_kept u h cut vs k b = subst (λ x. is_borne u x ≡ true) k.whole (borne_longer u vs k.gone b)

-- a version that isn't of the history is the one in front
borne_front : (cs : List Commit) (k : Key) (u : ℕ) (cut : TidSet) (vs : List Version) (f : Option Front) → CellOk cs k cut vs f
    → (is_borne u (history k cs) ≡ true → ⊥) → is_borne u vs ≡ true → (x : Front) × (f ≡ Some x) × (x.tid ≡ u)
borne_front cs k u cut vs None c never h = absurd (never (borne_kept u (history k cs) cut vs c h))
borne_front cs k u cut vs (Some x) c never h =
    let h' : is_borne u (record { tid = x.tid; row = x.row } ∷ c.0) ≡ true = subst (λ y. is_borne u y ≡ true) c.1 h in
    (x, refl, on x.tid u (is_borne u c.0) h' (λ y. never (borne_kept u (history k cs) cut c.0 c.2 y)))
  where
    on : (t u : ℕ) (b : Bool) → (t == u) || b ≡ true → (b ≡ true → ⊥) → t ≡ u
    on t u b e f = grind (arith, nat_tests)

front_borne : (t : ℕ) (row : Option (List Value)) (vs : List Version) → is_borne t (record { tid = t; row = row } ∷ vs) ≡ true
front_borne t row vs = ap (λ b. b || is_borne t vs) (eq-eqb t t refl)

pub begun_once : (x : Number) (i j : ℕ) → x ≡ Begun i → x ≡ Begun j → i ≡ j
begun_once x i j e f = cc

module _ (b : Base) (a : Ledger) (g : Ghost) (c : Core b a g) (i : ℕ) (t : Txn) (stored : Key → Bool) (held : Option Transaction) (p : TxnPhase) (tried : Bool) (rival : Option ℕ)
    (o : TxnOk (shared b g) i t stored held p tried rival) (k : Key) where
  -- a cell that bears no version of the transaction is none in which it stands
  pub unborne : is_borne t.tid (b.cells k).versions ≡ false → stored k ≡ false
  unborne e = by (stored k) refl
    where
      by : (x : Bool) → stored k ≡ x → x ≡ false
      by false h = refl
      by true h =
          let it = o.stands k h in
          let ok : CellOk a.commits k (g.cuts k) (b.cells k).versions (Some (record { node = i; tid = t.tid; row = it.0; first = o.first })) =
          subst (λ f. CellOk a.commits k (g.cuts k) (b.cells k).versions f) it.2 (c.cells k) in
          absurd (both_ways (is_borne t.tid (b.cells k).versions) e (ap (is_borne t.tid) ok.1 ∙ front_borne t.tid it.0 ok.0))

  -- and one that does is
  pub borne : is_borne t.tid (b.cells k).versions ≡ true → stored k ≡ true
  borne h =
      let f = borne_front a.commits k t.tid (g.cuts k) (b.cells k).versions (g.fronts k) (c.cells k)
      (λ y. both_ways (is_done t.tid g.finished) o.unfinished (borne_done k t.tid g.finished (subst (λ x. is_borne t.tid (history k x) ≡ true) c.commits y))) h in
      let q = owner b a g c k f.0 f.1 in
      let u : b.numbers t.tid ≡ Begun f.0.node = subst (λ y. b.numbers y ≡ Begun f.0.node) f.2 q.begun in
      o.only k f.0 f.1 (begun_once (b.numbers t.tid) f.0.node i u o.begun)
