-- Each cell of the store is a cell for its key: the rows of record cells are at home, and log cells name records.
use Rattle.std.proofs.Common.{◌≡◌, ℕ, ◌≤◌, ◌^◌, Bool, true, false, List, [], ◌∷◌, ◌++◌, Option, Some, None, reverse, refl, sym, ap, ◌∙◌, subst, arith}
use Rattle.std.specs.Prelude.{◌==◌, nat_lt, if◌then◌else◌}
use Rattle.std.specs.List.{AllByRecursion}
use Rattle.std.proofs.lemmas.Bool.{both_ways, eq-eqb, ltb-false, ltb-true}
use Rattle.tl_lemmas.proofs.Lists.{all_both, reverse_cons}
use Rattle.tl_values.specs.declared.value.Value.{Value}
use Rattle.tl_schema.specs.declared.catalog.Catalog.{Catalog}
use Rattle.tl_schema.specs.declared.catalog.Setup.{Setup}
use Rattle.tl_descriptor.specs.Tids.{TidSet}
use Rattle.tl_versions.specs.declared.version.Version.{Version}
use Rattle.tl_write.specs.declared.write.Write.{Write}
use Rattle.tl_isolation.specs.declared.entry.Entry.{Entry}
use Rattle.tl_isolation.specs.declared.state.Commit.{Commit}
use Rattle.tl_isolation.specs.declared.state.SiState.{SiState}
use Rattle.tl_isolation.specs.Tables.{IsHome}
use Rattle.tl_protocol.specs.Store.{Key, LogCell, last_of, same_key, written}
use Rattle.tl_protocol.specs.World.{Number, Undrawn, Carried, Ready, Begun, Opening, World}
use Rattle.tl_protocol.specs.Stands.{IsKeyOf, IsLogFor, IsVersionFor}
use Rattle.tl_protocol.proofs.Finished.{Finished, commit_on, commits_of, is_done}
use Rattle.tl_protocol.proofs.History.{IsKept, history, lay}
use Rattle.tl_protocol.proofs.Inv.{CellOk, Front, NumbersOk, base, is_begun, is_taken}
use Rattle.tl_protocol.proofs.Named.{IsNamed, held_home}
use Rattle.tl_protocol.proofs.Owner.{Owner, owner}
use Rattle.tl_protocol.proofs.Reached.{Reached}
use Rattle.tl_protocol.proofs.Shown.{AreHomeWrites, AreKeyed}
use Rattle.tl_write.proofs.Keys.{key_eq}

-- ---- lists

all_front : {X : Type 0} (P : X → Type 0) (xs ys : List X) → AllByRecursion P (xs ++ ys) → AllByRecursion P xs
all_front P [] ys h = tt
all_front P (x ∷ xs) ys h = (h.0, all_front P xs ys h.1)

all_back : {X : Type 0} (P : X → Type 0) (xs ys : List X) → AllByRecursion P (xs ++ ys) → AllByRecursion P ys
all_back P [] ys h = h
all_back P (x ∷ xs) ys h = all_back P xs ys h.1

all_turned : {X : Type 0} (P : X → Type 0) (xs : List X) → AllByRecursion P (reverse xs) → AllByRecursion P xs
all_turned P [] h = tt
all_turned P (x ∷ xs) h =
    let h' : AllByRecursion P (reverse xs ++ x ∷ []) = subst (AllByRecursion P) (reverse_cons x xs) h in
    ((all_back P (reverse xs) (x ∷ []) h').0, all_turned P xs (all_front P (reverse xs) (x ∷ []) h'))

-- ---- what is written under a key

-- a change of the record of this key: its row, if it has one, is home there
record IsChangeFor (catalog : Catalog) (key : Key) (row : Option (List Value)) : Type 0 where
  is_key : IsKeyOf catalog key
  home : (r : List Value) → row ≡ Some r → IsHome catalog key r

module _ (catalog : Catalog) where
  abbrev WrittenFor : Key → Option (Option (List Value)) → Type 0
  WrittenFor k None = Unit {0}
  WrittenFor k (Some row) = IsChangeFor catalog k row

  written_for : (k : Key) (ws : List Write) → AreHomeWrites catalog ws → AreKeyed catalog ws → WrittenFor k (written k ws)
  written_for k [] h i = tt
  written_for k (w ∷ ws) h i = by (same_key w.key k) refl (written k ws) (written_for k ws h.1 i.1)
    where
      by : (b : Bool) → same_key w.key k ≡ b → (later : Option (Option (List Value))) → WrittenFor k later
          → WrittenFor k (last_of (if b then Some w.row else None) later)
      by true e None f =
          subst (λ (j : Key). IsChangeFor catalog j w.row) (key_eq w.key k e) (record { is_key = i.0; home = h.0 })
      by false e None f = tt
      by true e (Some row) f = f
      by false e (Some row) f = f

  -- a commit whose number isn't too great
  abbrev IsCommitFor : Commit → Type 0
  IsCommitFor c = (c.tid ≤ 2 ^ 62) × (AreHomeWrites catalog c.writes × AreKeyed catalog c.writes)

  laid_for : (k : Key) (o : Option (Option (List Value))) (tid : ℕ) (vs : List Version) → tid ≤ 2 ^ 62 → WrittenFor k o
      → AllByRecursion (IsVersionFor catalog k) vs → AllByRecursion (IsVersionFor catalog k) (lay o tid vs)
  laid_for k None tid vs small f h = h
  laid_for k (Some row) tid vs small f h = (record { tid = small; is_key = f.is_key; home = f.home }, h)

  history_for : (k : Key) (cs : List Commit) → AllByRecursion IsCommitFor cs → AllByRecursion (IsVersionFor catalog k) (history k cs)
  history_for k [] h = tt
  history_for k (c ∷ cs) h =
      laid_for k (written k c.writes) c.tid (history k cs) h.0.0 (written_for k c.writes h.0.1.0 h.0.1.1) (history_for k cs h.1)

  kept_for : (k : Key) (cs : List Commit) (cut : TidSet) (vs : List Version) → IsKept (history k cs) cut vs → AllByRecursion IsCommitFor cs
      → AllByRecursion (IsVersionFor catalog k) vs
  kept_for k cs cut vs kept h =
      all_front (IsVersionFor catalog k) vs kept.gone (subst (AllByRecursion (IsVersionFor catalog k)) (sym kept.whole) (history_for k cs h))

  cell_for : (k : Key) (cs : List Commit) (cut : TidSet) (vs : List Version) (o : Option Front) → AllByRecursion IsCommitFor cs
      → ((f : Front) → o ≡ Some f → (f.tid ≤ 2 ^ 62) × IsChangeFor catalog k f.row) → CellOk cs k cut vs o → AllByRecursion (IsVersionFor catalog k) vs
  cell_for k cs cut vs None h front c = kept_for k cs cut vs c h
  cell_for k cs cut vs (Some f) h front c =
      let is = front f refl in
      subst (AllByRecursion (IsVersionFor catalog k)) (sym c.1)
      (record { tid = is.0; is_key = is.1.is_key; home = is.1.home }, kept_for k cs cut c.0 c.2 h)

-- ---- numbers

-- a number that the counter gave isn't too great
taken_small : (numbers : ℕ → Number) (counter t : ℕ) → NumbersOk numbers counter → is_taken (numbers t) ≡ true → t ≤ 2 ^ 62
taken_small numbers counter t ok h = by (nat_lt counter t) refl
  where
    by : (b : Bool) → nat_lt counter t ≡ b → t ≤ 2 ^ 62
    by true e = absurd (both_ways false refl (sym (ap is_taken (ok.undrawn t (ltb-true counter t e))) ∙ h))
    by false e =
        let low : t ≤ counter = ltb-false counter t e in
        let small : counter ≤ 2 ^ 62 = ok.small in
        omega arith

begun_taken : (x : Number) → is_begun x ≡ true → is_taken x ≡ true
begun_taken Undrawn h = absurd cc
begun_taken (Carried n) h = absurd cc
begun_taken (Ready m) h = absurd cc
begun_taken (Begun n) h = refl
begun_taken Opening h = absurd cc

on_small : (tid : ℕ) (o : Option (List Write)) (cs : List Commit) → tid ≤ 2 ^ 62 → AllByRecursion (λ (c : Commit). c.tid ≤ 2 ^ 62) cs
    → AllByRecursion (λ (c : Commit). c.tid ≤ 2 ^ 62) (commit_on tid o cs)
on_small tid None cs small h = h
on_small tid (Some ws) cs small h = (small, h)

commits_small : (ds : List Finished) → ((t : ℕ) → is_done t ds ≡ true → t ≤ 2 ^ 62) → AllByRecursion (λ (c : Commit). c.tid ≤ 2 ^ 62) (commits_of ds)
commits_small [] h = tt
commits_small (d ∷ ds) h =
    on_small d.tid d.writes (commits_of ds) (h d.tid (ap (λ (b : Bool). if b then true else is_done d.tid ds) (eq-eqb d.tid d.tid refl)))
    (commits_small ds (λ t e. h t (later (d.tid == t) (is_done t ds) e)))
  where
    later : (a b : Bool) → b ≡ true → (if a then true else b) ≡ true
    later true b e = refl
    later false b e = e

-- ---- record cells

module _ (setup : Setup) (w : World) (s : SiState) (es : List Entry) (r : Reached setup w s es) where
  all_commits : AllByRecursion (IsCommitFor setup.catalog) r.ledger.commits
  all_commits =
      all_both (λ (c : Commit). c.tid ≤ 2 ^ 62) (λ (c : Commit). AreHomeWrites setup.catalog c.writes × AreKeyed setup.catalog c.writes) r.ledger.commits
      (subst (AllByRecursion (λ (c : Commit). c.tid ≤ 2 ^ 62)) (sym r.inv.core.commits)
      (commits_small r.ghost.finished (λ t e. taken_small w.numbers w.counter t r.inv.core.numbers (r.inv.core.taken t e))))
      (all_turned (λ (c : Commit). AreHomeWrites setup.catalog c.writes × AreKeyed setup.catalog c.writes) r.ledger.commits
      (subst (AllByRecursion (λ (c : Commit). AreHomeWrites setup.catalog c.writes × AreKeyed setup.catalog c.writes)) r.shows.commits r.proper.commits))

  front_for : (k : Key) (f : Front) → r.ghost.fronts k ≡ Some f → (f.tid ≤ 2 ^ 62) × IsChangeFor setup.catalog k f.row
  front_for k f e =
      let o : Owner w.numbers r.ghost.finished k f (r.ledger.seats f.node).held (w.logs f.tid) = owner (base w) r.ledger r.ghost r.inv.core k f e in
      let home = held_home setup.catalog s r.ledger r.shows r.proper f.node o.t (r.inv.core.numbers.begun_at f.tid f.node o.begun) o.is_held in (
        taken_small w.numbers w.counter f.tid r.inv.core.numbers (ap is_taken o.begun),
        subst (WrittenFor setup.catalog k) o.row (written_for setup.catalog k o.t.own home.0 home.1),
      )

  pub records_for : (k : Key) → AllByRecursion (IsVersionFor w.catalog k) (w.cells k).versions
  records_for k =
      subst (λ (c : Catalog). AllByRecursion (IsVersionFor c k) (w.cells k).versions) (sym r.catalog)
      (cell_for setup.catalog k r.ledger.commits (r.ghost.cuts k) (w.cells k).versions (r.ghost.fronts k) all_commits (front_for k) (r.inv.core.cells k))

-- ---- log cells

logged_begun : (x : Bool) (o : Option LogCell) (log : LogCell) → (x ≡ false → o ≡ None) → o ≡ Some log → x ≡ true
logged_begun true o log h e = refl
logged_begun false o log h e = absurd (none (sym (h refl) ∙ e))
  where
    none : ◌≡◌ {A = Option LogCell} None (Some log) → ⊥
    none e = cc

pub logs_for : (setup : Setup) (w : World) (s : SiState) (es : List Entry) → Reached setup w s es → (tid : ℕ) (log : LogCell) → w.logs tid ≡ Some log
    → IsLogFor w.catalog tid log
logs_for setup w s es r tid log e =
    let is : IsNamed setup.catalog tid log = r.named tid log e in
    let begun : is_begun (w.numbers tid) ≡ true = logged_begun (is_begun (w.numbers tid)) (w.logs tid) log (r.inv.core.logs tid) e in
    record {
      own = is.0;
      small = taken_small w.numbers w.counter tid r.inv.core.numbers (begun_taken (w.numbers tid) begun);
      keys = subst (λ (c : Catalog). AllByRecursion (IsKeyOf c) log.entry.writes) (sym r.catalog) is.1;
    }
