-- A record cell is the history of its record, with at most one version in front.
use Rattle.std.proofs.Common.{◌≡◌, ℕ, ◌<◌, ◌≤◌, Bool, true, false, ◌⊎◌, inl, inr, ⊎_elim, List, [], ◌∷◌, ◌++◌, length, Option, Some, None, refl, sym, ap, ◌∙◌, subst, append_assoc, append-nil, eq-eqb, arith}
use Rattle.std.specs.Prelude.{◌||◌, nat_lt, if◌then◌else◌}
use Rattle.std.specs.List.{list_any, AllByRecursion}
use Rattle.std.specs.Option.{is_some}
use Rattle.std.proofs.lemmas.Bool.{both_ways, le-ltb, lt-ltb, ltb-true, ltb-false, or_cases, or_left, or_right}
use Rattle.tl_values.specs.declared.value.Value.{Value}
use Rattle.tl_descriptor.specs.Tids.{TidSet, IsWithin, has}
use Rattle.tl_versions.specs.declared.version.Version.{Version}
use Rattle.tl_versions.specs.Versions.{visible, stranger, strip, prune}
use Rattle.tl_write.specs.declared.write.Write.{Write}
use Rattle.tl_write.specs.Own.{is_written}
use Rattle.tl_isolation.specs.declared.state.Commit.{Commit}
use Rattle.tl_protocol.specs.Store.{Key, over, last_of, row_of, row_shown, same_key, written}
use Rattle.tl_protocol.proofs.Ledger.{Clear, CommittedLater, view}
use Rattle.tl_protocol.proofs.Finished.{Fits}

abbrev pub lay : Option (Option (List Value)) → ℕ → List Version → List Version
lay None tid vs = vs
lay (Some row) tid vs = record { tid = tid; row = row } ∷ vs

-- the commits that wrote the record, the newest first
abbrev pub history : Key → List Commit → List Version
history k [] = []
history k (c ∷ cs) = lay (written k c.writes) c.tid (history k cs)

-- some version is of the set
abbrev pub any_in : TidSet → List Version → Bool
any_in s vs = list_any (λ (v : Version). has s v.tid) vs

-- the newest of h: all that is gone lies behind one that is in the cut
pub record IsKept (h : List Version) (cut : TidSet) (vs : List Version) : Type 0 where
  pub gone : List Version
  pub whole : vs ++ gone ≡ h
  pub covered : (gone ≡ []) ⊎ (any_in cut vs ≡ true)

-- ---- whether a record is written

last_is : (first : Bool) (w : Option (List Value)) (later : Option (Option (List Value))) → is_some (last_of (if first then Some w else None) later) ≡ (first || is_some later)
last_is true w None = refl
last_is false w None = refl
last_is true w (Some row) = refl
last_is false w (Some row) = refl

-- whether a record is written
pub written_is : (k : Key) (ws : List Write) → is_written k ws ≡ is_some (written k ws)
written_is k [] = refl
written_is k (w ∷ ws) =
    ap (λ (b : Bool). same_key w.key k || b) (written_is k ws) ∙ sym (last_is (same_key w.key k) w.row (written k ws))

-- ---- what a set shows

-- in front of what h shows, the set shows a row that it has
shown_on : (s : TidSet) (o : Option (Option (List Value))) (tid l n : ℕ) (vs : List Version) (below : Option (List Value)) → has s tid ≡ nat_lt l n → row_shown s vs ≡ below
    → row_shown s (lay o tid vs) ≡ (if nat_lt l n then over o below else below)
shown_on s None tid l n vs below h e = e ∙ same (nat_lt l n)
  where
    same : (b : Bool) → below ≡ (if b then below else below)
    same true = refl
    same false = refl
shown_on s (Some row) tid l n vs below h e = by (has s tid) (nat_lt l n) h
  where
    by : (b c : Bool) → b ≡ c → row_of (if b then Some (record { tid = tid; row = row }) else visible s vs) ≡ (if c then row else below)
    by true true q = refl
    by false false q = e
    by true false q = absurd cc
    by false true q = absurd cc

shown_history : (s : TidSet) (n : ℕ) (k : Key) (cs : List Commit) → Fits s n cs → row_shown s (history k cs) ≡ view n k cs
shown_history s n k [] f = refl
shown_history s n k (c ∷ cs) f =
    shown_on s (written k c.writes) c.tid (length cs) n (history k cs) (view n k cs) f.0 (shown_history s n k cs f.1)

-- what is gone lies behind what the set shows
shown_front : (s : TidSet) (vs gone : List Version) → any_in s vs ≡ true → visible s (vs ++ gone) ≡ visible s vs
shown_front s [] gone h = absurd (both_ways false refl h)
shown_front s (v ∷ vs) gone h = by (has s v.tid) h (shown_front s vs gone)
  where
    by : (b : Bool) → (b || any_in s vs) ≡ true → (any_in s vs ≡ true → visible s (vs ++ gone) ≡ visible s vs)
        → ◌≡◌ {A = Option Version} (if b then Some v else visible s (vs ++ gone)) (if b then Some v else visible s vs)
    by true e f = refl
    by false e f = f e

any_rises : (a b : TidSet) (vs : List Version) → IsWithin a b → any_in a vs ≡ true → any_in b vs ≡ true
any_rises a b [] w h = h
any_rises a b (v ∷ vs) w h =
    ⊎_elim
    (λ here. or_left (has b v.tid) (any_in b vs) (w.by v.tid here))
    (λ later. or_right (has b v.tid) (any_in b vs) (any_rises a b vs w later))
    (or_cases (has a v.tid) (any_in a vs) h)

all_there : (vs gone h : List Version) → vs ++ gone ≡ h → gone ≡ [] → vs ≡ h
all_there vs gone h whole none = sym (append-nil vs) ∙ ap (λ (x : List Version). vs ++ x) (sym none) ∙ whole

-- a set above the cut that has exactly the first n commits shows what they left
pub shown_kept : (s cut : TidSet) (n : ℕ) (k : Key) (cs : List Commit) (vs : List Version) → Fits s n cs → IsWithin cut s → IsKept (history k cs) cut vs
    → row_shown s vs ≡ view n k cs
shown_kept s cut n k cs vs f w kept =
    ⊎_elim
    (λ e. ap (row_shown s) (all_there vs kept.gone (history k cs) kept.whole e))
    (λ e. ap row_of (sym (shown_front s vs kept.gone (any_rises cut s vs w e))) ∙ ap (row_shown s) kept.whole)
    kept.covered
    ∙ shown_history s n k cs f

-- ---- a version outside a set

later_on : (s : TidSet) (k : Key) (c : Commit) (o : Option (Option (List Value))) (l n r : ℕ) (vs : List Version) → is_written k c.writes ≡ is_some o → has s c.tid ≡ nat_lt l n
    → stranger s (lay o c.tid vs) ≡ Some r → ((c.tid ≡ r) × (is_written k c.writes ≡ true) × (n ≤ l)) ⊎ (stranger s vs ≡ Some r)
later_on s k c None l n r vs w h e = inr e
later_on s k c (Some row) l n r vs w h e = by (has s c.tid) h e
  where
    by : (b : Bool) → b ≡ nat_lt l n → (if b then stranger s vs else Some c.tid) ≡ Some r → ((c.tid ≡ r) × (is_written k c.writes ≡ true) × (n ≤ l)) ⊎ (stranger s vs ≡ Some r)
    by true q e = inr e
    by false q e = inl (cc, w, ltb-false l n (sym q))

later_history : (s : TidSet) (n r : ℕ) (k : Key) (cs : List Commit) → Fits s n cs → stranger s (history k cs) ≡ Some r → CommittedLater n r k cs
later_history s n r k [] f e = absurd cc
later_history s n r k (c ∷ cs) f e =
    ⊎_elim (λ here. inl here) (λ later. inr (later_history s n r k cs f.1 later))
    (later_on s k c (written k c.writes) (length cs) n r (history k cs) (written_is k c.writes) f.0 e)

stranger_front : (s : TidSet) (vs gone : List Version) (r : ℕ) → stranger s vs ≡ Some r → stranger s (vs ++ gone) ≡ Some r
stranger_front s [] gone r e = absurd cc
stranger_front s (v ∷ vs) gone r e = by (has s v.tid) e (stranger_front s vs gone r)
  where
    by : (b : Bool) → (if b then stranger s vs else Some v.tid) ≡ Some r → (stranger s vs ≡ Some r → stranger s (vs ++ gone) ≡ Some r)
        → (if b then stranger s (vs ++ gone) else Some v.tid) ≡ Some r
    by true e f = f e
    by false e f = e

-- a version outside such a set was committed after the first n
pub stranger_later : (s cut : TidSet) (n r : ℕ) (k : Key) (cs : List Commit) (vs : List Version) → Fits s n cs → IsKept (history k cs) cut vs
    → stranger s vs ≡ Some r → CommittedLater n r k cs
stranger_later s cut n r k cs vs f kept e =
    later_history s n r k cs f (subst (λ (x : List Version). stranger s x ≡ Some r) kept.whole (stranger_front s vs kept.gone r e))

-- ---- no version outside a set

-- all commits are among the first n
clear_all : (n : ℕ) (k : Key) (cs : List Commit) → length cs ≤ n → Clear n k cs
clear_all n k [] l = tt
clear_all n k (c ∷ cs) l = (λ e. let g : length cs < n = omega arith in g, clear_all n k cs (omega arith))

-- where nothing is left, nothing is gone
abbrev IsHeaded : List Version → List Version → Type 0
IsHeaded [] gone = gone ≡ []
IsHeaded (v ∷ vs) gone = Unit {0}

is_headed : (cut : TidSet) (vs gone : List Version) → (gone ≡ []) ⊎ (any_in cut vs ≡ true) → IsHeaded vs gone
is_headed cut [] gone o = ⊎_elim (λ e. e) (λ e. absurd (both_ways false refl e)) o
is_headed cut (v ∷ vs) gone o = tt

-- the newest of all is the newest that is left
newest_left : (s : TidSet) (tid : ℕ) (row : Option (List Value)) (h vs gone : List Version) → vs ++ gone ≡ record { tid = tid; row = row } ∷ h → IsHeaded vs gone
    → stranger s vs ≡ None → has s tid ≡ true
newest_left s tid row h [] gone e headed none = absurd cc
newest_left s tid row h (v ∷ vs) gone e headed none =
    let first : v ≡ record { tid = tid; row = row } = cc in
    subst (λ (x : Version). has s x.tid ≡ true) first (by (has s v.tid) none)
  where
    by : (b : Bool) → (if b then stranger s vs else Some v.tid) ≡ None → b ≡ true
    by true q = refl
    by false q = absurd cc

clear_on : (s : TidSet) (n : ℕ) (k : Key) (c : Commit) (o : Option (Option (List Value))) (cs : List Commit) (vs gone : List Version) → is_written k c.writes ≡ is_some o
    → has s c.tid ≡ nat_lt (length cs) n → vs ++ gone ≡ lay o c.tid (history k cs) → IsHeaded vs gone → stranger s vs ≡ None → (vs ++ gone ≡ history k cs → Clear n k cs)
    → Clear n k (c ∷ cs)
clear_on s n k c None cs vs gone w h whole headed none others = (λ e. absurd (both_ways (is_written k c.writes) w e), others whole)
clear_on s n k c (Some row) cs vs gone w h whole headed none others =
    let here : length cs < n = ltb-true (length cs) n (sym h ∙ newest_left s c.tid row (history k cs) vs gone whole headed none) in
    (λ e. here, clear_all n k cs (omega arith))

clear_left : (s : TidSet) (n : ℕ) (k : Key) (cs : List Commit) (vs gone : List Version) → Fits s n cs → vs ++ gone ≡ history k cs → IsHeaded vs gone → stranger s vs ≡ None → Clear n k cs
clear_left s n k [] vs gone f whole headed none = tt
clear_left s n k (c ∷ cs) vs gone f whole headed none =
    clear_on s n k c (written k c.writes) cs vs gone (written_is k c.writes) f.0 whole headed none (λ e. clear_left s n k cs vs gone f.1 e headed none)

-- with none all commits of the record are among the first n
pub clear_kept : (s cut : TidSet) (n : ℕ) (k : Key) (cs : List Commit) (vs : List Version) → Fits s n cs → IsKept (history k cs) cut vs
    → stranger s vs ≡ None → Clear n k cs
clear_kept s cut n k cs vs f kept none = clear_left s n k cs vs kept.gone f kept.whole (is_headed cut vs kept.gone kept.covered) none

-- ---- what becomes of a cell

pub strip_front : (tid : ℕ) (row : Option (List Value)) (vs : List Version) → strip tid (record { tid = tid; row = row } ∷ vs) ≡ vs
strip_front tid row vs = ap (λ (b : Bool). if b then vs else record { tid = tid; row = row } ∷ strip tid vs) (eq-eqb tid tid refl)

-- what is pruned is itself the newest, with the floor for a cut
pruned : (floor : TidSet) (vs : List Version) → IsKept vs floor (prune floor vs)
pruned floor [] = record { gone = []; whole = refl; covered = inl refl }
pruned floor (v ∷ vs) = by (has floor v.tid) refl (pruned floor vs)
  where
    by : (b : Bool) → has floor v.tid ≡ b → IsKept vs floor (prune floor vs) → IsKept (v ∷ vs) floor (v ∷ (if b then [] else prune floor vs))
    by true e kept = record { gone = vs; whole = refl; covered = inr (or_left (has floor v.tid) false e) }
    by false e kept = record {
      gone = kept.gone;
      whole = ap (λ (x : List Version). v ∷ x) kept.whole;
      covered = ⊎_elim (λ q. inl q) (λ q. inr (or_right (has floor v.tid) (any_in floor (prune floor vs)) q)) kept.covered;
    }

-- pruned again, the cut is the old one or the floor
pub prune_kept : (floor cut : TidSet) (h vs : List Version) → IsKept h cut vs → (IsKept h cut (prune floor vs)) ⊎ (IsKept h floor (prune floor vs))
prune_kept floor cut h vs kept =
    let p = pruned floor vs in
    ⊎_elim
    (λ e. inl (subst (IsKept h cut) (sym (all_there (prune floor vs) p.gone vs p.whole e)) kept))
    (λ e. inr (record {
      gone = p.gone ++ kept.gone;
      whole = sym (append_assoc (prune floor vs) p.gone kept.gone) ∙ ap (λ (x : List Version). x ++ kept.gone) p.whole ∙ kept.whole;
      covered = inr e;
    }))
    p.covered

-- one more in front of both
pub kept_more : (cut : TidSet) (h vs : List Version) (v : Version) → IsKept h cut vs → IsKept (v ∷ h) cut (v ∷ vs)
kept_more cut h vs v kept = record {
  gone = kept.gone;
  whole = ap (λ (x : List Version). v ∷ x) kept.whole;
  covered = ⊎_elim (λ e. inl e) (λ e. inr (or_right (has cut v.tid) (any_in cut vs) e)) kept.covered;
}

-- ---- one commit more

-- a commit that doesn't write the record leaves its history, and one that does lays its row in front
pub history_other : (k : Key) (c : Commit) (cs : List Commit) → written k c.writes ≡ None → history k (c ∷ cs) ≡ history k cs
history_other k c cs e = ap (λ (o : Option (Option (List Value))). lay o c.tid (history k cs)) e

pub history_own : (k : Key) (c : Commit) (row : Option (List Value)) (cs : List Commit) → written k c.writes ≡ Some row
    → history k (c ∷ cs) ≡ record { tid = c.tid; row = row } ∷ history k cs
history_own k c row cs e = ap (λ (o : Option (Option (List Value))). lay o c.tid (history k cs)) e

-- a view of the first n doesn't know of one commit more
pub view_more : (n : ℕ) (k : Key) (c : Commit) (cs : List Commit) → n ≤ length cs → view n k (c ∷ cs) ≡ view n k cs
view_more n k c cs l = ap (λ (b : Bool). if b then over (written k c.writes) (view n k cs) else view n k cs) (le-ltb (length cs) n l)

pub clear_more : (n : ℕ) (k : Key) (c : Commit) (cs : List Commit) → is_written k c.writes ≡ false → Clear n k cs → Clear n k (c ∷ cs)
clear_more n k c cs e clear = (λ q. absurd (both_ways (is_written k c.writes) e q), clear)

abbrev AllOf : TidSet → List Version → Type 0
AllOf s = AllByRecursion (λ (v : Version). has s v.tid ≡ true)

all_laid : (s : TidSet) (o : Option (Option (List Value))) (tid : ℕ) (vs : List Version) → has s tid ≡ true → AllOf s vs → AllOf s (lay o tid vs)
all_laid s None tid vs h all = all
all_laid s (Some row) tid vs h all = (h, all)

-- a set that has exactly the first n commits has all that they wrote
pub all_in_history : (s : TidSet) (n : ℕ) (k : Key) (cs : List Commit) → length cs ≤ n → Fits s n cs → AllByRecursion (λ (v : Version). has s v.tid ≡ true) (history k cs)
all_in_history s n k [] l f = tt
all_in_history s n k (c ∷ cs) l f =
    all_laid s (written k c.writes) c.tid (history k cs) (f.0 ∙ lt-ltb (length cs) n (omega arith)) (all_in_history s n k cs (omega arith) f.1)
