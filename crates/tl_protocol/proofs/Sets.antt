-- What sets of finished transactions know of them, and of the commits among them.
use Rattle.std.proofs.Common.{◌≡◌, ℕ, suc, ◌<◌, ◌≤◌, Bool, true, false, ⊎_elim, List, [], ◌∷◌, length, filter, Option, Some, None, refl, sym, ap, ◌∙◌, subst, arith}
use Rattle.std.specs.Prelude.{◌==◌, ◌^◌, ◌||◌, nat_le, nat_lt, if◌then◌else◌}
use Rattle.std.proofs.lemmas.Bool.{both_ways, cases_Bool, cases_lt, le-ltb, lt-ltb}
use Rattle.std.proofs.lemmas.Bool.Decides.{nat_tests}
use Rattle.tl_descriptor.specs.Tids.{TidSet, IsWithin, has, inserted, begins}
use Rattle.tl_descriptor.proofs.Members.{inserted_canonical, inserted_has}
use Rattle.tl_descriptor.proofs.Order.{begins_from_within, within_from_begins}
use Rattle.tl_manager.specs.Floor.{newer}
use Rattle.tl_manager.specs.State.{opening_copy}
use Rattle.tl_write.specs.declared.write.Write.{Write}
use Rattle.tl_isolation.specs.declared.state.Commit.{Commit}
use Rattle.tl_protocol.specs.Store.{Key}
use Rattle.tl_protocol.specs.Told.{count_in}
use Rattle.tl_protocol.proofs.Ledger.{CommittedLater}
use Rattle.tl_protocol.proofs.Finished.{Finished, Agree, AreDistinct, Fits, Known, OpensWith, Snap, commit_on, commits_of, firsts, is_done}

-- ---- one more is finished

done_behind : (u t : ℕ) (b : Bool) → (if u == t then true else b) ≡ false → b ≡ false
done_behind u t b e = grind arith

-- one more is finished: a set that was known stays so
pub known_more : (s : TidSet) (m : ℕ) (d : Finished) (ds : List Finished) → is_done d.tid ds ≡ false → Known s m ds → Known s m (d ∷ ds)
known_more s m d ds absent k = record {
  canonical = k.canonical;
  within = let w : m ≤ length ds = k.within in omega arith;
  agree = (k.strange d.tid absent ∙ sym (le-ltb (length ds) m k.within), k.agree);
  strange = λ tid e. k.strange tid (done_behind d.tid tid (is_done tid ds) e);
}

-- what has one tid more, has those at hand and that one
abbrev HasAlso : TidSet → ℕ → TidSet → Type 0
HasAlso s t r = (u : ℕ) → has r u ≡ (t == u || has s u)

also_here : (u t k n : ℕ) (h g : Bool) → k < n → h ≡ nat_lt k n → g ≡ (t == u || h) → g ≡ nat_lt k (suc n)
also_here u t k n h g l e f = grind (arith, nat_tests)

agree_also : (s r : TidSet) (t n : ℕ) (ds : List Finished) → HasAlso s t r → length ds ≤ n → Agree s n ds → Agree r (suc n) ds
agree_also s r t n [] more l a = tt
agree_also s r t n (d ∷ ds) more l a =
    (also_here d.tid t (length ds) n (has s d.tid) (has r d.tid) (omega arith) a.0 (more d.tid), agree_also s r t n ds more (omega arith) a.1)

newest_here : (t n : ℕ) (h g : Bool) → g ≡ (t == t || h) → g ≡ nat_lt n (suc n)
newest_here t n h g e = grind (arith, nat_tests)

also_strange : (t u : ℕ) (b h g : Bool) → (if t == u then true else b) ≡ false → (b ≡ false → h ≡ false) → g ≡ (t == u || h) → g ≡ false
also_strange t u b h g e f q = grind (arith, nat_tests)

-- and with it inserted into the set of all it is the set of all
pub known_insert : (s : TidSet) (d : Finished) (ds : List Finished) → d.tid ≤ 2 ^ 62 → is_done d.tid ds ≡ false → Known s (length ds) ds
    → Known (inserted s d.tid) (length (d ∷ ds)) (d ∷ ds)
known_insert s d ds small absent k =
    let more : HasAlso s d.tid (inserted s d.tid) = λ u. inserted_has s d.tid u k.canonical small in
    record {
      canonical = inserted_canonical s d.tid k.canonical small;
      within = omega arith;
      agree = (
        newest_here d.tid (length ds) (has s d.tid) (has (inserted s d.tid) d.tid) (more d.tid),
        agree_also s (inserted s d.tid) d.tid (length ds) ds more (omega arith) k.agree,
      );
      strange = λ tid e. also_strange d.tid tid (is_done tid ds) (has s tid) (has (inserted s d.tid) tid) e (k.strange tid) (more tid);
    }

-- ---- one set against another

done_step : (u t k m : ℕ) (b : Bool) (f : ℕ → Bool) → (if u == t then true else b) ≡ true → k < m → f u ≡ nat_lt k m → (b ≡ true → f t ≡ true) → f t ≡ true
done_step u t k m b f e l h r = grind (arith, nat_tests)

done_in : (s : TidSet) (m tid : ℕ) (ds : List Finished) → length ds ≤ m → Agree s m ds → is_done tid ds ≡ true → has s tid ≡ true
done_in s m tid [] l a e = absurd (both_ways false refl e)
done_in s m tid (d ∷ ds) l a e =
    done_step d.tid tid (length ds) m (is_done tid ds) (has s) e (omega arith) a.0 (done_in s m tid ds (omega arith) a.1)

-- the set of all that are finished has those that are finished
pub has_done : (s : TidSet) (ds : List Finished) → Known s (length ds) ds → (tid : ℕ) → has s tid ≡ is_done tid ds
has_done s ds k tid =
    ⊎_elim
    (λ e. done_in s (length ds) tid ds (omega arith) k.agree e ∙ sym e)
    (λ e. k.strange tid e ∙ sym e)
    (cases_Bool (is_done tid ds))

more_step : (u t k m n : ℕ) (b : Bool) (f g : ℕ → Bool) → m ≤ n → f u ≡ nat_lt k m → g u ≡ nat_lt k n → (if u == t then true else b) ≡ true
    → (b ≡ true → f t ≡ true → g t ≡ true) → f t ≡ true → g t ≡ true
more_step u t k m n b f g l p q e r h = grind (arith, nat_tests)

more_agree : (a b : TidSet) (m n tid : ℕ) (ds : List Finished) → m ≤ n → Agree a m ds → Agree b n ds → is_done tid ds ≡ true → has a tid ≡ true → has b tid ≡ true
more_agree a b m n tid [] l p q e h = absurd (both_ways false refl e)
more_agree a b m n tid (d ∷ ds) l p q e h =
    more_step d.tid tid (length ds) m n (is_done tid ds) (has a) (has b) l p.0 q.0 e (more_agree a b m n tid ds l p.1 q.1) h

-- fewer are within more
fewer_within : (a b : TidSet) (m n : ℕ) (ds : List Finished) → m ≤ n → Known a m ds → Known b n ds → IsWithin a b
fewer_within a b m n ds l p q = record {
  by = λ tid h. ⊎_elim
      (λ e. more_agree a b m n tid ds l p.agree q.agree e h)
      (λ e. absurd (both_ways (has a tid) (p.strange tid e) h))
      (cases_Bool (is_done tid ds));
}

-- what doesn't begin another is the longer of the two
longer : (a b : TidSet) (m n : ℕ) (ds : List Finished) → Known a m ds → Known b n ds → begins a b ≡ false → n ≤ m
longer a b m n ds p q e =
    ⊎_elim
    (λ (lt : m < n). absurd (both_ways (begins a b) e (begins_from_within a b p.canonical q.canonical (fewer_within a b m n ds (omega arith) p q))))
    (λ (le : n ≤ m). le)
    (cases_lt m n)

-- the newer of two sets is at least the second
pub record Newer (a b : TidSet) (n : ℕ) (ds : List Finished) : Type 0 where
  pub m : ℕ
  pub known : Known (newer a b) m ds
  pub above : n ≤ m

pub newer_known : (a b : TidSet) (m n : ℕ) (ds : List Finished) → Known a m ds → Known b n ds → Newer a b n ds
newer_known a b m n ds p q = by (begins a b) refl
  where
    by : (c : Bool) → begins a b ≡ c → Newer a b n ds
    by true e = record { m = n; known = subst (λ (c : Bool). Known (if c then b else a) n ds) (sym e) q; above = omega arith }
    by false e = record { m = m; known = subst (λ (c : Bool). Known (if c then b else a) m ds) (sym e) p; above = longer a b m n ds p q e }

pub within_refl : (a : TidSet) → IsWithin a a
within_refl a = record { by = λ tid h. h }

pub within_trans : (a b c : TidSet) → IsWithin a b → IsWithin b c → IsWithin a c
within_trans a b c p q = record { by = λ tid h. q.by tid (p.by tid h) }

-- and above both
pub newer_above : (a b : TidSet) (ds : List Finished) → Snap a ds → Snap b ds → IsWithin a (newer a b) × IsWithin b (newer a b)
newer_above a b ds p q = by (begins a b) refl
  where
    by : (c : Bool) → begins a b ≡ c → IsWithin a (if c then b else a) × IsWithin b (if c then b else a)
    by true e = (within_from_begins a b e, within_refl b)
    by false e = (within_refl a, fewer_within b a q.m p.m ds (longer a b p.m q.m ds p.known q.known e) q.known p.known)

-- one that begins another is within it
pub begins_within : (a b : TidSet) (ds : List Finished) → Snap a ds → Snap b ds → begins a b ≡ true → IsWithin a b
begins_within a b ds p q e = within_from_begins a b e

-- a known set is in the set of all
pub snap_within : (a b : TidSet) (ds : List Finished) → Snap a ds → Known b (length ds) ds → IsWithin a b
snap_within a b ds p k = fewer_within a b p.m (length ds) ds p.known.within p.known k

-- ---- how many of the first are committed

no_fewer : (tid : ℕ) (writes : Option (List Write)) (cs : List Commit) → length cs ≤ length (commit_on tid writes cs)
no_fewer tid None cs = omega arith
no_fewer tid (Some writes) cs = omega arith

pub firsts_all : (m : ℕ) (ds : List Finished) → length ds ≤ m → firsts m ds ≡ length (commits_of ds)
firsts_all m [] l = refl
firsts_all m (d ∷ ds) l = ap (λ (b : Bool). if b then length (commits_of (d ∷ ds)) else firsts m ds) (lt-ltb (length ds) m (omega arith))

pub firsts_more : (m : ℕ) (d : Finished) (ds : List Finished) → m ≤ length ds → firsts m (d ∷ ds) ≡ firsts m ds
firsts_more m d ds l = ap (λ (b : Bool). if b then length (commits_of (d ∷ ds)) else firsts m ds) (le-ltb (length ds) m l)

either_le : (b : Bool) (x y z : ℕ) → y ≤ x → z ≤ y → (if b then x else z) ≤ x
either_le b x y z l r = grind arith

pub firsts_le : (m : ℕ) (ds : List Finished) → firsts m ds ≤ length (commits_of ds)
firsts_le m [] = omega arith
firsts_le m (d ∷ ds) =
    either_le (nat_lt (length ds) m) (length (commits_of (d ∷ ds))) (length (commits_of ds)) (firsts m ds) (no_fewer d.tid d.writes (commits_of ds)) (firsts_le m ds)

both_rise : (k m n x y z w : ℕ) → m ≤ n → y ≤ z → z ≤ w → w ≤ x → (if nat_lt k m then x else y) ≤ (if nat_lt k n then x else z)
both_rise k m n x y z w l p q r = grind (arith, nat_tests)

pub firsts_mono : (m n : ℕ) (ds : List Finished) → m ≤ n → firsts m ds ≤ firsts n ds
firsts_mono m n [] l = omega arith
firsts_mono m n (d ∷ ds) l =
    both_rise (length ds) m n (length (commits_of (d ∷ ds))) (firsts m ds) (firsts n ds) (length (commits_of ds)) l (firsts_mono m n ds l) (firsts_le n ds)
    (no_fewer d.tid d.writes (commits_of ds))

-- ---- which of the commits a set has

-- a set of all has all commits
fits_all : (s : TidSet) (m n : ℕ) (ds : List Finished) → length ds ≤ m → length (commits_of ds) ≤ n → Agree s m ds → Fits s n (commits_of ds)
fits_all s m n [] l r a = tt
fits_all s m n (d ∷ ds) l r a = on d.writes r (λ q. fits_all s m n ds (omega arith) q a.1)
  where
    here : (h : Bool) (k j : ℕ) → h ≡ nat_lt k m → k < m → j < n → h ≡ nat_lt j n
    here h k j e p q = grind (arith, nat_tests)

    on : (writes : Option (List Write)) → length (commit_on d.tid writes (commits_of ds)) ≤ n → (length (commits_of ds) ≤ n → Fits s n (commits_of ds))
        → Fits s n (commit_on d.tid writes (commits_of ds))
    on None r f = f r
    on (Some writes) r f = (here (has s d.tid) (length ds) (length (commits_of ds)) a.0 (omega arith) (omega arith), f (omega arith))

pub fits : (s : TidSet) (m : ℕ) (ds : List Finished) → Agree s m ds → Fits s (firsts m ds) (commits_of ds)
fits s m [] a = tt
fits s m (d ∷ ds) a =
    ⊎_elim
    (λ (lt : length ds < m). subst (λ (n : ℕ). Fits s n (commits_of (d ∷ ds))) (sym (firsts_all m (d ∷ ds) (omega arith)))
    (fits_all s m (length (commits_of (d ∷ ds))) (d ∷ ds) (omega arith) (omega arith) a))
    (λ (le : m ≤ length ds). subst (λ (n : ℕ). Fits s n (commits_of (d ∷ ds))) (sym (firsts_more m d ds le)) (on le d.writes (fits s m ds a.1)))
    (cases_lt (length ds) m)
  where
    here : (h : Bool) (k n j : ℕ) → h ≡ nat_lt k m → m ≤ k → n ≤ j → h ≡ nat_lt j n
    here h k n j e p q = grind (arith, nat_tests)

    on : m ≤ length ds → (writes : Option (List Write)) → Fits s (firsts m ds) (commits_of ds) → Fits s (firsts m ds) (commit_on d.tid writes (commits_of ds))
    on le None f = f
    on le (Some writes) f = (here (has s d.tid) (length ds) (firsts m ds) (length (commits_of ds)) a.0 le (firsts_le m ds), f)

pub fits_up : (s : TidSet) (n m : ℕ) (cs : List Commit) → length cs ≤ n → length cs ≤ m → Fits s n cs → Fits s m cs
fits_up s n m [] l r f = tt
fits_up s n m (c ∷ cs) l r f = (here (has s c.tid) (length cs) f.0 (omega arith) (omega arith), fits_up s n m cs (omega arith) (omega arith) f.1)
  where
    here : (h : Bool) (k : ℕ) → h ≡ nat_lt k n → k < n → k < m → h ≡ nat_lt k m
    here h k e p q = grind (arith, nat_tests)

count_first : (h : Bool) (c : Commit) (cs : List Commit) → length (if h then c ∷ cs else cs) ≡ (if h then suc (length cs) else length cs)
count_first true c cs = refl
count_first false c cs = refl

-- a set that has exactly the first n commits has n of them
count_fits : (s : TidSet) (n : ℕ) (cs : List Commit) → n ≤ length cs → Fits s n cs → count_in s cs ≡ n
count_fits s n [] l f = omega arith
count_fits s n (c ∷ cs) l f =
    count_first (has s c.tid) c (filter (λ (c : Commit). has s c.tid) cs)
    ∙ ⊎_elim
    (λ (lt : length cs < n). all (has s c.tid) (length cs) (count_in s cs) f.0 lt l (count_fits s (length cs) cs (omega arith) (fits_up s n (length cs) cs (omega arith) (omega arith) f.1)))
    (λ (le : n ≤ length cs). some (has s c.tid) (length cs) (count_in s cs) f.0 le (count_fits s n cs le f.1))
    (cases_lt (length cs) n)
  where
    all : (h : Bool) (k x : ℕ) → h ≡ nat_lt k n → k < n → n ≤ suc k → x ≡ k → (if h then suc x else x) ≡ n
    all h k x e p q r = grind (arith, nat_tests)

    some : (h : Bool) (k x : ℕ) → h ≡ nat_lt k n → n ≤ k → x ≡ n → (if h then suc x else x) ≡ n
    some h k x e p r = grind (arith, nat_tests)

pub count_is : (s : TidSet) (m : ℕ) (ds : List Finished) → Agree s m ds → count_in s (commits_of ds) ≡ firsts m ds
count_is s m ds a = count_fits s (firsts m ds) (commits_of ds) (firsts_le m ds) (fits s m ds a)

done_later : (u t : ℕ) (b : Bool) → b ≡ true → (if u == t then true else b) ≡ true
done_later u t b e = grind arith

done_now : (u t : ℕ) (b : Bool) → u ≡ t → (if u == t then true else b) ≡ true
done_now u t b e = grind (arith, nat_tests)

-- what a commit after the first n writes was finished
pub later_done : (n tid : ℕ) (k : Key) (ds : List Finished) → CommittedLater n tid k (commits_of ds) → is_done tid ds ≡ true
later_done n tid k [] h = absurd h
later_done n tid k (d ∷ ds) h = on d.writes (later_done n tid k ds) h
  where
    on : (writes : Option (List Write)) → (CommittedLater n tid k (commits_of ds) → is_done tid ds ≡ true)
        → CommittedLater n tid k (commit_on d.tid writes (commits_of ds)) → (if d.tid == tid then true else is_done tid ds) ≡ true
    on None r h = done_later d.tid tid (is_done tid ds) (r h)
    on (Some writes) r h =
        ⊎_elim (λ now. done_now d.tid tid (is_done tid ds) now.0) (λ later. done_later d.tid tid (is_done tid ds) (r later)) h

-- ---- the opening set

opening_alone : (d : Finished) → d.tid ≡ 0 → Known opening_copy 1 (d ∷ [])
opening_alone d e = record {
  canonical = record { base_fits = omega arith; apart = refl };
  within = omega arith;
  agree = (here d.tid e, tt);
  strange = λ tid none. other d.tid tid e none;
}
  where
    here : (t : ℕ) → t ≡ 0 → (nat_le t 0 || false) ≡ nat_lt 0 1
    here t e = grind (arith, nat_tests)

    other : (t u : ℕ) → t ≡ 0 → (if t == u then true else false) ≡ false → (nat_le u 0 || false) ≡ false
    other t u e none = grind (arith, nat_tests)

-- the opening set has the first that finished, whatever finished since
pub opening_first : (ds : List Finished) → OpensWith ds → AreDistinct ds → Known opening_copy 1 ds
opening_first [] opens apart = absurd opens
opening_first (d ∷ []) opens apart = opening_alone d opens
opening_first (d ∷ e ∷ ds) opens apart = known_more opening_copy 1 d (e ∷ ds) apart.0 (opening_first (e ∷ ds) opens apart.1)

-- the first stays the first when one more is finished
pub opens_more : (d : Finished) (ds : List Finished) → OpensWith ds → OpensWith (d ∷ ds)
opens_more d [] opens = absurd opens
opens_more d (e ∷ ds) opens = opens

-- the opening set, of tid 0 alone
pub opening_known : (writes : List Write) → Known opening_copy 1 (record { tid = 0; writes = Some writes } ∷ [])
opening_known writes = opening_alone (record { tid = 0; writes = Some writes }) refl
