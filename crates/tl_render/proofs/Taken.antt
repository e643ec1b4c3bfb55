-- One event more takes what it stored; and the entries of a map of references are the cells that they point to.
use Rattle.std.proofs.Common.{◌≡◌, ℕ, Bool, Bor, true, false, cond, List, [], ◌∷◌, Option, Some, None, Result, Ok, Err, OnOk, map, refl, ap, ◌∙◌}
use Rattle.std.specs.Prelude.{◌&&◌, if◌then◌else◌}
use Rattle.std.specs.Option.{option_map}
use Rattle.std.specs.Cmp.Lexicographic.{nat_list_cmp_total}
use Rattle.std.specs.FinMap as finmap
use Rattle.std.specs.FinMap.Entries.{below_all, find, is_sorted}
use Rattle.std.specs.Ordering.{is_lt}
use Rattle.tl_write.specs.Own.{key_cmp}
use Rattle.tl_protocol.specs.Store.{Key, last_of, same_key}
use Rattle.tl_render.specs.Stored.{Stored, stored_at}
use Rattle.tl_write.proofs.Keys.{key_turned}

none_before : (o : Option (List ℕ)) → last_of None o ≡ o
none_before None = refl
none_before (Some bytes) = refl

-- before the first event
pub stored_none : {B : Type 0} (stores : finmap.FinMap key_cmp B) (f : B → List ℕ) (o : Option (List ℕ)) (q : Key) → stores ≡ finmap.empty
    → last_of (option_map f (finmap.get stores q)) o ≡ o
stored_none stores f o q none =
    ap (λ (m : finmap.FinMap key_cmp _). last_of (option_map f (finmap.get m q)) o) none
    ∙ ap (λ (x : Option _). last_of (option_map f x) o) (finmap.get-empty key_cmp q)
    ∙ none_before o

put_in : {B : Type 0} (old new : finmap.FinMap key_cmp B) (f : B → List ℕ) (k : Key) (b : B) → new ≡ finmap.insert old k b → (q : Key)
    → option_map f (finmap.get new q) ≡ last_of (option_map f (finmap.get old q)) (stored_at q (Some (k, f b)))
put_in old new f k b is q =
    ap (λ (m : finmap.FinMap key_cmp _). option_map f (finmap.get m q)) is
    ∙ ap (option_map f) (finmap.get-insert nat_list_cmp_total old k b q)
    ∙ by (same_key q k)
    ∙ ap (λ (c : Bool). last_of (option_map f (finmap.get old q)) (if c then Some (f b) else None)) (key_turned q k)
  where
    by : (c : Bool) → option_map f (cond c (Some b) (finmap.get old q)) ≡ last_of (option_map f (finmap.get old q)) (if c then Some (f b) else None)
    by true = refl
    by false = refl

-- an event that stored these bytes
pub takes_store : {E B : Type 0} (r : Result (Unit {0}) E) (stored : Option Stored) (old new : finmap.FinMap key_cmp B) (f : B → List ℕ) (k : Key) (b : B) → Some (k, f b) ≡ stored
    → OnOk r (new ≡ finmap.insert old k b)
    → OnOk r ((q : Key) → option_map f (finmap.get new q) ≡ last_of (option_map f (finmap.get old q)) (stored_at q stored))
takes_store (Err e) stored old new f k b is put = tt
takes_store (Ok done) stored old new f k b is put = λ q.
    put_in old new f k b put q ∙ ap (λ (s : Option Stored). last_of (option_map f (finmap.get old q)) (stored_at q s)) is

-- ---- entries

-- what a reference points to
abbrev pub pointed : Bor (List ℕ) → List ℕ
pointed b = b.now

abbrev pub cells_of : {B : Type 0} → (B → List ℕ) → List (Key × B) → List Stored
cells_of f es = map (λ e. (e.0, f e.1)) es

below_same : {B : Type 0} (f : B → List ℕ) (k : Key) (es : List (Key × B)) → below_all key_cmp k (cells_of f es) ≡ below_all key_cmp k es
below_same f k [] = refl
below_same f k (e ∷ es) = ap (λ (b : Bool). is_lt (key_cmp k e.0) && b) (below_same f k es)

pub sorted_same : {B : Type 0} (f : B → List ℕ) (es : List (Key × B)) → is_sorted key_cmp (cells_of f es) ≡ is_sorted key_cmp es
sorted_same f [] = refl
sorted_same f (e ∷ es) = λ i. below_same f e.0 es i && sorted_same f es i

pub find_same : {B : Type 0} (f : B → List ℕ) (q : Key) (es : List (Key × B)) → find key_cmp q (cells_of f es) ≡ option_map f (find key_cmp q es)
find_same f q [] = refl
find_same f q (e ∷ es) = by (same_key q e.0) (find_same f q es)
  where
    by : (b : Bool) → find key_cmp q (cells_of f es) ≡ option_map f (find key_cmp q es)
        → cond b (Some (f e.1)) (find key_cmp q (cells_of f es)) ≡ option_map f (cond b (Some e.1) (find key_cmp q es))
    by true rest = refl
    by false rest = rest
