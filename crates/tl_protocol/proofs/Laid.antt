-- The tables after commits, by record; and the commits after a snapshot.
use Rattle.std.proofs.Common.{◌≡◌, ℕ, zero, suc, ◌+◌, ◌<◌, ◌≤◌, ⊎_elim, Bool, true, false, ◌&&◌, ◌||◌, cond, List, [], ◌∷◌, ◌++◌, length, Option, Some, None, is_some, take, drop, reverse, refl, sym, ap, subst, ◌∙◌, arith, ◌==◌, filter, Ordering, Less, Equal, Greater}
use Rattle.std.specs.FinMap as finmap
use Rattle.std.specs.Ordering.{is_eq, ordering_reverse}
use Rattle.std.specs.List.{list_any, AllByRecursion}
use Rattle.std.specs.Cmp.Lexicographic.{nat_list_cmp_total}
use Rattle.std.proofs.lemmas.Bool.{cases_lt, or_cases, or_left, or_right, or_from, and_from, false_from_ne_true, lt-ltb, le-ltb, eq-eqb}
use Rattle.std.proofs.lemmas.List.{reverse-append, length-append, length-reverse, take_all, take-append-le, drop-append-le, drop_all}
use Rattle.std.proofs.lemmas.List.Folds.{list_any-append}
use Rattle.std.proofs.lemmas.List.Elements.{filter-append}
use Rattle.tl_lemmas.proofs.Orders.{equal_itself, equal_turned}
use Rattle.tl_lemmas.proofs.Lists.{reverse_cons, weaker}
use Rattle.tl_values.specs.declared.value.Value.{Value}
use Rattle.tl_descriptor.specs.Tids.{TidSet, has}
use Rattle.tl_write.specs.declared.write.Write.{Write}
use Rattle.tl_write.specs.Own.{key_cmp, is_written}
use Rattle.tl_write.specs.Tables.{Tables, laid_over, laid_write}
use Rattle.tl_isolation.specs.declared.state.Commit.{Commit}
use Rattle.tl_isolation.specs.State.{tables_after, tables_from}
use Rattle.tl_protocol.specs.Store.{Key, last_of, over, same_key, written}
use Rattle.tl_protocol.specs.Told.{count_in}
use Rattle.tl_protocol.proofs.Ledger.{Clear, CommittedLater, view}
use Rattle.tl_write.proofs.Keys.{key_itself, key_turned}

get_insert : (tables : Tables) (k : Key) (row : List Value) (q : Key) → finmap.get (finmap.insert tables k row) q ≡ cond (same_key k q) (Some row) (finmap.get tables q)
get_insert tables k row q = finmap.get-insert nat_list_cmp_total tables k row q ∙ ap (λ (b : Bool). cond b (Some row) (finmap.get tables q)) (key_turned q k)

get_remove : (tables : Tables) (k q : Key) → finmap.get (finmap.remove tables k) q ≡ cond (same_key k q) None (finmap.get tables q)
get_remove tables k q = finmap.get-remove nat_list_cmp_total tables k q ∙ ap (λ (b : Bool). cond b None (finmap.get tables q)) (key_turned q k)

laid_one : (tables : Tables) (k : Key) (row : Option (List Value)) (q : Key) → finmap.get (laid_write tables (record { key = k; row = row })) q ≡ cond (same_key k q) row (finmap.get tables q)
laid_one tables k None q = get_remove tables k q
laid_one tables k (Some row) q = get_insert tables k row q

over_last : (b : Bool) (row below : Option (List Value)) (later : Option (Option (List Value))) → over later (cond b row below) ≡ over (last_of (cond b (Some row) None) later) below
over_last true row below None = refl
over_last false row below None = refl
over_last b row below (Some x) = refl

-- the row of a record once writes are laid over the tables
pub get_laid : (tables : Tables) (ws : List Write) (k : Key) → finmap.get (laid_over tables ws) k ≡ over (written k ws) (finmap.get tables k)
get_laid tables [] k = refl
get_laid tables (w ∷ ws) k =
    get_laid (laid_write tables w) ws k
    ∙ ap (λ (below : Option (List Value)). over (written k ws) below) (laid_one tables w.key w.row k)
    ∙ over_last (same_key w.key k) w.row (finmap.get tables k) (written k ws)

some_last : (b c : Bool) (row : Option (List Value)) (later : Option (Option (List Value))) → c ≡ is_some later → (b || c) ≡ is_some (last_of (cond b (Some row) None) later)
some_last true c row None h = refl
some_last false c row None h = h
some_last b c row (Some x) h = or_right b c h

-- a write is of the record where one is left
pub is_written_some : (k : Key) (ws : List Write) → is_written k ws ≡ is_some (written k ws)
is_written_some k [] = refl
is_written_some k (w ∷ ws) = some_last (same_key w.key k) (is_written k ws) w.row (written k ws) (is_written_some k ws)

tables_from_push : (tables : Tables) (cs : List Commit) (c : Commit) → tables_from tables (cs ++ c ∷ []) ≡ laid_over (tables_from tables cs) c.writes
tables_from_push tables [] c = refl
tables_from_push tables (d ∷ cs) c = tables_from_push (laid_over tables d.writes) cs c

-- the tables after the first n commits have the rows of its view
pub tables_viewed : (n : ℕ) (k : Key) (cs : List Commit) → finmap.get (tables_after (take n (reverse cs))) k ≡ view n k cs
tables_viewed zero k [] = finmap.get-empty key_cmp k
tables_viewed (suc n) k [] = finmap.get-empty key_cmp k
tables_viewed n k (c ∷ cs) =
    let before = tables_viewed n k cs in
    ap (λ (all : List Commit). finmap.get (tables_after (take n all)) k) (reverse_cons c cs)
    ∙ ⊎_elim
    (λ (less : length cs < n).
    let whole : length (reverse cs ++ c ∷ []) ≤ n = subst (λ (m : ℕ). m ≤ n) (sym (length-append (reverse cs) (c ∷ []) ∙ ap (λ (m : ℕ). m + 1) (length-reverse cs))) (omega arith) in
    let short : length (reverse cs) ≤ n = subst (λ (m : ℕ). m ≤ n) (sym (length-reverse cs)) (omega arith) in
    ap (λ (all : List Commit). finmap.get (tables_after all) k) (take_all n (reverse cs ++ c ∷ []) whole)
    ∙ ap (λ (tables : Tables). finmap.get tables k) (tables_from_push finmap.empty (reverse cs) c)
    ∙ get_laid (tables_after (reverse cs)) c.writes k
    ∙ ap (λ (all : List Commit). over (written k c.writes) (finmap.get (tables_after all) k)) (sym (take_all n (reverse cs) short))
    ∙ ap (over (written k c.writes)) before
    ∙ ap (λ (b : Bool). cond b (over (written k c.writes) (view n k cs)) (view n k cs)) (sym (lt-ltb (length cs) n less)))
    (λ (more : n ≤ length cs).
    let fits : n ≤ length (reverse cs) = subst (λ (m : ℕ). n ≤ m) (sym (length-reverse cs)) more in
    ap (λ (all : List Commit). finmap.get (tables_after all) k) (take-append-le n (reverse cs) (c ∷ []) fits)
    ∙ before
    ∙ ap (λ (b : Bool). cond b (over (written k c.writes) (view n k cs)) (view n k cs)) (sym (le-ltb (length cs) n more)))
    (cases_lt (length cs) n)

later_within : (n tid : ℕ) (k : Key) (cs : List Commit) → CommittedLater n tid k cs → n ≤ length cs
later_within n tid k [] h = absurd h
later_within n tid k (c ∷ cs) h = ⊎_elim (λ (i : (c.tid ≡ tid) × (is_written k c.writes ≡ true) × (n ≤ length cs)). let le = i.2 in omega arith) (λ i. let le = later_within n tid k cs i in omega arith) h

drop_later : (n : ℕ) (c : Commit) (cs : List Commit) → n ≤ length cs → drop n (reverse (c ∷ cs)) ≡ drop n (reverse cs) ++ c ∷ []
drop_later n c cs le =
    ap (drop n) (reverse_cons c cs) ∙ drop-append-le n (reverse cs) (c ∷ []) (subst (λ (m : ℕ). n ≤ m) (sym (length-reverse cs)) le)

-- a commit after the first n of this number that writes the record
pub later_any : (n tid : ℕ) (k : Key) (cs : List Commit) → CommittedLater n tid k cs
    → list_any (λ (c : Commit). (c.tid == tid) && is_written k c.writes) (drop n (reverse cs)) ≡ true
later_any n tid k [] h = absurd h
later_any n tid k (c ∷ cs) h =
    let test : Commit → Bool = λ c. (c.tid == tid) && is_written k c.writes in
    let le : n ≤ length cs = ⊎_elim (λ (i : (c.tid ≡ tid) × (is_written k c.writes ≡ true) × (n ≤ length cs)). i.2) (later_within n tid k cs) h in
    ap (list_any test) (drop_later n c cs le)
    ∙ list_any-append test (drop n (reverse cs)) (c ∷ [])
    ∙ ⊎_elim
    (λ (i : (c.tid ≡ tid) × (is_written k c.writes ≡ true) × (n ≤ length cs)).
    or_right (list_any test (drop n (reverse cs))) (list_any test (c ∷ []))
    (or_left (test c) false (and_from (c.tid == tid) (is_written k c.writes) (eq-eqb c.tid tid i.0) i.1)))
    (λ i. or_left (list_any test (drop n (reverse cs))) (list_any test (c ∷ [])) (later_any n tid k cs i))
    h

-- whether the commit writes a record of these
abbrev pub writes_one : List Write → Commit → Bool
writes_one own c = list_any (λ (w : Write). is_written w.key c.writes) own

-- what is so of each record that is written here
written_one : (L : Type 0) (own : List Write) (c : Commit) (ws : List Write) → AllByRecursion (λ (w : Write). is_written w.key own ≡ true) ws
    → ((k : Key) → is_written k own ≡ true → is_written k c.writes ≡ true → L) → writes_one ws c ≡ true → L
written_one L own c [] h f e = absurd cc
written_one L own c (w ∷ ws) h f e =
    ⊎_elim (λ i. f w.key h.0 i) (λ i. written_one L own c ws h.1 f i) (or_cases (is_written w.key c.writes) (writes_one ws c) e)

all_written : (own : List Write) → AllByRecursion (λ (w : Write). is_written w.key own ≡ true) own
all_written [] = tt
all_written (w ∷ ws) = (
  or_left (same_key w.key w.key) (is_written w.key ws) (key_itself w.key),
  weaker (λ (x : Write). is_written x.key ws ≡ true) (λ (x : Write). is_written x.key (w ∷ ws) ≡ true)
      (λ x i. or_right (same_key w.key x.key) (is_written x.key ws) i) ws (all_written ws),
)

-- no commit after the first n writes a record of these
pub none_later : (n : ℕ) (own : List Write) (cs : List Commit) → ((k : Key) → is_written k own ≡ true → Clear n k cs)
    → list_any (writes_one own) (drop n (reverse cs)) ≡ false
none_later zero own [] f = refl
none_later (suc n) own [] f = refl
none_later n own (c ∷ cs) f =
    ⊎_elim
    (λ (less : length cs < n).
    ap (list_any (writes_one own)) (drop_all n (reverse (c ∷ cs)) (subst (λ (m : ℕ). m ≤ n) (sym (length-reverse (c ∷ cs))) (omega arith))))
    (λ (more : n ≤ length cs).
    ap (list_any (writes_one own)) (drop_later n c cs more)
    ∙ list_any-append (writes_one own) (drop n (reverse cs)) (c ∷ [])
    ∙ or_from (list_any (writes_one own) (drop n (reverse cs))) (list_any (writes_one own) (c ∷ []))
    (none_later n own cs (λ k i. (f k i).1))
    (or_from (writes_one own c) false
    (false_from_ne_true (writes_one own c)
    (λ e. written_one ⊥ own c own (all_written own) (λ k i j. let below : length cs < n = (f k i).0 j in absurd (omega arith)) e)) refl))
    (cases_lt (length cs) n)

-- the order of the commits doesn't matter to their number
pub count_turned : (set : TidSet) (cs : List Commit) → count_in set (reverse cs) ≡ count_in set cs
count_turned set [] = refl
count_turned set (c ∷ cs) =
    ap (count_in set) (reverse_cons c cs)
    ∙ ap (λ (xs : List Commit). length xs) (filter-append (λ (c : Commit). has set c.tid) (reverse cs) (c ∷ []))
    ∙ length-append (filter (λ (c : Commit). has set c.tid) (reverse cs)) (filter (λ (c : Commit). has set c.tid) (c ∷ []))
    ∙ ap (λ (n : ℕ). n + count_in set (c ∷ [])) (count_turned set cs)
    ∙ one_more (has set c.tid) c (filter (λ (c : Commit). has set c.tid) cs)
  where
    one_more : (b : Bool) (c : Commit) (xs : List Commit) → length xs + length (cond b (c ∷ []) []) ≡ length (cond b (c ∷ xs) xs)
    one_more true c xs = omega arith
    one_more false c xs = omega arith
