-- Own writes, in rising order of keys.
use Rattle.std.proofs.Common.{◌≡◌, ℕ, zero, suc, ◌<◌, ◌≤◌, Bool, true, false, List, [], ◌∷◌, Option, Some, None, length, map, refl, sym, ap, ◌∙◌, subst, arith}
use Rattle.std.specs.Prelude.{◌||◌, slice_get, if◌then◌else◌}
use Rattle.std.proofs.lemmas.Bool.{and_from}
use Rattle.tl_lemmas.proofs.Lists.{some_at}
use Rattle.tl_lemmas.proofs.Tests.{and_first, and_second}
use Rattle.tl_logrec.specs.Entry.{are_rising, rise_from}
use Rattle.tl_write.specs.declared.write.Write.{Write}
use Rattle.tl_write.specs.Own.{is_rising, is_written}
use Rattle.tl_write.proofs.Rising.{none_below}
use Rattle.tl_protocol.specs.Next.{own_version}
use Rattle.tl_protocol.specs.Store.{last_of, same_key, written}
use Rattle.tl_protocol.specs.World.{Fresh}
use Rattle.tl_journal.specs.Ask.{StoreRecord}
use Rattle.tl_versions.specs.declared.version.Version.{Version}
use Rattle.tl_versions.specs.Versions.{prune}
use Rattle.tl_txn.specs.Attempt.{Attempt, txn_of}
use Rattle.tl_txn.specs.Taken.{next_versions}
use Rattle.tl_journal.proofs.Sizes.{keys_rise, keys_rise_from}
use Rattle.tl_write.proofs.Keys.{key_itself}

-- ---- their keys rise as they do

-- ---- the row of a write is the one that is written under its key

last_row : {A : Type 0} (b : Bool) (x : A) (o : Option A) → b ≡ true → o ≡ None → last_of (if b then Some x else None) o ≡ Some x
last_row true x None e h = refl
last_row true x (Some y) e h = absurd cc
last_row false x o e h = absurd cc

last_later : {A : Type 0} (b : Option A) (x : A) (o : Option A) → o ≡ Some x → last_of b o ≡ Some x
last_later b x None h = absurd cc
last_later b x (Some y) h = h

unwritten_one : {A : Type 0} (b c : Bool) (x : A) (o : Option A) → (c ≡ false → o ≡ None) → (b ≡ true → ⊥) → c ≡ false → last_of (if b then Some x else None) o ≡ None
unwritten_one true c x o h none e = absurd (none refl)
unwritten_one false c x o h none e = by o (h e)
  where
    by : {A : Type 0} (o : Option A) → o ≡ None → last_of None o ≡ None
    by None e = refl
    by (Some y) e = absurd cc

or_left : (a b : Bool) → a || b ≡ false → a ≡ true → ⊥
or_left true b h e = cc
or_left false b h e = cc

or_right : (a b : Bool) → a || b ≡ false → b ≡ false
or_right true b h = absurd cc
or_right false b h = h

unwritten : (k : List ℕ) (ws : List Write) → is_written k ws ≡ false → written k ws ≡ None
unwritten k [] e = refl
unwritten k (x ∷ ws) e =
    unwritten_one (same_key x.key k) (is_written k ws) x.row (written k ws) (unwritten k ws) (or_left (same_key x.key k) (is_written k ws) e)
    (or_right (same_key x.key k) (is_written k ws) e)

found_first : (w o : Write) (ws : List Write) → is_rising (w ∷ ws) ≡ true → w ≡ o → written o.key (w ∷ ws) ≡ Some o.row
found_first w o ws h e =
    subst (λ (x : Write). written x.key (w ∷ ws) ≡ Some x.row) e
    (last_row (same_key w.key w.key) w.row (written w.key ws) (key_itself w.key) (unwritten w.key ws (none_below w.key ws (and_first _ _ h))))

some_is : {A : Type 0} (x y : A) → ◌≡◌ {A = Option A} (Some x) (Some y) → x ≡ y
some_is x y e = cc

found : (own : List Write) (i : ℕ) (o : Write) → is_rising own ≡ true → slice_get own i ≡ Some o → written o.key own ≡ Some o.row
found [] i o h e = absurd cc
found (w ∷ ws) zero o h e = found_first w o ws h (some_is w o e)
found (w ∷ ws) (suc i) o h e = last_later _ o.row (written o.key ws) (found ws i o (and_second _ _ h) e)

pub own_row : (a : Attempt) (i : ℕ) (o : Write) → is_rising a.own ≡ true → slice_get a.own i ≡ Some o
    → own_version o.key (txn_of Fresh a) ≡ record { tid = a.tid; row = o.row }
own_row a i o h e = rw (found a.own i o h e) refl

-- ---- the write in hand

pub none_at : {A : Type 0} (xs : List A) (i : ℕ) → length xs ≤ i → slice_get xs i ≡ None
none_at [] i h = refl
none_at (x ∷ xs) zero h = absurd (omega arith)
none_at (x ∷ xs) (suc i) h = none_at xs i (omega arith)

-- what is asked of the own record in hand
pub asks_next : (a : Attempt) (i : ℕ) (x o : Write) (stamp : ℕ) (versions : List Version) → is_rising a.own ≡ true → slice_get a.own i ≡ Some x → slice_get a.own i ≡ Some o
    → StoreRecord x.key stamp (prune a.floor (record { tid = a.tid; row = x.row } ∷ versions)) ≡ StoreRecord o.key stamp (next_versions a o.key versions)
asks_next a i x o stamp versions h e f =
    let same : x ≡ o = some_is x o (sym e ∙ f) in
    let front : record { tid = a.tid; row = o.row } ≡ own_version o.key (txn_of Fresh a) = sym (own_row a i o h f) in
    subst (λ (w : Write). StoreRecord w.key stamp (prune a.floor (record { tid = a.tid; row = w.row } ∷ versions)) ≡ StoreRecord o.key stamp (next_versions a o.key versions))
    (sym same) (ap (λ (v : Version). StoreRecord o.key stamp (prune a.floor (v ∷ versions))) front)
