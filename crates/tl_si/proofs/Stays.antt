-- What holds of each state that entries lead to holds after one entry more.
use Rattle.std.proofs.Common.{◌≡◌, ℕ, zero, suc, ◌==◌, Bool, true, false, not, ◌||◌, cond, List, [], ◌∷◌, ◌++◌, Option, Some, None, Result, Ok, Err, map, filter, find, take, refl, sym, ap, subst, ◌∙◌}
use Rattle.std.specs.Prelude.{if◌then◌else◌}
use Rattle.std.specs.List.{list_any, AllByRecursion}
use Rattle.std.proofs.lemmas.Bool.{both_ways, eq-eqb, eqb-true}
use Rattle.std.proofs.lemmas.List.Folds.{list_any-append}
use Rattle.std.proofs.lemmas.Option.{same_Some}
use Rattle.tl_lemmas.proofs.Lists.{all_filter, all_map, all_push, found, weaker}
use Rattle.tl_lemmas.proofs.Tests.{or_second}
use Rattle.tl_schema.specs.declared.catalog.Catalog.{Catalog}
use Rattle.tl_schema.specs.declared.catalog.Setup.{Setup}
use Rattle.tl_algebra.specs.declared.edit.Edit.{Edit}
use Rattle.tl_algebra.specs.declared.edit.Edit.TheVariants.{Insert, Update, Delete}
use Rattle.tl_write.specs.declared.fault.ChangeFault.{ChangeFault}
use Rattle.tl_write.specs.declared.write.Effect.{Effect}
use Rattle.tl_isolation.specs.declared.bound.Bound.{Bound}
use Rattle.tl_isolation.specs.declared.bound.Bound.TheVariants as bound
use Rattle.tl_isolation.specs.declared.entry.Answer.{Answer}
use Rattle.tl_isolation.specs.declared.entry.Entry.{Entry}
use Rattle.tl_isolation.specs.declared.entry.Entry.TheVariants as entry
use Rattle.tl_isolation.specs.declared.entry.Said.{Said}
use Rattle.tl_isolation.specs.declared.state.Commit.{Commit}
use Rattle.tl_isolation.specs.declared.state.SiState.{SiState}
use Rattle.tl_isolation.specs.declared.state.Transaction.{Transaction}
use Rattle.tl_isolation.specs.State.{held_as, held_by, is_fresh, is_lost, opening_state, tables_after, view_of, without_held}
use Rattle.tl_isolation.specs.Step.{Allowed, after, begin, commit, commit_answer, effect_on, end_with, forget_note, keep_answer, lose, meet_rival, open_by_begin, own_after, take_statement, try_commit, undo, undo_answer, with_held}
use Rattle.tl_si.specs.Sound.{AreDistinct, AreHomeWrites, IsSound, keeps_key, statement_keeps, tids}
use Rattle.tl_si.proofs.Homes.{Keeps, change_home, empty_home, laid_home, opening_home, puts_home, tables_home}
use Rattle.tl_isolation.proofs.Known.{lose_tid, put_tid}

all_take : {X : Type 0} (P : X → Type 0) (n : ℕ) (xs : List X) → AllByRecursion P xs → AllByRecursion P (take n xs)
all_take P zero [] h = tt
all_take P (suc n) [] h = tt
all_take P zero (x ∷ xs) h = tt
all_take P (suc n) (x ∷ xs) h = (h.0, all_take P n xs h.1)

-- numbers

push_tids : (held : List Transaction) (t : Transaction) → tids (held ++ t ∷ []) ≡ tids held ++ t.tid ∷ []
push_tids [] t = refl
push_tids (h ∷ held) t = ap (λ (ns : List ℕ). h.tid ∷ ns) (push_tids held t)

other : (begun : List ℕ) (m n : ℕ) → list_any (λ b. b == m) begun ≡ true → list_any (λ b. b == n) begun ≡ false → (n == m) ≡ false
other begun m n i o = by (n == m) refl
  where
    by : (b : Bool) → (n == m) ≡ b → (n == m) ≡ false
    by true e = absurd (both_ways (list_any (λ b. b == m) begun) (ap (λ (k : ℕ). list_any (λ b. b == k) begun) (sym (eqb-true n m e)) ∙ o) i)
    by false e = e

distinct_push : (begun ns : List ℕ) (n : ℕ) → AreDistinct ns → AllByRecursion (λ m. list_any (λ b. b == m) begun ≡ true) ns → list_any (λ b. b == n) begun ≡ false
    → AreDistinct (ns ++ n ∷ [])
distinct_push begun [] n d i o = (refl, tt)
distinct_push begun (m ∷ ns) n d i o = (
  list_any-append (λ (k : ℕ). k == m) ns (n ∷ []) ∙ none (list_any (λ (k : ℕ). k == m) ns) (n == m) d.0 (other begun m n i.0 o),
  distinct_push begun ns n d.1 i.1 o,
)
  where
    none : (a b : Bool) → a ≡ false → b ≡ false → (a || (b || false)) ≡ false
    none true b e f = absurd cc
    none false true e f = absurd cc
    none false false e f = refl

begun_more : (begun : List ℕ) (n m : ℕ) → list_any (λ b. b == m) begun ≡ true → list_any (λ b. b == m) (begun ++ n ∷ []) ≡ true
begun_more begun n m i = list_any-append (λ (b : ℕ). b == m) begun (n ∷ []) ∙ some (list_any (λ b. b == m) begun) (list_any (λ b. b == m) (n ∷ [])) i
  where
    some : (a b : Bool) → a ≡ true → (a || b) ≡ true
    some true b e = refl
    some false b e = absurd cc

begun_self : (begun : List ℕ) (n : ℕ) → list_any (λ b. b == n) (begun ++ n ∷ []) ≡ true
begun_self begun n =
    list_any-append (λ (b : ℕ). b == n) begun (n ∷ [])
    ∙ ap (λ (c : Bool). list_any (λ b. b == n) begun || (c || false)) (eq-eqb n n refl) ∙ either (list_any (λ b. b == n) begun)
  where
    either : (a : Bool) → (a || true) ≡ true
    either true = refl
    either false = refl

filter_any : (p : ℕ → Bool) (n : ℕ) (ns : List ℕ) → list_any (λ m. m == n) ns ≡ false → list_any (λ m. m == n) (filter p ns) ≡ false
filter_any p n [] h = refl
filter_any p n (m ∷ ns) h =
    elim (p m) as (λ b. list_any (λ k. k == n) (cond b (m ∷ filter p ns) (filter p ns)) ≡ false) [
      | true ↦ both (m == n) (list_any (λ k. k == n) ns) (list_any (λ k. k == n) (filter p ns)) h (filter_any p n ns)
      | false ↦ filter_any p n ns (or_second (m == n) (list_any (λ k. k == n) ns) h)
    ]
  where
    both : (a b c : Bool) → (a || b) ≡ false → (b ≡ false → c ≡ false) → (a || c) ≡ false
    both true b c e f = absurd cc
    both false b c e f = f e

distinct_filter : (p : ℕ → Bool) (ns : List ℕ) → AreDistinct ns → AreDistinct (filter p ns)
distinct_filter p [] d = tt
distinct_filter p (n ∷ ns) d =
    elim (p n) as (λ b. AreDistinct (cond b (n ∷ filter p ns) (filter p ns))) [
      | true ↦ (filter_any p n ns d.0, distinct_filter p ns d.1)
      | false ↦ distinct_filter p ns d.1
    ]

without_tids : (tid : ℕ) (held : List Transaction) → tids (without_held tid held) ≡ filter (λ n. not (n == tid)) (tids held)
without_tids tid [] = refl
without_tids tid (t ∷ held) =
    elim (not (t.tid == tid)) as (λ b. tids (cond b (t ∷ without_held tid held) (without_held tid held)) ≡ cond b (t.tid ∷ filter (λ n. not (n == tid)) (tids held)) (filter (λ n. not (n == tid)) (tids held))) [
      | true ↦ ap (λ (ns : List ℕ). t.tid ∷ ns) (without_tids tid held)
      | false ↦ without_tids tid held
    ]

map_tids : (f : Transaction → Transaction) → ((t : Transaction) → (f t).tid ≡ t.tid) → (held : List Transaction) → tids (map f held) ≡ tids held
map_tids f k [] = refl
map_tids f k (t ∷ held) = λ i. k t i ∷ map_tids f k held i

pub opened_tid : (t : Transaction) → (open_by_begin t).tid ≡ t.tid
opened_tid t = by (is_fresh t)
  where
    by : (b : Bool) → (if b then record t { opened = true } else t).tid ≡ t.tid
    by true = refl
    by false = refl

module _ (catalog : Catalog) where
  abbrev IsOwn : Transaction → Type 0
  IsOwn t = AreHomeWrites catalog t.own

  abbrev IsCommitted : Commit → Type 0
  IsCommitted c = AreHomeWrites catalog c.writes

  -- a held transaction, changed
  held_sound : (s : SiState) (o : Option Transaction) (f : Transaction → Transaction) → IsSound catalog s
      → ((t : Transaction) → o ≡ Some t → ((f t).tid ≡ t.tid) × IsOwn (f t)) → IsSound catalog (with_held o f s)
  held_sound s None f v k = v
  held_sound s (Some t) f v k = record {
    committed = v.committed;
    own =
        all_map IsOwn IsOwn (λ (h : Transaction). if h.tid == (f t).tid then f t else h)
        (λ h i. elim (h.tid == (f t).tid) as (λ b. IsOwn (if b then f t else h)) [
          | true ↦ (k t refl).1
          | false ↦ i
        ]) s.held v.own;
    alone = subst AreDistinct (sym (map_tids (λ (h : Transaction). if h.tid == (f t).tid then f t else h) (put_tid (f t)) s.held)) v.alone;
    begun =
        subst (λ (ns : List ℕ). AllByRecursion (λ tid. list_any (λ begun. begun == tid) s.begun ≡ true) ns)
        (sym (map_tids (λ (h : Transaction). if h.tid == (f t).tid then f t else h) (put_tid (f t)) s.held)) v.begun;
  }

  pub own_of : (s : SiState) → IsSound catalog s → (p : Transaction → Bool) (t : Transaction) → find p s.held ≡ Some t → IsOwn t
  own_of s v p t e = found IsOwn p s.held t v.own e

  without_sound : (s : SiState) (tid : ℕ) → IsSound catalog s → IsSound catalog (record s { held = without_held tid s.held })
  without_sound s tid v = record {
    committed = v.committed;
    own = all_filter IsOwn IsOwn (λ (t : Transaction). not (t.tid == tid)) (λ t e i. i) s.held v.own;
    alone = subst AreDistinct (sym (without_tids tid s.held)) (distinct_filter (λ n. not (n == tid)) (tids s.held) v.alone);
    begun =
        subst (λ (ns : List ℕ). AllByRecursion (λ tid. list_any (λ begun. begun == tid) s.begun ≡ true) ns) (sym (without_tids tid s.held))
        (all_filter (λ n. list_any (λ begun. begun == n) s.begun ≡ true) (λ n. list_any (λ begun. begun == n) s.begun ≡ true) (λ n. not (n == tid)) (λ n e i. i) (tids s.held) v.begun);
  }

  -- only what nodes have in hand may differ
  same_sound : (s : SiState) (b : Bool) (x y : SiState) → IsSound catalog x → IsSound catalog y → IsSound catalog (if b then x else y)
  same_sound s true x y v w = v
  same_sound s false x y v w = w

  nodes_sound : (s : SiState) (nodes : List _) → IsSound catalog s → IsSound catalog (record s { nodes = nodes })
  nodes_sound s nodes v = record { committed = v.committed; own = v.own; alone = v.alone; begun = v.begun }

  end_sound : (s : SiState) (told : Answer) (t : Transaction) → IsSound catalog s → IsSound catalog (end_with told t s)
  end_sound s told t v =
      same_sound s (is_lost t.phase) _ _ (without_sound s t.tid v) (nodes_sound (record s { held = without_held t.tid s.held }) _ (without_sound s t.tid v))

  commit_sound : (s : SiState) (o : Option Transaction) → IsSound catalog s → ((t : Transaction) → o ≡ Some t → IsOwn t) → IsSound catalog (commit o s)
  commit_sound s None v k = v
  commit_sound s (Some t) v k =
      end_sound (record s { commits = s.commits ++ record { tid = t.tid; writes = t.own } ∷ [] }) (commit_answer t.unanswered) t
      (record { committed = all_push IsCommitted s.commits (record { tid = t.tid; writes = t.own }) v.committed (k t refl); own = v.own; alone = v.alone; begun = v.begun })

  undo_sound : (s : SiState) (o : Option Transaction) → IsSound catalog s → IsSound catalog (undo o s)
  undo_sound s None v = v
  undo_sound s (Some t) v = end_sound s (undo_answer t.rival t.unanswered) t v

  forget_sound : (s : SiState) (node : ℕ) (answered : Bool) → IsSound catalog s → IsSound catalog (forget_note node answered s)
  forget_sound s node true v = nodes_sound s _ v
  forget_sound s node false v = v

  -- statements
  pub view_home : (s : SiState) (t : Transaction) → IsSound catalog s → IsOwn t → Rattle.tl_si.specs.Sound.AreHome catalog (view_of s t)
  view_home s t v i =
      laid_home catalog (tables_after (take t.first s.commits)) t.own
      (tables_home catalog _ (take t.first s.commits) (empty_home catalog) (all_take IsCommitted t.first s.commits v.committed)) i

  keep_tid : (told : Answer) (answered : Bool) (t : Transaction) → (keep_answer told answered t).tid ≡ t.tid
  keep_tid told true t = refl
  keep_tid told false t = refl

  keep_own : (told : Answer) (answered : Bool) (t : Transaction) → IsOwn t → IsOwn (keep_answer told answered t)
  keep_own told true t i = i
  keep_own told false t i = i

  edit_keeps : (node : ℕ) (edit : Edit) (said : Said) → statement_keeps catalog (bound.Change edit) ≡ true → Keeps catalog edit
  edit_keeps node (Insert number rows) said k = tt
  edit_keeps node (Update number sets condition) said k = k
  edit_keeps node (Delete number condition) said k = tt

  own_home : (s : SiState) (t : Transaction) (edit : Edit) (effect : Result Effect ChangeFault) → effect_on catalog s t edit ≡ effect
      → IsSound catalog s → IsOwn t → Keeps catalog edit → AreHomeWrites catalog (own_after effect t.own)
  own_home s t edit (Ok effect) e v i k = puts_home catalog effect.writes t.own (change_home catalog edit (view_of s t) t.own effect (view_home s t v i) k e) i
  own_home s t edit (Err refusal) e v i k = i

  pub said_tid : (s : SiState) (b : Bound) (said : Said) (t : Transaction) → (take_statement catalog s b said t).tid ≡ t.tid
  said_tid s bound.Begin said t = opened_tid t
  said_tid s bound.Commit said t = refl
  said_tid s bound.Rollback said t = refl
  said_tid s (bound.Recover gone) said t = refl
  said_tid s (bound.Select query) said t = keep_tid said.answer said.answered t
  said_tid s (bound.Change edit) said t = keep_tid said.answer said.answered t

  said_own : (s : SiState) (node : ℕ) (b : Bound) (said : Said) (t : Transaction) → IsSound catalog s → IsOwn t → statement_keeps catalog b ≡ true
      → IsOwn (take_statement catalog s b said t)
  said_own s node bound.Begin said t v i k = by (is_fresh t)
    where
      by : (b : Bool) → IsOwn (if b then record t { opened = true } else t)
      by true = i
      by false = i
  said_own s node bound.Commit said t v i k = i
  said_own s node bound.Rollback said t v i k = i
  said_own s node (bound.Recover gone) said t v i k = i
  said_own s node (bound.Select query) said t v i k = keep_own said.answer said.answered t i
  said_own s node (bound.Change edit) said t v i k = own_home s t edit (effect_on catalog s t edit) refl v i (edit_keeps node edit said k)

  pub stays_sound : (s : SiState) (e : Entry) → IsSound catalog s → keeps_key catalog e ≡ true → Allowed catalog s e → IsSound catalog (after catalog s e)
  stays_sound s (entry.Asked node) v k a = nodes_sound s _ v
  stays_sound s (entry.Began node tid first) v k a = record {
    committed = v.committed;
    own = all_push IsOwn s.held (begin node tid first) v.own tt;
    alone = subst AreDistinct (sym (push_tids s.held (begin node tid first))) (distinct_push s.begun (tids s.held) tid v.alone v.begun a.3);
    begun =
        subst (λ (ns : List ℕ). AllByRecursion (λ n. list_any (λ begun. begun == n) (s.begun ++ tid ∷ []) ≡ true) ns) (sym (push_tids s.held (begin node tid first)))
        (all_push (λ n. list_any (λ begun. begun == n) (s.begun ++ tid ∷ []) ≡ true) (tids s.held) tid
        (weaker (λ n. list_any (λ begun. begun == n) s.begun ≡ true) (λ n. list_any (λ begun. begun == n) (s.begun ++ tid ∷ []) ≡ true) (λ n i. begun_more s.begun tid n i) (tids s.held) v.begun)
        (begun_self s.begun tid));
  }
  stays_sound s (entry.Said node b said) v k a =
      forget_sound (with_held (held_by node s.held) (take_statement catalog s b said) s) node said.answered
      (held_sound s (held_by node s.held) (take_statement catalog s b said) v
      (λ t e. (said_tid s b said t, said_own s node b said t v (own_of s v (λ t. t.node == node) t e) k)))
  stays_sound s (entry.Tried tid) v k a = held_sound s (held_as tid s.held) try_commit v (λ t e. (refl, own_of s v (λ t. t.tid == tid) t e))
  stays_sound s (entry.Clash tid rival at) v k a = held_sound s (held_as tid s.held) (meet_rival rival) v (λ t e. (refl, own_of s v (λ t. t.tid == tid) t e))
  stays_sound s (entry.Committed tid) v k a = commit_sound s (held_as tid s.held) v (λ t e. own_of s v (λ t. t.tid == tid) t e)
  stays_sound s (entry.Undone tid) v k a = undo_sound s (held_as tid s.held) v
  stays_sound s (entry.Answered node statement told) v k a = nodes_sound s _ v
  stays_sound s (entry.Vanished node ending) v k a = record {
    committed = v.committed;
    own = all_map IsOwn IsOwn (lose node) (λ t i. elim (t.node == node) as (λ b. IsOwn (if b then record t { phase = Rattle.tl_isolation.specs.declared.state.TxnPhase.TheVariants.Lost } else t)) [
      | true ↦ i
      | false ↦ i
    ]) s.held v.own;
    alone = subst AreDistinct (sym (map_tids (lose node) (lose_tid node) s.held)) v.alone;
    begun = subst (λ (ns : List ℕ). AllByRecursion (λ tid. list_any (λ begun. begun == tid) s.begun ≡ true) ns) (sym (map_tids (lose node) (lose_tid node) s.held)) v.begun;
  }

pub opens_sound : (setup : Setup) → IsSound setup.catalog (opening_state setup)
opens_sound setup = record { committed = (opening_home setup.catalog setup.rows, tt); own = tt; alone = tt; begun = tt }
