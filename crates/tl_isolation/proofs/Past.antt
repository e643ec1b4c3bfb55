-- What the entries so far tell, and that it stays told.
use Rattle.std.proofs.Common.{◌≡◌, ℕ, ◌<◌, ◌==◌, Bool, true, List, [], ◌∷◌, ◌++◌, Option, Some, None, if◌then◌else◌, refl, sym, ap, ◌∙◌}
use Rattle.std.specs.Prelude.{Contains, slice_get}
use Rattle.std.proofs.lemmas.Bool.{eq-eqb}
use Rattle.std.proofs.lemmas.List.Elements.{Contains-append_left}
use Rattle.tl_write.specs.Own.{is_written}
use Rattle.tl_isolation.specs.declared.entry.Answer.{Answer}
use Rattle.tl_isolation.specs.declared.entry.Answer.TheVariants as answer
use Rattle.tl_isolation.specs.declared.entry.Entry.{Entry}
use Rattle.tl_isolation.specs.declared.entry.Entry.TheVariants as entry
use Rattle.tl_isolation.specs.declared.state.Commit.{Commit}
use Rattle.tl_isolation.specs.declared.state.Transaction.{Transaction}
use Rattle.tl_isolation.specs.Promises.{begun_at, begun_with, first_of, last_begun, seen_by}

-- what the past tells of a held transaction
pub record Known (past : List Entry) (tid node first : ℕ) (rival : Option ℕ) (unanswered : Option Answer) : Type 0 where
  pub seen : seen_by tid past ≡ Some first
  -- it is the last one that began at its node
  pub last : last_begun node past ≡ Some tid
  -- it clashed with its rival
  pub clashed : (r : ℕ) → rival ≡ Some r → (at : ℕ) × Contains past (entry.Clash tid r at)
  -- a statement is not answered by a conflict
  pub unlike : (r : ℕ) → unanswered ≡ Some (answer.Conflict r) → ⊥

abbrev pub IsKnown : List Entry → Transaction → Type 0
IsKnown past t = Known past t.tid t.node t.first t.rival t.unanswered

-- the node's last transaction has clashed with this rival
abbrev pub HasClashed : List Entry → ℕ → ℕ → Type 0
HasClashed past node rival = (tid at : ℕ) × (last_begun node past ≡ Some tid) × Contains past (entry.Clash tid rival at)

-- where a conflict is still to be answered
abbrev pub IsReal : List Entry → ℕ → Option Answer → Type 0
IsReal past node outcome = (r : ℕ) → outcome ≡ Some (answer.Conflict r) → HasClashed past node r

-- of two commits that wrote one record the later saw the earlier
abbrev pub Saw : List Entry → ℕ → ℕ → Type 0
Saw past tid i = (first : ℕ) × (seen_by tid past ≡ Some first) × (i < first)

abbrev pub AreApart : List Entry → List Commit → Type 0
AreApart past commits = (i j : ℕ) (earlier later : Commit) (key : List ℕ)
    → slice_get commits i ≡ Some earlier → slice_get commits j ≡ Some later → i < j
    → is_written key earlier.writes ≡ true → is_written key later.writes ≡ true → Saw past later.tid i

first_first : {X : Type 0} (o p q : Option X) → first_of o (first_of p q) ≡ first_of (first_of o p) q
first_first None p q = refl
first_first (Some x) p q = refl

seen_by-append : (tid : ℕ) (past more : List Entry) → seen_by tid (past ++ more) ≡ first_of (seen_by tid past) (seen_by tid more)
seen_by-append tid [] more = refl
seen_by-append tid (e ∷ es) more =
    ap (first_of (begun_with tid e)) (seen_by-append tid es more) ∙ first_first (begun_with tid e) (seen_by tid es) (seen_by tid more)

pub seen_more : (tid n : ℕ) (past more : List Entry) → seen_by tid past ≡ Some n → seen_by tid (past ++ more) ≡ Some n
seen_more tid n past more e = seen_by-append tid past more ∙ ap (λ (o : Option ℕ). first_of o (seen_by tid more)) e

pub unseen_more : (tid : ℕ) (past : List Entry) (e : Entry) → seen_by tid past ≡ None → begun_with tid e ≡ None → seen_by tid (past ++ e ∷ []) ≡ None
unseen_more tid past e n other =
    seen_by-append tid past (e ∷ []) ∙ ap (λ (o : Option ℕ). first_of o (first_of (begun_with tid e) None)) n ∙ ap (λ (o : Option ℕ). first_of o None) other

-- it sees as many commits as where it first begins
pub seen_begun : (node tid first : ℕ) (past : List Entry) → seen_by tid past ≡ None → seen_by tid (past ++ entry.Began node tid first ∷ []) ≡ Some first
seen_begun node tid first past n =
    seen_by-append tid past (entry.Began node tid first ∷ [])
    ∙ ap (λ (o : Option ℕ). first_of o (first_of (if tid == tid then Some first else None) None)) n
    ∙ ap (λ (b : Bool). first_of (if b then Some first else None) None) (eq-eqb tid tid refl)

-- an entry more is the last one that begins a transaction of the node, or it begins none
last_more : (node : ℕ) (past : List Entry) (e : Entry) → last_begun node (past ++ e ∷ []) ≡ first_of (begun_at node e) (last_begun node past)
last_more node [] e = alone (begun_at node e)
  where
    alone : (o : Option ℕ) → first_of None o ≡ first_of o None
    alone None = refl
    alone (Some tid) = refl
last_more node (x ∷ xs) e =
    ap (λ (o : Option ℕ). first_of o (begun_at node x)) (last_more node xs e) ∙ sym (first_first (begun_at node e) (last_begun node xs) (begun_at node x))

last_stays : (node tid : ℕ) (past : List Entry) (e : Entry) → begun_at node e ≡ None → last_begun node past ≡ Some tid → last_begun node (past ++ e ∷ []) ≡ Some tid
last_stays node tid past e none last = last_more node past e ∙ ap (λ (o : Option ℕ). first_of o (last_begun node past)) none ∙ last

pub last_begins : (node tid first : ℕ) (past : List Entry) → last_begun node (past ++ entry.Began node tid first ∷ []) ≡ Some tid
last_begins node tid first past =
    last_more node past (entry.Began node tid first)
    ∙ ap (λ (b : Bool). first_of (if b then Some tid else None) (last_begun node past)) (eq-eqb node node refl)

pub known_more : (past : List Entry) (e : Entry) (t : Transaction) → begun_at t.node e ≡ None → IsKnown past t → IsKnown (past ++ e ∷ []) t
known_more past e t none k = record {
  seen = seen_more t.tid t.first past (e ∷ []) k.seen;
  last = last_stays t.node t.tid past e none k.last;
  clashed = λ r i. let c = k.clashed r i in (c.0, Contains-append_left past (e ∷ []) (entry.Clash t.tid r c.0) c.1);
  unlike = k.unlike;
}

pub clashed_more : (past : List Entry) (e : Entry) (node rival : ℕ) → begun_at node e ≡ None → HasClashed past node rival → HasClashed (past ++ e ∷ []) node rival
clashed_more past e node rival none (tid, at, last, c) =
    (tid, at, last_stays node tid past e none last, Contains-append_left past (e ∷ []) (entry.Clash tid rival at) c)

pub apart_more : (past more : List Entry) (commits : List Commit) → AreApart past commits → AreApart (past ++ more) commits
apart_more past more commits h i j earlier later key e f less w x =
    let (first, seen, below) = h i j earlier later key e f less w x in
    (first, seen_more later.tid first past more seen, below)
