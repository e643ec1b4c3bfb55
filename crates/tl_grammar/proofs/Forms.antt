-- What is shown of each form, with the form that may nest deeper by one.
use Rattle.std.proofs.Common.{◌≡◌, ℕ, Bool, true, false, ◌&&◌, inl, List, [], ◌++◌, Option, Some, refl}
use Rattle.tl_grammar.specs.declared.fault.Expected.{Expected}
use Rattle.tl_grammar.specs.Token.{Token}
use Rattle.tl_grammar.specs.Form.{Form, ◌>>=◌, either, nothing, one, placed, pure, row, row_by, some}
use Rattle.tl_grammar.specs.Classes.{among, apart, class_of, within}
use Rattle.tl_grammar.proofs.Exact.{Exact, Opens}
use Rattle.tl_grammar.proofs.Sets.{stops_at, within_mem}
use Rattle.tl_grammar.proofs.Combine.{bind_exact, bind_opens, joined, one_exact, one_opens, pure_exact}
use Rattle.tl_grammar.proofs.Choose.{chosen, deep_exact, deep_opens, either_exact, either_opens}
use Rattle.tl_grammar.proofs.RowLaw.{row_exact}
use Rattle.tl_grammar.proofs.Alive.{Alive, Sample, bind_alive, bind_sample, deep_alive, either_alive, either_sample, one_alive, one_sample, other_sample, pure_alive, pure_sample, row_alive, row_sample}
use Rattle.tl_grammar.proofs.Deeper.{Deeper, bind_deeper, either_deeper, nothing_deeper, one_deeper, pure_deeper, row_deeper}
use Rattle.tl_grammar.specs.Law.{expected_of}
use Rattle.tl_grammar.proofs.Asks.{Asks, bind_asks, either_asks, one_asks, placed_asks, pure_asks, row_asks, too_deep_asks}
use Rattle.tl_grammar.proofs.Seeks.{Never, On, Seeks, as_begun, bind_seeks, either_seeks, on_first, on_left, on_placed, one_on, one_seeks, placed_seeks, pure_seeks, row_seeks}
use Rattle.tl_grammar.proofs.Placed.{placed_alive, placed_deeper, placed_exact, placed_opens, placed_sample}

-- of one form alone, beside one that may nest deeper by one, or also that what it looks for goes on
pub data Asked : Type 0 where
  Alone : Asked
  Deep : Asked
  Full : Asked

abbrev pub asks_deeper : Asked → Bool
asks_deeper Alone = false
asks_deeper Deep = true
asks_deeper Full = true

abbrev pub asks_all : Asked → Bool
asks_all Alone = false
asks_all Deep = false
asks_all Full = true

all_is_deeper : (k : Asked) → asks_all k ≡ true → asks_deeper k ≡ true
all_is_deeper Alone h = absurd (cc)
all_is_deeper Deep h = absurd (cc)
all_is_deeper Full h = refl

-- two forms, of which the second may nest deeper by one where this is asked
pub record Near {X : Type 0} (k : Asked) (F G : Form X) (first more : List ℕ) (null : Bool) : Type 0 where
  pub low : Exact F first more null
  pub high : Exact G first more null
  pub low_lives : Alive F
  pub low_asks : Asks F
  pub high_lives : Alive G
  pub deeper : asks_deeper k ≡ true → Deeper F G
  pub seeks : asks_all k ≡ true → Seeks Never F G

-- there are some of both
pub record Law {X : Type 0} (k : Asked) (F G : Form X) (first more : List ℕ) (null : Bool) : Type 0 where
  pub near : Near k F G first more null
  pub low_sample : Sample F
  pub high_sample : Sample G

-- neither is empty
pub record Inner {X : Type 0} (k : Asked) (F G : Form X) (first more : List ℕ) : Type 0 where
  pub low_opens : Opens F first
  pub high_opens : Opens G first
  pub near : Near k F G first more false
  pub on : asks_all k ≡ true → On G [] F.wants
  pub low_wants : F.asks [] F.wants

pub record Begun {X : Type 0} (k : Asked) (F G : Form X) (first more : List ℕ) : Type 0 where
  pub inner : Inner k F G first more
  pub low_sample : Sample F
  pub high_sample : Sample G

-- as one that may be empty
pub last : {X : Type 0} {k : Asked} {F G : Form X} {first more : List ℕ} → Begun k F G first more → Law k F G first more false
last b = record { near = b.inner.near; low_sample = b.low_sample; high_sample = b.high_sample }

near_bind : {A B : Type 0} {k : Asked} {a c : Form A} {b d : A → Form B} {fa ma fb mb : List ℕ} {na nb : Bool}
    → Near k a c fa ma na → ((x : A) → Law k (b x) (d x) fb mb nb) → apart ma fb ≡ true → Near k (a >>= b) (c >>= d) (joined na fa fb) (joined nb mb ma) (na && nb)
near_bind {A} {B} {k} {a} {c} {b} {d} {fa} {ma} {fb} {mb} {na} {nb} p q h =
    record {
      low = bind_exact a b fa ma fb mb na nb h p.low (λ x. (q x).near.low);
      high = bind_exact c d fa ma fb mb na nb h p.high (λ x. (q x).near.high);
      low_lives = bind_alive a b fa ma na p.low p.low_lives (λ x. (q x).near.low_lives) (λ x. (q x).low_sample);
      high_lives = bind_alive c d fa ma na p.high p.high_lives (λ x. (q x).near.high_lives) (λ x. (q x).high_sample);
      deeper = λ deep. bind_deeper a c b d fa ma na p.low p.high_lives (λ x. (q x).high_sample) (p.deeper deep) (λ x. (q x).near.deeper deep);
      low_asks = bind_asks a b p.low.sound p.low_lives p.low_asks (λ x. (q x).near.low_asks);
      seeks = λ h.
          bind_seeks Never Never a c b d (p.deeper (all_is_deeper k h)).mono p.low.sound p.high_lives (λ x. (q x).high_sample) (p.seeks h) (λ x. (q x).near.seeks h) (λ x w n. absurd n);
    }

-- one form behind the other: the first may be empty, or isn't
pub pass : {A B : Type 0} {k : Asked} {a c : Form A} {b d : A → Form B} {fa ma fb mb : List ℕ} {na nb : Bool}
    → Law k a c fa ma na → ((x : A) → Law k (b x) (d x) fb mb nb) → apart ma fb ≡ true → Law k (a >>= b) (c >>= d) (joined na fa fb) (joined nb mb ma) (na && nb)
pass {A} {B} {k} {a} {c} {b} {d} p q h =
    record {
      near = near_bind p.near q h;
      low_sample = bind_sample a b p.low_sample (λ x. (q x).low_sample);
      high_sample = bind_sample c d p.high_sample (λ x. (q x).high_sample);
    }

pub begun : {A B : Type 0} {k : Asked} {a c : Form A} {b d : A → Form B} {fa ma fb mb : List ℕ} {nb : Bool}
    → Begun k a c fa ma → ((x : A) → Law k (b x) (d x) fb mb nb) → apart ma fb ≡ true → Begun k (a >>= b) (c >>= d) fa (joined nb mb ma)
begun {A} {B} {k} {a} {c} {b} {d} {fa} {ma} {fb} {mb} {nb} p q h =
    record {
      inner =
          record {
            low_opens = bind_opens a b fa fb mb nb p.inner.low_opens (λ x. (q x).near.low);
            high_opens = bind_opens c d fa fb mb nb p.inner.high_opens (λ x. (q x).near.high);
            near = near_bind p.inner.near q h;
            on = λ all. on_first c d (λ x. (q x).high_sample) [] a.wants (p.inner.on all);
            low_wants = inl p.inner.low_wants;
          };
      low_sample = bind_sample a b p.low_sample (λ x. (q x).low_sample);
      high_sample = bind_sample c d p.high_sample (λ x. (q x).high_sample);
    }

pub next : {A B : Type 0} {k : Asked} {a c : Form A} {b d : A → Form B} {fa ma fb mb : List ℕ} {nb : Bool}
    → Begun k a c fa ma → ((x : A) → Law k (b x) (d x) fb mb nb) → apart ma fb ≡ true → Law k (a >>= b) (c >>= d) fa (joined nb mb ma) false
next p q h = last (begun p q h)

pub done : {X : Type 0} {k : Asked} (x : X) → Law k (pure x) (pure x) [] [] true
done x =
    record {
      near =
          record {
            low = pure_exact x;
            high = pure_exact x;
            low_lives = pure_alive x;
            high_lives = pure_alive x;
            deeper = λ deep. pure_deeper x;
            low_asks = pure_asks x;
            seeks = λ all. pure_seeks x;
          };
      low_sample = pure_sample x;
      high_sample = pure_sample x;
    }

-- the one or the other
near_either : {X : Type 0} {k : Asked} {a c b d : Form X} {fa ma fb mb : List ℕ} {nb : Bool}
    → Inner k a c fa ma → Near k b d fb mb nb → apart fa fb ≡ true → Near k (either a b) (either c d) (fa ++ fb) (chosen nb fa ma mb) nb
near_either {X} {k} {a} {c} {b} {d} {fa} {ma} {fb} {mb} {nb} p q h =
    record {
      low = either_exact a b fa ma fb mb nb h p.low_opens p.near.low q.low;
      high = either_exact c d fa ma fb mb nb h p.high_opens p.near.high q.high;
      low_lives = either_alive a b p.near.low_lives q.low_lives;
      high_lives = either_alive c d p.near.high_lives q.high_lives;
      deeper = λ deep. either_deeper a b c d (p.near.deeper deep) (q.deeper deep);
      low_asks = either_asks a b fa p.low_opens p.near.low.sound p.near.low_asks q.low_asks p.low_wants;
      seeks = λ all. either_seeks a b c d (as_begun a c (p.near.seeks all)) (q.seeks all) (on_left c d [] a.wants (p.on all));
    }

pub or_inner : {X : Type 0} {k : Asked} {a c b d : Form X} {fa ma fb mb : List ℕ}
    → Inner k a c fa ma → Inner k b d fb mb → apart fa fb ≡ true → Inner k (either a b) (either c d) (fa ++ fb) (chosen false fa ma mb)
or_inner {X} {k} {a} {c} {b} {d} {fa} {ma} {fb} {mb} p q h =
    record {
      low_opens = either_opens a b fa fb p.low_opens q.low_opens;
      high_opens = either_opens c d fa fb p.high_opens q.high_opens;
      near = near_either p q.near h;
      on = λ all. on_left c d [] a.wants (p.on all);
      low_wants = p.low_wants;
    }

pub or : {X : Type 0} {k : Asked} {a c b d : Form X} {fa ma fb mb : List ℕ}
    → Begun k a c fa ma → Begun k b d fb mb → apart fa fb ≡ true → Begun k (either a b) (either c d) (fa ++ fb) (chosen false fa ma mb)
or {X} {k} {a} {c} {b} {d} p q h =
    record { inner = or_inner p.inner q.inner h; low_sample = either_sample a b p.low_sample; high_sample = either_sample c d p.high_sample }

-- there may be none of the second
pub or_first : {X : Type 0} {k : Asked} {a c b d : Form X} {fa ma fb mb : List ℕ}
    → Begun k a c fa ma → Inner k b d fb mb → apart fa fb ≡ true → Begun k (either a b) (either c d) (fa ++ fb) (chosen false fa ma mb)
or_first {X} {k} {a} {c} {b} {d} p q h =
    record { inner = or_inner p.inner q h; low_sample = either_sample a b p.low_sample; high_sample = either_sample c d p.high_sample }

-- there may be none of the first
pub or_sure : {X : Type 0} {k : Asked} {a c b d : Form X} {fa ma fb mb : List ℕ}
    → Inner k a c fa ma → Begun k b d fb mb → apart fa fb ≡ true → Begun k (either a b) (either c d) (fa ++ fb) (chosen false fa ma mb)
or_sure {X} {k} {a} {c} {b} {d} p q h =
    record { inner = or_inner p q.inner h; low_sample = other_sample a b q.low_sample; high_sample = other_sample c d q.high_sample }

-- the second may be empty
pub or_none : {X : Type 0} {k : Asked} {a c b d : Form X} {fa ma fb mb : List ℕ} {nb : Bool}
    → Inner k a c fa ma → Law k b d fb mb nb → apart fa fb ≡ true → Law k (either a b) (either c d) (fa ++ fb) (chosen nb fa ma mb) nb
or_none {X} {k} {a} {c} {b} {d} p q h =
    record { near = near_either p q.near h; low_sample = other_sample a b q.low_sample; high_sample = other_sample c d q.high_sample }

-- as many as there are
pub many_by : {X Y : Type 0} {k : Asked} {F G : X → Form Y} {first mf : List ℕ} (step : X → Y → X) (acc : X)
    → ((x : X) → Inner k (F x) (G x) first mf) → apart mf first ≡ true → Law k (row_by step F acc) (row_by step G acc) first (first ++ mf) true
many_by {X} {Y} {k} {F} {G} {first} {mf} step acc p h =
    record {
      near =
          record {
            low = row_exact step F acc first mf h (λ x. (p x).low_opens) (λ x. (p x).near.low);
            high = row_exact step G acc first mf h (λ x. (p x).high_opens) (λ x. (p x).near.high);
            low_lives = row_alive step F acc first mf (λ x. (p x).near.low) (λ x. (p x).near.low_lives);
            high_lives = row_alive step G acc first mf (λ x. (p x).near.high) (λ x. (p x).near.high_lives);
            deeper = λ deep. row_deeper step F G acc first mf (λ x. (p x).near.low) (λ x. (p x).near.high_lives) (λ x. (p x).near.deeper deep);
            low_asks = row_asks step F acc (λ x. (p x).near.low.sound) (λ x. (p x).near.low_lives) (λ x. (p x).near.low_asks) (λ x. (p x).low_wants);
            seeks = λ all.
                row_seeks Never step F G acc (λ x. ((p x).near.deeper (all_is_deeper k all)).mono) (λ x. (p x).near.low.sound) (λ x. (p x).near.high_lives) (λ x. as_begun (F x) (G x) ((p x).near.seeks all)) (λ x. inl ((p x).on all));
          };
      low_sample = row_sample step F acc;
      high_sample = row_sample step G acc;
    }

pub many : {X Y : Type 0} {k : Asked} {F G : Form Y} {first mf : List ℕ} (step : X → Y → X) (acc : X)
    → Begun k F G first mf → apart mf first ≡ true → Law k (row step F acc) (row step G acc) first (first ++ mf) true
many step acc p h = many_by step acc (λ x. p.inner) h

-- one token
leaf_near : {X : Type 0} {k : Asked} (e : Expected) (pick : Token → Option X) (first : List ℕ) → ((t : Token) → some (pick t) ≡ true → among first t ≡ true)
    → (asks_all k ≡ true → On (one e pick) [] e) → Inner k (one e pick) (one e pick) first []
leaf_near e pick first f on =
    record {
      low_opens = one_opens e pick first f;
      high_opens = one_opens e pick first f;
      near =
          record {
            low = one_exact e pick first f;
            high = one_exact e pick first f;
            low_lives = one_alive e pick;
            high_lives = one_alive e pick;
            deeper = λ deep. one_deeper e pick;
            low_asks = one_asks e pick;
            seeks = λ all. one_seeks e pick (on all);
          };
      on = on;
      low_wants = (refl, refl);
    }

pub leaf : {X : Type 0} {k : Asked} (e : Expected) (pick : Token → Option X) (first : List ℕ) → ((t : Token) → some (pick t) ≡ true → among first t ≡ true)
    → (t : Token) (x : X) → pick t ≡ Some x → expected_of t.kind ≡ Some e → Begun k (one e pick) (one e pick) first []
leaf e pick first f t x h shown =
    record { inner = leaf_near e pick first f (λ all. one_on e pick t x h shown); low_sample = one_sample e pick t x h; high_sample = one_sample e pick t x h }

-- one that is never looked for
pub unsought : {X : Type 0} (e : Expected) (pick : Token → Option X) (first : List ℕ) → ((t : Token) → some (pick t) ≡ true → among first t ≡ true)
    → (t : Token) (x : X) → pick t ≡ Some x → Begun Deep (one e pick) (one e pick) first []
unsought e pick first f t x h =
    record { inner = leaf_near e pick first f (λ all. absurd (cc)); low_sample = one_sample e pick t x h; high_sample = one_sample e pick t x h }

-- none at all
never : (t : Token) (first : List ℕ) → false ≡ true → among first t ≡ true
never t first h = absurd (cc)

pub none : {X : Type 0} (e : Expected) (first : List ℕ) → Inner Deep (nothing {X = X} e) (nothing e) first []
none e first =
    record {
      low_opens = deep_opens (λ t. false) e first (λ t h. never t first h);
      high_opens = deep_opens (λ t. false) e first (λ t h. never t first h);
      near =
          record {
            low = deep_exact (λ t. false) e first;
            high = deep_exact (λ t. false) e first;
            low_lives = deep_alive (λ t. false) e;
            high_lives = deep_alive (λ t. false) e;
            deeper = λ deep. nothing_deeper e;
            low_asks = too_deep_asks (λ t. false) e;
            seeks = λ all. absurd (cc);
          };
      on = λ all. absurd (cc);
      low_wants = (refl, refl);
    }

-- what it looks for goes on
pub full : {X : Type 0} {F G : Form X} {first more : List ℕ} (k : Asked) → Begun Deep F G first more → Seeks Never F G → On G [] F.wants → Begun k F G first more
full k p seeks on =
    record {
      inner =
          record {
            low_opens = p.inner.low_opens;
            high_opens = p.inner.high_opens;
            near =
                record {
                  low = p.inner.near.low;
                  high = p.inner.near.high;
                  low_lives = p.inner.near.low_lives;
                  high_lives = p.inner.near.high_lives;
                  deeper = λ deep. p.inner.near.deeper refl;
                  low_asks = p.inner.near.low_asks;
                  seeks = λ all. seeks;
                };
            on = λ all. on;
            low_wants = p.inner.low_wants;
          };
      low_sample = p.low_sample;
      high_sample = p.high_sample;
    }

-- with its place
pub at_place : {X : Type 0} {k : Asked} {a c : Form X} {first more : List ℕ} → Begun k a c first more → Begun k (placed a) (placed c) first more
at_place {X} {k} {a} {c} {first} {more} p =
    record {
      inner =
          record {
            low_opens = placed_opens a first p.inner.low_opens;
            high_opens = placed_opens c first p.inner.high_opens;
            near =
                record {
                  low = placed_exact a first more p.inner.near.low;
                  high = placed_exact c first more p.inner.near.high;
                  low_lives = placed_alive a first p.inner.low_opens p.inner.near.low_lives;
                  high_lives = placed_alive c first p.inner.high_opens p.inner.near.high_lives;
                  deeper = λ deep. placed_deeper a c (p.inner.near.deeper deep);
                  low_asks = placed_asks a p.inner.near.low_asks;
                  seeks = λ all. placed_seeks a c (p.inner.near.seeks all);
                };
            on = λ all. on_placed c [] a.wants (p.inner.on all);
            low_wants = p.inner.low_wants;
          };
      low_sample = placed_sample a first p.inner.low_opens p.low_sample;
      high_sample = placed_sample c first p.inner.high_opens p.high_sample;
    }

-- in a larger set of tokens
exact_more : {X : Type 0} {F : Form X} {first more wide : List ℕ} {null : Bool} → Exact F first more null → within more wide ≡ true → Exact F first wide null
exact_more {X} {F} {first} {more} {wide} {null} p h =
    record {
      heads = p.heads;
      shrinks = p.shrinks;
      sound = p.sound;
      complete = λ at rest x f stop. p.complete at rest x f (stops_at (among more) rest wide (λ t. within_mem more wide (class_of t.kind) h) stop);
      ok = p.ok;
      err = p.err;
    }

near_more : {X : Type 0} {k : Asked} {F G : Form X} {first more wide : List ℕ} {null : Bool} → Near k F G first more null → within more wide ≡ true → Near k F G first wide null
near_more p h =
    record { low = exact_more p.low h; high = exact_more p.high h; low_lives = p.low_lives; high_lives = p.high_lives; low_asks = p.low_asks; deeper = p.deeper; seeks = p.seeks }

pub wider : {X : Type 0} {k : Asked} {F G : Form X} {first more wide : List ℕ} {null : Bool} → Law k F G first more null → within more wide ≡ true → Law k F G first wide null
wider p h = record { near = near_more p.near h; low_sample = p.low_sample; high_sample = p.high_sample }

pub inner_wider : {X : Type 0} {k : Asked} {F G : Form X} {first more wide : List ℕ} → Inner k F G first more → within more wide ≡ true → Inner k F G first wide
inner_wider p h = record { low_opens = p.low_opens; high_opens = p.high_opens; near = near_more p.near h; on = p.on; low_wants = p.low_wants }

pub begun_wider : {X : Type 0} {k : Asked} {F G : Form X} {first more wide : List ℕ} → Begun k F G first more → within more wide ≡ true → Begun k F G first wide
begun_wider p h = record { inner = inner_wider p.inner h; low_sample = p.low_sample; high_sample = p.high_sample }
