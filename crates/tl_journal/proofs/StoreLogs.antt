-- What an event leaves in the logs of the shards, and so in the cells and the counter that they show.
use Rattle.std.proofs.Common.{◌≡◌, ℕ, ◌+◌, ◌≤◌, Bool, true, false, cond, List, [], ◌∷◌, ◌++◌, Some, unwrap_or, refl, sym, ap, ◌∙◌, append_assoc, append-nil, arith}
use Rattle.std.specs.Prelude.{◌==◌, ◌^◌, if◌then◌else◌}
use Rattle.std.specs.Int.{w64, from_be_bytes, to_be_bytes}
use Rattle.std.specs.List.{flat_map}
use Rattle.std.specs.Cmp.{eq_by_cmp_equiv}
use Rattle.std.specs.Cmp.Lexicographic.{nat_list_cmp_total}
use Rattle.std.specs.FinMap.Entries.{find}
use Rattle.std.proofs.lemmas.Bool.{eq-eqb, eqb-true, false≢true}
use Rattle.std.proofs.lemmas.List.Concat.{flat_map-append}
use Rattle.std.proofs.lemmas.Nat.{from_be_bytes-to_be_bytes_8}
use Rattle.tl_base.specs.declared.place.PlaceId.TheVariants as place
use Rattle.tl_base.specs.declared.place.Settings.{Settings}
use Rattle.tl_base.specs.declared.store.StoreReply.{StoreReply}
use Rattle.tl_base.specs.declared.store.StoreRequest.{StoreRequest}
use Rattle.tl_schema.specs.declared.catalog.Setup.{Setup}
use Rattle.tl_cells.specs.declared.cell.Cell.{Cell as ShardCell}
use Rattle.tl_cells.specs.Cells.{absent}
use Rattle.tl_cells.specs.Place.{shard_of_key}
use Rattle.tl_cells.specs.Serves.{Call, added, cell_at, count_at, store_of, stores}
use Rattle.tl_cells.proofs.Log.{count_at-push, stores-push}
use Rattle.tl_manager.specs.declared.request.Reply.TheVariants as reply
use Rattle.tl_manager.specs.declared.request.Request.TheVariants as request
use Rattle.tl_write.specs.Own.{key_cmp}
use Rattle.tl_protocol.specs.Store.{Key, put_at, same_key}
use Rattle.tl_journal.specs.declared.event.Event.{Event}
use Rattle.tl_journal.specs.Bytes.{commits_key, counter_key, log_key}
use Rattle.tl_journal.specs.Journal.{opening_calls, shard_call, shard_log}
use Rattle.tl_journal.specs.Served.{is_record_key}
use Rattle.tl_journal.proofs.Logs.{shard_more}
use Rattle.tl_write.proofs.Keys.{key_eq, key_itself, key_turned}

-- ---- keys

-- what two record keys begin with
pub record_key_is : (k : Key) → is_record_key k ≡ true → (rest : Key) × (k ≡ 4 ∷ rest)
record_key_is [] h = absurd (false≢true h)
record_key_is (byte ∷ rest) h = (rest, ap (λ (b : ℕ). b ∷ rest) (eqb-true byte 4 h))

pub commits_no_record : (k : Key) → is_record_key k ≡ true → same_key commits_key k ≡ false
commits_no_record k h = let is = record_key_is k h in ap (same_key commits_key) is.1

pub log_no_record : (tid : ℕ) (k : Key) → is_record_key k ≡ true → same_key (log_key tid) k ≡ false
log_no_record tid k h = let is = record_key_is k h in ap (same_key (log_key tid)) is.1

pub commits_no_log : (tid : ℕ) → same_key commits_key (log_key tid) ≡ false
commits_no_log tid = refl

-- the log cells of two transactions stand under two keys
pub log_keys : (a b : ℕ) → a ≤ 2 ^ 62 → b ≤ 2 ^ 62 → same_key (log_key a) (log_key b) ≡ (a == b)
log_keys a b la lb = by (same_key (log_key a) (log_key b)) (a == b) refl refl
  where
    rest_of : Key → List ℕ
    rest_of [] = []
    rest_of (x ∷ xs) = xs

    back : same_key (log_key a) (log_key b) ≡ true → a ≡ b
    back e =
        let bytes : to_be_bytes w64 a ≡ to_be_bytes w64 b = ap rest_of (key_eq (log_key a) (log_key b) e) in
        sym (from_be_bytes-to_be_bytes_8 a (omega arith)) ∙ ap (from_be_bytes w64) bytes ∙ from_be_bytes-to_be_bytes_8 b (omega arith)

    by : (x y : Bool) → same_key (log_key a) (log_key b) ≡ x → (a == b) ≡ y → x ≡ y
    by true y e f = sym (eq-eqb a b (back e)) ∙ f
    by false true e f = absurd (false≢true (sym e ∙ ap (λ (t : ℕ). same_key (log_key a) (log_key t)) (sym (eqb-true a b f)) ∙ key_itself (log_key a)))
    by false false e f = refl

-- ---- a log with one call more

pub cell_pushed : (log : List Call) (c : Call) (k : Key) (x : ShardCell) → store_of c.request c.reply ≡ (k, x) ∷ []
    → (q : Key) → cell_at (log ++ c ∷ []) q ≡ (if same_key k q then x else cell_at log q)
cell_pushed log c k x new q =
    let all : stores (log ++ c ∷ []) ≡ (k, x) ∷ stores log = stores-push log c ∙ ap (λ (es : List (Key × ShardCell)). es ++ stores log) new in
    ap (λ (es : List (Key × ShardCell)). unwrap_or (find key_cmp q es) absent) all
    ∙ by (same_key q k)
    ∙ ap (λ b. if b then x else cell_at log q) (key_turned q k)
  where
    by : (b : Bool) → unwrap_or (cond b (Some x) (find key_cmp q (stores log))) absent ≡ (if b then x else cell_at log q)
    by true = refl
    by false = refl

pub cell_unmoved : (log : List Call) (c : Call) → store_of c.request c.reply ≡ [] → (q : Key) → cell_at (log ++ c ∷ []) q ≡ cell_at log q
cell_unmoved log c none q =
    ap (λ (es : List (Key × ShardCell)). unwrap_or (find key_cmp q es) absent) (stores-push log c ∙ ap (λ (es : List (Key × ShardCell)). es ++ stores log) none)

-- ---- the logs of the shards with one event more

-- the cell under a key, in the shard where the key lives
abbrev pub cell_in : Settings → Setup → List Event → Key → ShardCell
cell_in settings setup past key = cell_at (shard_log settings setup (shard_of_key key settings.shards) past) key

abbrev pub counter_in : Settings → Setup → List Event → ℕ
counter_in settings setup past = count_at (shard_log settings setup (shard_of_key counter_key settings.shards) past) counter_key

-- the event is this call of this shard
abbrev pub IsCall : Event → ℕ → Call → Type 0
IsCall e s c = (t : ℕ) → shard_call t e.place e.request e.reply ≡ (if s == t then c ∷ [] else [])

pub call_of : (e : Event) (s : ℕ) (asked : StoreRequest) (answer : StoreReply) → e.place ≡ place.Shard s → e.request ≡ request.Store asked → e.reply ≡ reply.Store answer
    → IsCall e s (record { request = asked; reply = answer })
call_of e s asked answer at_shard is_asked is_answer t = λ i. shard_call t (at_shard i) (is_asked i) (is_answer i)

-- the calls of the event at the shard
unfoldable pub calls_of : ℕ → Event → List Call
calls_of s e = shard_call s e.place e.request e.reply

module _ (settings : Settings) (setup : Setup) (past : List Event) (e : Event) (s : ℕ) (c : Call) (is : IsCall e s c) where
  pub log_of : (t : ℕ) → shard_log settings setup t (past ++ e ∷ []) ≡ (if s == t then shard_log settings setup t past ++ c ∷ [] else shard_log settings setup t past)
  log_of t = shard_more settings setup t past e ∙ ap (λ (more : List Call). shard_log settings setup t past ++ more) (is t) ∙ by (s == t) (shard_log settings setup t past)
    where
      by : (b : Bool) (log : List Call) → log ++ (if b then c ∷ [] else []) ≡ (if b then log ++ c ∷ [] else log)
      by true log = refl
      by false log = append-nil log

  -- of an event that stores nothing
  pub cell_kept : store_of c.request c.reply ≡ [] → (q : Key) → cell_in settings setup (past ++ e ∷ []) q ≡ cell_in settings setup past q
  cell_kept none q = ap (λ (log : List Call). cell_at log q) (log_of at) ∙ by (s == at)
    where
      at : ℕ
      at = shard_of_key q settings.shards

      by : (b : Bool) → cell_at (if b then shard_log settings setup at past ++ c ∷ [] else shard_log settings setup at past) q ≡ cell_in settings setup past q
      by true = cell_unmoved (shard_log settings setup at past) c none q
      by false = refl

  -- of a store
  pub cell_stored : (k : Key) (x : ShardCell) → store_of c.request c.reply ≡ (k, x) ∷ [] → s ≡ shard_of_key k settings.shards
      → (q : Key) → cell_in settings setup (past ++ e ∷ []) q ≡ put_at k x (cell_in settings setup past) q
  cell_stored k x new home q = ap (λ (log : List Call). cell_at log q) (log_of at) ∙ by (s == at) refl
    where
      at : ℕ
      at = shard_of_key q settings.shards

      elsewhere : (s == at) ≡ false → (b : Bool) → same_key k q ≡ b → cell_in settings setup past q ≡ (if b then x else cell_in settings setup past q)
      elsewhere ne true e = absurd (false≢true (sym ne ∙ eq-eqb s at (home ∙ ap (λ (l : Key). shard_of_key l settings.shards) (key_eq k q e))))
      elsewhere ne false e = refl

      by : (b : Bool) → (s == at) ≡ b → cell_at (if b then shard_log settings setup at past ++ c ∷ [] else shard_log settings setup at past) q ≡ put_at k x (cell_in settings setup past) q
      by true t = cell_pushed (shard_log settings setup at past) c k x new q
      by false t = elsewhere t (same_key k q) refl

  -- of an event that adds nothing
  pub counter_kept : ((key : Key) → added key c.request c.reply ≡ 0) → counter_in settings setup (past ++ e ∷ []) ≡ counter_in settings setup past
  counter_kept none = ap (λ (log : List Call). count_at log counter_key) (log_of at) ∙ by (s == at)
    where
      at : ℕ
      at = shard_of_key counter_key settings.shards

      by : (b : Bool) → count_at (if b then shard_log settings setup at past ++ c ∷ [] else shard_log settings setup at past) counter_key ≡ counter_in settings setup past
      by true =
          let more = count_at-push (shard_log settings setup at past) c counter_key in
          let zero_more = none counter_key in
          omega arith
      by false = refl

  -- of a sum
  pub counter_added : (n : ℕ) → added counter_key c.request c.reply ≡ n → s ≡ shard_of_key counter_key settings.shards
      → counter_in settings setup (past ++ e ∷ []) ≡ counter_in settings setup past + n
  counter_added n sum home =
      ap (λ (log : List Call). count_at log counter_key) (log_of at)
      ∙ ap (λ b. count_at (if b then shard_log settings setup at past ++ c ∷ [] else shard_log settings setup at past) counter_key) (eq-eqb s at home)
      ∙ count_at-push (shard_log settings setup at past) c counter_key
      ∙ ap (λ x. counter_in settings setup past + x) sum
    where
      at : ℕ
      at = shard_of_key counter_key settings.shards
