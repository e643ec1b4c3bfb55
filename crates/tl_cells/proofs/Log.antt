-- A shard's next call keeps what its log says.
use Rattle.std.proofs.Common.{◌≡◌, ℕ, ◌+◌, ◌==◌, suc, Bool, true, false, cond, List, [], ◌∷◌, ◌++◌, length, nat_eq, nat_lt, refl, sym, ap, ◌∙◌, append_assoc, append-nil, arith, Some, unwrap_or, Option}
use Rattle.std.specs.Cmp.Lexicographic.{pointwise, nat_list_cmp_total, texts_ties, bytes_decides}
use Rattle.std.specs.FinMap as map
use Rattle.tl_base.specs.declared.store.StoreRequest.{StoreRequest}
use Rattle.tl_base.specs.declared.store.StoreRequest.TheVariants.{Load, StoreIf, Add, Page}
use Rattle.tl_base.specs.declared.store.StoreReply.TheVariants as reply
use Rattle.tl_cells.specs.declared.cell.Cell.{Cell}
use Rattle.tl_base.specs.Along.{Along-append}
use Rattle.tl_cells.specs.Cells.{Cells, ShardState, absent, cell_under, greatest, store_reply, add_reply, page_of, cells_within, reply_of, after_reply, next_of}
use Rattle.tl_cells.specs.Serves.{Call, store_of, stores, cell_at, added, count_at, reply_after, Serves, ServesAll, Matches}

-- a log with one more call
pub stores-push : (log : List Call) (c : Call) → stores (log ++ c ∷ []) ≡ store_of c.request c.reply ++ stores log
stores-push [] c = sym (append-nil _)
stores-push (d ∷ log) c = ap (λ (old : List (List ℕ × Cell)). old ++ store_of d.request d.reply) (stores-push log c) ∙ append_assoc _ (stores log) _

pub count_at-push : (log : List Call) (c : Call) (key : List ℕ) → count_at (log ++ c ∷ []) key ≡ count_at log key + added key c.request c.reply
count_at-push [] c key = omega arith
count_at-push (d ∷ log) c key =
    let rest = count_at-push log c key in omega arith

-- the cell under a key in a state that matches
pub cell_under-log : (log : List Call) (cells : Cells) → cells ≡ map.from_entries (stores log) → (key : List ℕ) → cell_under key cells ≡ cell_at log key
cell_under-log log cells same key =
    ap (λ (found : Cell). found) (ap (λ (c : Cells). cell_under key c) same)
    ∙ ap (λ o. unwrap_or o absent) (map.get-from_entries nat_list_cmp_total (stores log) key)

-- what a shard that matches answers is what the log calls for
pub reply_of-log : (opening : ℕ) (log : List Call) (s : ShardState) (request : StoreRequest) → Matches opening log s → reply_of s request ≡ reply_after opening log request
reply_of-log opening log s (Load key) m = ap (λ (c : Cell). reply.Cell c.stamp c.value) (cell_under-log log s.cells m.cells key)
reply_of-log opening log s (StoreIf key stamp value) m = λ i. store_reply (cell_under-log log s.cells m.cells key i).stamp stamp (m.last i)
reply_of-log opening log s (Add key by) m = ap (λ old. add_reply old by) (m.counters key)
reply_of-log opening log s (Page from before limit) m = ap (λ (c : Cells). page_of limit (cells_within from before c)) m.cells

-- a call that stored and added nothing
kept : (opening : ℕ) (log : List Call) (s : ShardState) (c : Call) → Matches opening log s → store_of c.request c.reply ≡ [] → ((key : List ℕ) → added key c.request c.reply ≡ 0) → Matches opening (log ++ c ∷ []) s
kept opening log s c m nothing none =
    let same : stores (log ++ c ∷ []) ≡ stores log = stores-push log c ∙ ap (λ (new : List (List ℕ × Cell)). new ++ stores log) nothing in
    record {
      cells = m.cells ∙ ap map.from_entries (sym same);
      counters = λ key. m.counters key ∙ (let more = count_at-push log c key in let zero_more = none key in omega arith);
      last = m.last ∙ ap (λ (es : List (List ℕ × Cell)). opening + length es) (sym same);
    }

-- a store
stored : (opening : ℕ) (log : List Call) (s : ShardState) (key : List ℕ) (stamp : ℕ) (value : List ℕ) → Matches opening log s
    → Matches opening (log ++ record { request = StoreIf key stamp value; reply = reply.Stored (s.last + 1) } ∷ []) (after_reply s (StoreIf key stamp value) (reply.Stored (s.last + 1)))
stored opening log s key stamp value m =
    let c : Call = record { request = StoreIf key stamp value; reply = reply.Stored (s.last + 1) } in
    let cell : Cell = record { stamp = s.last + 1; value = value } in
    let new : stores (log ++ c ∷ []) ≡ (key, cell) ∷ stores log = stores-push log c in
    record {
      cells = ap (λ (old : Cells). map.insert old key cell) m.cells ∙ ap map.from_entries (sym new);
      counters = λ q. m.counters q ∙ (let more : count_at (log ++ c ∷ []) q ≡ count_at log q + 0 = count_at-push log c q in omega arith);
      last = (let last = m.last in let count : length (stores (log ++ c ∷ [])) ≡ suc (length (stores log)) = ap length new in omega arith);
    }

-- what a sum leaves at a counter
counted : (tie : Bool) (old by : ℕ) (o : Option ℕ) (count : ℕ) → unwrap_or o 0 ≡ count → (tie ≡ true → old ≡ unwrap_or o 0) → unwrap_or (cond tie (Some (old + by)) o) 0 ≡ count + cond tie by 0
counted true old by o count same here = let e = here refl in omega arith
counted false old by o count same here = omega arith

added-cond : (q key : List ℕ) (by old : ℕ) → added q (Add key by) (reply.Count old) ≡ cond (pointwise nat_eq q key) by 0
added-cond q key by old = elim (pointwise nat_eq q key) as (λ t. elim t as (λ _. ℕ) [ true ↦ by | false ↦ 0 ] ≡ cond t by 0) [ true ↦ refl | false ↦ refl ]

-- a sum
summed : (opening : ℕ) (log : List Call) (s : ShardState) (key : List ℕ) (by : ℕ) → Matches opening log s
    → let old = unwrap_or (map.get s.counters key) 0 in Matches opening (log ++ record { request = Add key by; reply = reply.Count old } ∷ []) (after_reply s (Add key by) (reply.Count old))
summed opening log s key by m =
    let old : ℕ = unwrap_or (map.get s.counters key) 0 in
    let c : Call = record { request = Add key by; reply = reply.Count old } in
    let same : stores (log ++ c ∷ []) ≡ stores log = stores-push log c in
    record {
      cells = m.cells ∙ ap map.from_entries (sym same);
      counters = λ q.
          ap (λ o. unwrap_or o 0) (map.get-insert nat_list_cmp_total s.counters key (old + by) q ∙ ap (λ t. cond t (Some (old + by)) (map.get s.counters q)) (sym (texts_ties q key)))
          ∙ counted (pointwise nat_eq q key) old by (map.get s.counters q) (count_at log q) (m.counters q) (λ tie. ap (λ (k : List ℕ). unwrap_or (map.get s.counters k) 0) (sym ((bytes_decides q key).0 tie)))
          ∙ ap (λ n. count_at log q + n) (sym (added-cond q key by old))
          ∙ sym (count_at-push log c q);
      last = m.last ∙ ap (λ (es : List (List ℕ × Cell)). opening + length es) (sym same);
    }

-- the log with a shard's next call
pub after-reply_of : (opening : ℕ) (log : List Call) (s : ShardState) (request : StoreRequest) → Matches opening log s → Matches opening (log ++ record { request = request; reply = reply_of s request } ∷ []) (next_of s request)
after-reply_of opening log s (Load key) m = kept opening log s _ m refl (λ _. refl)
after-reply_of opening log s (StoreIf key stamp value) m =
    elim ((cell_under key s.cells).stamp == stamp) as (λ t. let answer = cond t (cond (s.last == greatest) (reply.Full s.last) (reply.Stored (s.last + 1))) (reply.Moved (cell_under key s.cells).stamp) in
    Matches opening (log ++ record { request = StoreIf key stamp value; reply = answer } ∷ []) (after_reply s (StoreIf key stamp value) answer)) [
      | true ↦ elim (s.last == greatest) as (λ t. let answer = cond t (reply.Full s.last) (reply.Stored (s.last + 1)) in
          Matches opening (log ++ record { request = StoreIf key stamp value; reply = answer } ∷ []) (after_reply s (StoreIf key stamp value) answer)) [
            | true ↦ kept opening log s _ m refl (λ _. refl)
            | false ↦ stored opening log s key stamp value m
          ]
      | false ↦ kept opening log s _ m refl (λ _. refl)
    ]
after-reply_of opening log s (Add key by) m =
    let old : ℕ = unwrap_or (map.get s.counters key) 0 in
    elim (nat_lt greatest (old + by)) as (λ t. let answer = cond t (reply.Full old) (reply.Count old) in
    Matches opening (log ++ record { request = Add key by; reply = answer } ∷ []) (after_reply s (Add key by) answer)) [
      | true ↦ kept opening log s _ m refl (λ _. refl)
      | false ↦ summed opening log s key by m
    ]
after-reply_of opening log s (Page from before limit) m = kept opening log s _ m refl (λ _. refl)

-- a log that is served, with a call that follows from it
pub ServesAll-push : (opening : ℕ) (log : List Call) (c : Call) → ServesAll opening log → Serves opening log c → ServesAll opening (log ++ c ∷ [])
ServesAll-push opening log c served next = Along-append (Serves opening) [] log (c ∷ []) served (next, tt)
