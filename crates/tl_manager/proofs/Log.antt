-- A manager's next call keeps what its log says.
use Rattle.std.proofs.Common.{◌≡◌, ℕ, ◌==◌, Bool, true, false, cond, not, List, [], ◌∷◌, ◌++◌, filter, Option, Some, None, unwrap_or, refl, sym, ap, ◌∙◌, append_assoc, append-nil, eq-eqb, eqb-true}
use Rattle.std.specs.Prelude.{◌&&◌, ◌||◌, flat_map}
use Rattle.std.specs.Cmp.{nat_cmp_total, unsigned_tied}
use Rattle.std.specs.FinMap as finite
use Rattle.std.specs.List.{list_all, list_any}
use Rattle.std.proofs.lemmas.List.Elements.{filter-append}
use Rattle.std.proofs.lemmas.List.Folds.{list_any-append}
use Rattle.std.proofs.lemmas.List.Sums.{fold-append}
use Rattle.tl_base.specs.Along.{Along-append}
use Rattle.tl_base.specs.NodeSet.{no_nodes}
use Rattle.tl_base.specs.declared.node.NodeSet.{NodeSet}
use Rattle.tl_descriptor.specs.Tids.{TidSet}
use Rattle.tl_descriptor.specs.declared.run.Run.{Run}
use Rattle.tl_manager.specs.declared.active.Active.{Active}
use Rattle.tl_manager.specs.declared.request.ManagerRequest.{ManagerRequest}
use Rattle.tl_manager.specs.declared.request.ManagerRequest.TheVariants.{Begin, Range, End, Orphans, Floor, Post, Claim}
use Rattle.tl_manager.specs.declared.request.ManagerReply.TheVariants as reply
use Rattle.tl_manager.specs.Floor.{floor_of, newer}
use Rattle.tl_manager.specs.Notices.{Notices, joined, with_notice}
use Rattle.tl_manager.specs.Ranges.{drawn, first_number, has_number, numbers_of, range_of}
use Rattle.tl_manager.specs.State.{ManagerState, after_begin, begin_reply, claim_reply, end_reply, next_of, opening_copy, reply_of}
use Rattle.tl_manager.specs.Transactions.{tids_of, without}
use Rattle.tl_manager.specs.Serves.{Call, Matches, Serves, ServesAll, active_after, begun_by, brought_by, copy_after, ends, first_of, gives, left, notice_after, posted, posted_by, reply_after, shown, union_of}
use Rattle.tl_manager.proofs.Numbers.{Left, brought_more, drawn_left, first_left, same_left}

-- what a log shows, with one call more
pub copy-push : (log : List Call) (c : Call) → copy_after (log ++ c ∷ []) ≡ shown (copy_after log) c.request c.reply
copy-push log c = fold-append (λ copy (d : Call). shown copy d.request d.reply) opening_copy log (c ∷ [])

filter_all : (active : List Active) → filter (λ _. true) active ≡ active
filter_all [] = refl
filter_all (a ∷ active) = ap {B = List Active} (λ rest. a ∷ rest) (filter_all active)

-- a test of two parts
filter_twice : (p q r : Active → Bool) → ((a : Active) → r a ≡ (p a && q a)) → (active : List Active) → filter r active ≡ filter q (filter p active)
filter_twice p q r both [] = refl
filter_twice p q r both (a ∷ active) =
    ap (λ t. cond t (a ∷ filter r active) (filter r active)) (both a)
    ∙ ap (λ (rest : List Active). cond (p a && q a) (a ∷ rest) rest) (filter_twice p q r both active)
    ∙ elim (p a) as (λ t. cond (t && q a) (a ∷ filter q (filter p active)) (filter q (filter p active)) ≡ filter q (cond t (a ∷ filter p active) (filter p active))) [ true ↦ refl | false ↦ refl ]

neither : (a b : Bool) → not (a || (b || false)) ≡ (not a && not b)
neither true b = refl
neither false true = refl
neither false false = refl

-- a call ends some of those that were active, and begins another
pub active-push : (log : List Call) (c : Call) → active_after (log ++ c ∷ []) ≡ filter (λ a. not (ends a.tid c.request)) (active_after log) ++ begun_by c.request c.reply
active-push [] c = append-nil _ ∙ filter_all (begun_by c.request c.reply)
active-push (d ∷ log) c =
    let first : List Active = begun_by d.request d.reply in
    let lasts : Active → Bool = λ a. not (list_any (λ (later : Call). ends a.tid later.request) log) in
    let stays : Active → Bool = λ a. not (ends a.tid c.request) in
    let longer : Active → Bool = λ a. not (list_any (λ (later : Call). ends a.tid later.request) (log ++ c ∷ [])) in
    let twice : filter longer first ≡ filter stays (filter lasts first) =
    filter_twice lasts stays longer (λ a. ap not (list_any-append (λ (later : Call). ends a.tid later.request) log (c ∷ [])) ∙ neither (list_any (λ (later : Call). ends a.tid later.request) log) (ends a.tid c.request)) first in
    ap (λ (front : List Active). front ++ active_after (log ++ c ∷ [])) twice
    ∙ ap (λ (rest : List Active). filter stays (filter lasts first) ++ rest) (active-push log c)
    ∙ sym (append_assoc (filter stays (filter lasts first)) (filter stays (active_after log)) (begun_by c.request c.reply))
    ∙ ap (λ (front : List Active). front ++ begun_by c.request c.reply) (sym (filter-append stays (filter lasts first) (active_after log)))

-- a call that ends nothing and begins nothing
quiet : (log : List Call) (c : Call) → ((a : Active) → ends a.tid c.request ≡ false) → begun_by c.request c.reply ≡ [] → active_after (log ++ c ∷ []) ≡ active_after log
quiet log c none nothing =
    active-push log c
    ∙ ap (λ (test : Active → Bool). filter test (active_after log) ++ begun_by c.request c.reply) (λ i a. not (none a i))
    ∙ ap (λ (new : List Active). filter (λ _. true) (active_after log) ++ new) nothing
    ∙ append-nil _
    ∙ filter_all (active_after log)

given : (given_before given_now : Bool) (now before new : List NodeSet)
    → cond (given_before || (given_now || false)) [] now ++ (cond given_now [] before ++ new) ≡ cond given_now [] (cond given_before [] now ++ before) ++ new
given true true now before new = refl
given true false now before new = refl
given false true now before new = refl
given false false now before new = sym (append_assoc now before new)

-- a call gives the sets of a node, or posts one more
pub posted-push : (node : ℕ) (log : List Call) (c : Call) → posted node (log ++ c ∷ []) ≡ cond (gives node c.request c.reply) [] (posted node log) ++ posted_by node c.request
posted-push node [] c =
    append-nil (posted_by node c.request)
    ∙ elim (gives node c.request c.reply) as (λ t. posted_by node c.request ≡ cond t [] [] ++ posted_by node c.request) [ true ↦ refl | false ↦ refl ]
posted-push node (d ∷ log) c =
    let test : Call → Bool = λ later. gives node later.request later.reply in
    ap (λ t. cond t [] (posted_by node d.request) ++ posted node (log ++ c ∷ [])) (list_any-append test log (c ∷ []))
    ∙ ap (λ (rest : List NodeSet). cond (list_any test log || (gives node c.request c.reply || false)) [] (posted_by node d.request) ++ rest) (posted-push node log c)
    ∙ given (list_any test log) (gives node c.request c.reply) (posted_by node d.request) (posted node log) (posted_by node c.request)

-- the notice that a set is added to
union-push : (sets : List NodeSet) (also : NodeSet) → union_of (sets ++ also ∷ []) ≡ Some (joined (unwrap_or (union_of sets) no_nodes) also)
union-push [] also = refl
union-push (nodes ∷ sets) also = ap {B = Option NodeSet} (λ all. Some all) (fold-append joined (joined no_nodes nodes) sets (also ∷ []))

-- a call that gives and posts nothing
silent : (log : List Call) (c : Call) (node : ℕ) → gives node c.request c.reply ≡ false → posted_by node c.request ≡ [] → notice_after (log ++ c ∷ []) node ≡ notice_after log node
silent log c node none nothing =
    ap union_of (posted-push node log c
    ∙ ap (λ t. cond t [] (posted node log) ++ posted_by node c.request) none
    ∙ ap (λ (new : List NodeSet). posted node log ++ new) nothing
    ∙ append-nil (posted node log))

-- a Post
added : (t : Bool) (q node : ℕ) (also : NodeSet) (notices : Notices) (sets : List NodeSet) → (q == node) ≡ t → finite.get notices q ≡ union_of sets
    → cond t (Some (joined (unwrap_or (finite.get notices node) no_nodes) also)) (finite.get notices q) ≡ union_of (sets ++ cond t (also ∷ []) [])
added true q node also notices sets e m =
    ap (λ found. Some (joined (unwrap_or found no_nodes) also)) (ap (λ n. finite.get notices n) (sym (eqb-true q node e)) ∙ m) ∙ sym (union-push sets also)
added false q node also notices sets e m = m ∙ ap union_of (sym (append-nil sets))

post-notices : (log : List Call) (s : ManagerState) (node : ℕ) (also : NodeSet) → ((q : ℕ) → finite.get s.notices q ≡ notice_after log q)
    → (q : ℕ) → finite.get (with_notice node also s.notices) q ≡ notice_after (log ++ record { request = Post node also; reply = reply.Posted } ∷ []) q
post-notices log s node also m q =
    let c : Call = record { request = Post node also; reply = reply.Posted } in
    let new : NodeSet = joined (unwrap_or (finite.get s.notices node) no_nodes) also in
    finite.get-insert nat_cmp_total s.notices node new q
    ∙ ap (λ t. cond t (Some new) (finite.get s.notices q)) (unsigned_tied q node)
    ∙ added (q == node) q node also s.notices (posted q log) refl (m q)
    ∙ ap union_of (sym (posted-push q log c))

-- a Claim that found this notice
taken : (t : Bool) (found : Option NodeSet) (q node : ℕ) (notices : Notices) (sets : List NodeSet) → (q == node) ≡ t → finite.get notices node ≡ found → finite.get notices q ≡ union_of sets
    → cond t None (finite.get notices q) ≡ union_of (cond (elim found [ None ↦ false | Some also ↦ t ]) [] sets ++ [])
taken true None q node notices sets e here m =
    sym here ∙ ap (λ n. finite.get notices n) (sym (eqb-true q node e)) ∙ m ∙ ap union_of (sym (append-nil sets))
taken true (Some also) q node notices sets e here m = refl
taken false None q node notices sets e here m = m ∙ ap union_of (sym (append-nil sets))
taken false (Some also) q node notices sets e here m = m ∙ ap union_of (sym (append-nil sets))

claim-gives : (found : Option NodeSet) (q node : ℕ) → elim found [ None ↦ false | Some also ↦ q == node ] ≡ gives q (Claim node) (claim_reply found)
claim-gives None q node = refl
claim-gives (Some also) q node = refl

claim-notices : (log : List Call) (s : ManagerState) (node : ℕ) → ((q : ℕ) → finite.get s.notices q ≡ notice_after log q)
    → (q : ℕ) → finite.get (finite.remove s.notices node) q ≡ notice_after (log ++ record { request = Claim node; reply = claim_reply (finite.get s.notices node) } ∷ []) q
claim-notices log s node m q =
    let found : Option NodeSet = finite.get s.notices node in
    let c : Call = record { request = Claim node; reply = claim_reply found } in
    finite.get-remove nat_cmp_total s.notices node q
    ∙ ap (λ t. cond t None (finite.get s.notices q)) (unsigned_tied q node)
    ∙ taken (q == node) found q node s.notices (posted q log) refl refl (m q)
    ∙ ap (λ t. union_of (cond t [] (posted q log) ++ [])) (claim-gives found q node)
    ∙ ap union_of (sym (posted-push q log c))

-- a notice that was given is there no longer
pub gone_after : (log : List Call) (node : ℕ) (also : NodeSet) → notice_after (log ++ record { request = Claim node; reply = reply.Given also } ∷ []) node ≡ None
gone_after log node also =
    ap union_of (posted-push node log (record { request = Claim node; reply = reply.Given also }) ∙ ap (λ t. cond t [] (posted node log) ++ []) (eq-eqb node node refl))

-- what a manager that matches answers is what the log calls for
pub reply_of-log : (log : List Call) (s : ManagerState) (request : ManagerRequest) → Matches log s → reply_of s request ≡ reply_after log request
reply_of-log log s (Begin node seen) m =
    let first : first_number s.ranges ≡ first_of (left log) = first_left log s.ranges (record { numbers = m.numbers; ranges = m.ranges; enough = m.enough }) in
    λ i. begin_reply (first i) (newer (m.copy i) seen) (m.active i)
reply_of-log log s (Range low high) m = refl
reply_of-log log s (End tid) m = ap (end_reply tid) m.active
reply_of-log log s (Orphans node) m = ap (λ (active : List Active). reply.Orphaned (tids_of node active)) m.active
reply_of-log log s (Floor seen) m = λ i. reply.FloorIs (floor_of (newer (m.copy i) seen) (m.active i))
reply_of-log log s (Post node also) m = refl
reply_of-log log s (Claim node) m = ap claim_reply (m.notices node)

-- a call that brings no number and begins nothing, with what it leaves of the copy, the transactions and the notices
plain : (log : List Call) (s t : ManagerState) (c : Call) → Matches log s → brought_by c.request ≡ [] → begun_by c.request c.reply ≡ [] → t.ranges ≡ s.ranges
    → t.copy ≡ shown s.copy c.request c.reply → t.active ≡ active_after (log ++ c ∷ []) → ((q : ℕ) → finite.get t.notices q ≡ notice_after (log ++ c ∷ []) q)
    → Matches (log ++ c ∷ []) t
plain log s t c m none nothing same copy active notices =
    let more : Left (log ++ c ∷ []) s.ranges = same_left log c s.ranges none nothing (record { numbers = m.numbers; ranges = m.ranges; enough = m.enough }) in
    record {
      copy = copy ∙ ap (λ (old : TidSet). shown old c.request c.reply) m.copy ∙ sym (copy-push log c);
      numbers = ap (flat_map numbers_of) same ∙ more.numbers;
      ranges = ap (λ ranges. list_all has_number ranges) same ∙ more.ranges;
      enough = more.enough;
      active = active;
      notices = notices;
    }

numbers_left : (log : List Call) (s : ManagerState) → Matches log s → Left log s.ranges
numbers_left log s m = record { numbers = m.numbers; ranges = m.ranges; enough = m.enough }

-- a Begin: nothing where there is no number, else a transaction
begin-keeps : (log : List Call) (copy : TidSet) (ranges : List Run) (active : List Active) (notices : Notices) (node : ℕ) (seen : TidSet)
    → Matches log (record { copy = copy; ranges = ranges; active = active; notices = notices })
    → Matches (log ++ record { request = Begin node seen; reply = begin_reply (first_number ranges) (newer copy seen) active } ∷ [])
    (after_begin (first_number ranges) node (newer copy seen) (record { copy = copy; ranges = ranges; active = active; notices = notices }))
begin-keeps log copy [] active notices node seen m =
    let s : ManagerState = record { copy = copy; ranges = []; active = active; notices = notices } in
    let c : Call = record { request = Begin node seen; reply = reply.NeedRange } in
    plain log s s c m refl refl refl refl (m.active ∙ sym (quiet log c (λ a. refl) refl)) (λ q. m.notices q ∙ sym (silent log c q refl refl))
begin-keeps log copy (run ∷ runs) active notices node seen m =
    let s : ManagerState = record { copy = copy; ranges = run ∷ runs; active = active; notices = notices } in
    let floor : TidSet = floor_of (newer copy seen) active in
    let c : Call = record { request = Begin node seen; reply = reply.Began run.low (newer copy seen) floor } in
    let new : Active = record { tid = run.low; node = node; snapshot = newer copy seen } in
    let more : Left (log ++ c ∷ []) (drawn (run ∷ runs)) = drawn_left log run runs node seen (newer copy seen) floor (numbers_left log s m) in
    record {
      copy = ap (λ (old : TidSet). newer old seen) m.copy ∙ sym (copy-push log c);
      numbers = more.numbers;
      ranges = more.ranges;
      enough = more.enough;
      active = ap (λ (old : List Active). old ++ new ∷ []) (m.active ∙ sym (filter_all (active_after log))) ∙ sym (active-push log c);
      notices = λ q. m.notices q ∙ sym (silent log c q refl refl);
    }

range-keeps : (log : List Call) (s : ManagerState) (low high : ℕ) → Matches log s
    → Matches (log ++ record { request = Range low high; reply = reply.Ranged } ∷ []) (record s { ranges = s.ranges ++ range_of low high })
range-keeps log s low high m =
    let c : Call = record { request = Range low high; reply = reply.Ranged } in
    let more : Left (log ++ c ∷ []) (s.ranges ++ range_of low high) = brought_more log s.ranges low high (numbers_left log s m) in
    record {
      copy = m.copy ∙ sym (copy-push log c);
      numbers = more.numbers;
      ranges = more.ranges;
      enough = more.enough;
      active = m.active ∙ sym (quiet log c (λ a. refl) refl);
      notices = λ q. m.notices q ∙ sym (silent log c q refl refl);
    }

-- the log with a manager's next call
pub after-reply_of : (log : List Call) (s : ManagerState) (request : ManagerRequest) → Matches log s
    → Matches (log ++ record { request = request; reply = reply_of s request } ∷ []) (next_of s request)
after-reply_of log s (Begin node seen) m = begin-keeps log s.copy s.ranges s.active s.notices node seen m
after-reply_of log s (Range low high) m = range-keeps log s low high m
after-reply_of log s (End tid) m =
    let c : Call = record { request = End tid; reply = end_reply tid s.active } in
    plain log s (record s { active = without tid s.active }) c m refl refl refl refl
    (ap (without tid) m.active ∙ sym (active-push log c ∙ append-nil _)) (λ q. m.notices q ∙ sym (silent log c q refl refl))
after-reply_of log s (Orphans node) m =
    let c : Call = record { request = Orphans node; reply = reply.Orphaned (tids_of node s.active) } in
    plain log s s c m refl refl refl refl (m.active ∙ sym (quiet log c (λ a. refl) refl)) (λ q. m.notices q ∙ sym (silent log c q refl refl))
after-reply_of log s (Floor seen) m =
    let c : Call = record { request = Floor seen; reply = reply.FloorIs (floor_of (newer s.copy seen) s.active) } in
    plain log s (record s { copy = newer s.copy seen }) c m refl refl refl refl
    (m.active ∙ sym (quiet log c (λ a. refl) refl)) (λ q. m.notices q ∙ sym (silent log c q refl refl))
after-reply_of log s (Post node also) m =
    let c : Call = record { request = Post node also; reply = reply.Posted } in
    plain log s (record s { notices = with_notice node also s.notices }) c m refl refl refl refl
    (m.active ∙ sym (quiet log c (λ a. refl) refl)) (post-notices log s node also m.notices)
after-reply_of log s (Claim node) m =
    let c : Call = record { request = Claim node; reply = claim_reply (finite.get s.notices node) } in
    plain log s (record s { notices = finite.remove s.notices node }) c m refl refl refl refl
    (m.active ∙ sym (quiet log c (λ a. refl) refl)) (claim-notices log s node m.notices)

-- a log that is served, with a call that follows from it
pub ServesAll-push : (log : List Call) (c : Call) → ServesAll log → Serves log c → ServesAll (log ++ c ∷ [])
ServesAll-push log c served next = Along-append Serves [] log (c ∷ []) served (next, tt)
