-- The numbers that a manager gave are the first of those that it was brought.
use Rattle.std.proofs.Common.{◌≡◌, ◌≤◌, ℕ, zero, suc, ◌+◌, List, [], ◌∷◌, ◌++◌, drop, length, length-append, map, take, Option, Some, None, unwrap_or, refl, sym, subst, ap, ◌∙◌, append_assoc, append-nil, arith}
use Rattle.std.proofs.lemmas.List.{take-append-le, map-append}
use Rattle.tl_base.specs.Along.{Along}
use Rattle.tl_descriptor.specs.Tids.{TidSet}
use Rattle.tl_descriptor.specs.declared.run.Run.{Run}
use Rattle.tl_manager.specs.declared.active.Active.{Active}
use Rattle.tl_manager.specs.declared.request.ManagerRequest.{ManagerRequest}
use Rattle.tl_manager.specs.declared.request.ManagerRequest.TheVariants.{Begin, Range, End, Orphans, Floor, Post, Claim}
use Rattle.tl_manager.specs.declared.request.ManagerReply.{ManagerReply}
use Rattle.tl_manager.specs.declared.request.ManagerReply.TheVariants as reply
use Rattle.tl_manager.specs.Floor.{floor_of, newer}
use Rattle.tl_manager.specs.Ranges.{numbers_of}
use Rattle.tl_manager.specs.State.{begin_reply}
use Rattle.tl_manager.specs.Serves.{Call, Serves, ServesAll, active_after, begun, begun_by, brought, brought_by, copy_after, first_of, given, left, reply_after}
use Rattle.tl_manager.proofs.Numbers.{begun-push, brought-push, same_begun, same_brought}

pub record InOrder (log : List Call) : Type 0 where
  pub first : given log ≡ take (length (begun log)) (brought log)
  pub enough : length (begun log) ≤ length (brought log)

abbrev tids : List Active → List ℕ
tids = map (λ (transaction : Active). transaction.tid)

same_order : (log : List Call) (c : Call) → brought_by c.request ≡ [] → begun_by c.request c.reply ≡ [] → InOrder log → InOrder (log ++ c ∷ [])
same_order log c none nothing o =
    let more : brought (log ++ c ∷ []) ≡ brought log = same_brought log c none in
    let same : begun (log ++ c ∷ []) ≡ begun log = same_begun log c nothing in
    record {
      first = ap tids same ∙ o.first ∙ sym (λ i. take (length (same i)) (more i));
      enough = (let before : length (begun log) ≤ length (brought log) = o.enough in let b : length (begun (log ++ c ∷ [])) ≡ length (begun log) = ap length same in let t : length (brought (log ++ c ∷ [])) ≡ length (brought log) = ap length more in omega arith);
    }

after_range : (log : List Call) (low high : ℕ) → InOrder log → InOrder (log ++ record { request = Range low high; reply = reply.Ranged } ∷ [])
after_range log low high o =
    let c : Call = record { request = Range low high; reply = reply.Ranged } in
    let run : Run = record { low = low; high = high } in
    let more : brought (log ++ c ∷ []) ≡ brought log ++ numbers_of run = brought-push log c in
    let same : begun (log ++ c ∷ []) ≡ begun log = same_begun log c refl in
    record {
      first = ap tids same ∙ o.first ∙ sym (take-append-le (length (begun log)) (brought log) (numbers_of run) o.enough) ∙ sym (λ i. take (length (same i)) (more i));
      enough = (let before : length (begun log) ≤ length (brought log) = o.enough in let b : length (begun (log ++ c ∷ [])) ≡ length (begun log) = ap length same in let t : length (brought (log ++ c ∷ [])) ≡ length (brought log) + length (numbers_of run) = ap length more ∙ length-append (brought log) (numbers_of run) in omega arith);
    }

next_taken : (n : ℕ) (xs : List ℕ) (tid : ℕ) → first_of (drop n xs) ≡ Some tid → take (suc n) xs ≡ take n xs ++ tid ∷ []
next_taken zero [] tid e = absurd cc
next_taken zero (x ∷ xs) tid e = ap (λ y. y ∷ []) (ap (λ o. unwrap_or o x) e)
next_taken (suc n) [] tid e = absurd cc
next_taken (suc n) (x ∷ xs) tid e = ap {B = List ℕ} (λ rest. x ∷ rest) (next_taken n xs tid e)

room : (n : ℕ) (xs : List ℕ) (tid : ℕ) → first_of (drop n xs) ≡ Some tid → suc n ≤ length xs
room zero [] tid e = absurd cc
room zero (x ∷ xs) tid e = omega arith
room (suc n) [] tid e = absurd cc
room (suc n) (x ∷ xs) tid e = let rest = room n xs tid e in omega arith

-- a Begin, by what it draws
after_begin : (log : List Call) (node : ℕ) (seen copy : TidSet) (active : List Active) (found : Option ℕ) → first_of (left log) ≡ found → InOrder log
    → InOrder (log ++ record { request = Begin node seen; reply = begin_reply found copy active } ∷ [])
after_begin log node seen copy active None e o = same_order log (record { request = Begin node seen; reply = reply.NeedRange }) refl refl o
after_begin log node seen copy active (Some tid) e o =
    let c : Call = record { request = Begin node seen; reply = reply.Began tid copy (floor_of copy active) } in
    let new : Active = record { tid = tid; node = node; snapshot = copy } in
    let more : brought (log ++ c ∷ []) ≡ brought log = same_brought log c refl in
    let one : begun (log ++ c ∷ []) ≡ begun log ++ new ∷ [] = begun-push log c in
    let grown : length (begun (log ++ c ∷ [])) ≡ length (begun log) + length (new ∷ []) = ap length one ∙ length-append (begun log) (new ∷ []) in
    let longer : length (begun (log ++ c ∷ [])) ≡ suc (length (begun log)) = omega arith in
    record {
      first =
          ap tids one
          ∙ map-append (λ (transaction : Active). transaction.tid) (begun log) (new ∷ [])
          ∙ ap (λ (front : List ℕ). front ++ tid ∷ []) o.first
          ∙ sym (next_taken (length (begun log)) (brought log) tid e)
          ∙ sym (λ i. take (longer i) (more i));
      enough = (let last : suc (length (begun log)) ≤ length (brought log) = room (length (begun log)) (brought log) tid e in let t : length (brought (log ++ c ∷ [])) ≡ length (brought log) = ap length more in omega arith);
    }

after_reply : (log : List Call) (request : ManagerRequest) → InOrder log → InOrder (log ++ record { request = request; reply = reply_after log request } ∷ [])
after_reply log (Begin node seen) o = after_begin log node seen (newer (copy_after log) seen) (active_after log) (first_of (left log)) refl o
after_reply log (Range low high) o = after_range log low high o
after_reply log (End tid) o = same_order log (record { request = End tid; reply = reply_after log (End tid) }) refl refl o
after_reply log (Orphans node) o = same_order log (record { request = Orphans node; reply = reply_after log (Orphans node) }) refl refl o
after_reply log (Floor seen) o = same_order log (record { request = Floor seen; reply = reply_after log (Floor seen) }) refl refl o
after_reply log (Post node also) o = same_order log (record { request = Post node also; reply = reply.Posted }) refl refl o
after_reply log (Claim node) o = same_order log (record { request = Claim node; reply = reply_after log (Claim node) }) refl refl o

after_call : (log : List Call) (c : Call) → Serves log c → InOrder log → InOrder (log ++ c ∷ [])
after_call log c e o = subst (λ (answer : ManagerReply). InOrder (log ++ record { request = c.request; reply = answer } ∷ [])) (sym e) (after_reply log c.request o)

along : (past rest : List Call) → InOrder past → Along Serves past rest → InOrder (past ++ rest)
along past [] o h = subst InOrder (sym (append-nil past)) o
along past (c ∷ rest) o h = subst InOrder (append_assoc past (c ∷ []) rest) (along (past ++ c ∷ []) rest (after_call past c h.0 o) h.1)

pub in_order : (log : List Call) → ServesAll log → InOrder log
in_order log h = along [] log (record { first = refl; enough = omega arith }) h
