-- The numbers that a manager has left.
use Rattle.std.proofs.Common.{◌≡◌, ◌≤◌, ◌<◌, ℕ, zero, suc, ◌+◌, ◌-◌, Bool, true, false, cond, List, [], ◌∷◌, ◌++◌, drop, length, length-append, length-drop, Some, None, refl, sym, ap, ◌∙◌, append-nil, arith, leb-true, leb-false, le-leb, ltb-true, ltb-false}
use Rattle.std.specs.Prelude.{flat_map, nat_le, nat_lt, option_to_list}
use Rattle.std.specs.List.{list_all}
use Rattle.std.proofs.lemmas.Bool.{and_parts, and_from}
use Rattle.std.proofs.lemmas.List.{drop-append-le}
use Rattle.std.proofs.lemmas.List.Concat.{flat_map-append}
use Rattle.std.proofs.lemmas.List.Folds.{list_all-append}
use Rattle.tl_descriptor.specs.Tids.{TidSet}
use Rattle.tl_descriptor.specs.declared.run.Run.{Run}
use Rattle.tl_manager.specs.declared.active.Active.{Active}
use Rattle.tl_manager.specs.declared.request.ManagerRequest.TheVariants.{Begin, Range}
use Rattle.tl_manager.specs.declared.request.ManagerReply.TheVariants as reply
use Rattle.tl_manager.specs.Ranges.{after_first, drawn, first_number, has_number, numbers_from, numbers_of, range_of}
use Rattle.tl_manager.specs.Serves.{Call, begun, begun_by, brought, brought_by, first_of, left}

-- these ranges have the numbers that a log leaves
pub record Left (log : List Call) (held : List Run) : Type 0 where
  pub numbers : flat_map numbers_of held ≡ left log
  pub ranges : list_all has_number held ≡ true
  pub enough : length (begun log) ≤ length (brought log)

pub brought-push : (log : List Call) (c : Call) → brought (log ++ c ∷ []) ≡ brought log ++ brought_by c.request
brought-push log c = flat_map-append (λ (d : Call). brought_by d.request) log (c ∷ []) ∙ ap (λ (tids : List ℕ). brought log ++ tids) (append-nil (brought_by c.request))

pub begun-push : (log : List Call) (c : Call) → begun (log ++ c ∷ []) ≡ begun log ++ begun_by c.request c.reply
begun-push log c = flat_map-append (λ (d : Call). begun_by d.request d.reply) log (c ∷ []) ∙ ap (λ (new : List Active). begun log ++ new) (append-nil (begun_by c.request c.reply))

after_one : List ℕ → List ℕ
after_one [] = []
after_one (x ∷ xs) = xs

drop-next : (n : ℕ) (xs : List ℕ) → drop (suc n) xs ≡ after_one (drop n xs)
unfolding after_one
drop-next zero [] = refl
drop-next zero (x ∷ xs) = refl
drop-next (suc n) [] = refl
drop-next (suc n) (x ∷ xs) = drop-next n xs

-- the first number of a range, and the others
opened : (run : Run) → run.low ≤ run.high → numbers_of run ≡ run.low ∷ numbers_from (suc run.low) (run.high - run.low)
opened run h =
    let more : suc run.high - run.low ≡ suc (run.high - run.low) = omega arith in
    ap (numbers_from run.low) more

first_of_ranges : (ranges : List Run) → list_all has_number ranges ≡ true → first_number ranges ≡ first_of (flat_map numbers_of ranges)
first_of_ranges [] h = refl
first_of_ranges (run ∷ runs) h =
    let parts = and_parts (has_number run) (list_all has_number runs) h in
    sym (ap (λ (tids : List ℕ). first_of (tids ++ flat_map numbers_of runs)) (opened run (leb-true run.low run.high parts.0)))

pub first_left : (log : List Call) (ranges : List Run) → Left log ranges → first_number ranges ≡ first_of (left log)
first_left log ranges l = first_of_ranges ranges l.ranges ∙ ap first_of l.numbers

-- the others, whether there are some or not
others : (run : Run) (t : Bool) → nat_lt run.low run.high ≡ t → run.low ≤ run.high
    → flat_map numbers_of (option_to_list (cond t (Some (record { low = run.low + 1; high = run.high })) None)) ≡ numbers_from (suc run.low) (run.high - run.low)
others run true e h =
    let next : run.low + 1 ≡ suc run.low = omega arith in
    let count : suc run.high - (run.low + 1) ≡ run.high - run.low = omega arith in
    append-nil _ ∙ (λ i. numbers_from (next i) (count i))
others run false e h =
    let end : run.high ≤ run.low = ltb-false run.low run.high e in
    let none : run.high - run.low ≡ 0 = omega arith in
    sym (ap (numbers_from (suc run.low)) none)

drawn_numbers : (run : Run) (runs : List Run) → run.low ≤ run.high → flat_map numbers_of (drawn (run ∷ runs)) ≡ after_one (flat_map numbers_of (run ∷ runs))
unfolding after_one
drawn_numbers run runs h =
    flat_map-append numbers_of (option_to_list (after_first run)) runs
    ∙ ap (λ (tids : List ℕ). tids ++ flat_map numbers_of runs) (others run (nat_lt run.low run.high) refl h)
    ∙ sym (ap (λ (tids : List ℕ). after_one (tids ++ flat_map numbers_of runs)) (opened run h))

others_some : (run : Run) (runs : List Run) (t : Bool) → nat_lt run.low run.high ≡ t → list_all has_number runs ≡ true
    → list_all has_number (option_to_list (cond t (Some (record { low = run.low + 1; high = run.high })) None) ++ runs) ≡ true
others_some run runs true e h =
    let less : run.low < run.high = ltb-true run.low run.high e in
    and_from _ _ (le-leb (run.low + 1) run.high (omega arith)) h
others_some run runs false e h = h

pub same_brought : (log : List Call) (c : Call) → brought_by c.request ≡ [] → brought (log ++ c ∷ []) ≡ brought log
same_brought log c none = brought-push log c ∙ ap (λ (tids : List ℕ). brought log ++ tids) none ∙ append-nil (brought log)

pub same_begun : (log : List Call) (c : Call) → begun_by c.request c.reply ≡ [] → begun (log ++ c ∷ []) ≡ begun log
same_begun log c nothing = begun-push log c ∙ ap (λ (new : List Active). begun log ++ new) nothing ∙ append-nil (begun log)

-- a call that brings no number and begins nothing
pub same_left : (log : List Call) (c : Call) (ranges : List Run) → brought_by c.request ≡ [] → begun_by c.request c.reply ≡ [] → Left log ranges → Left (log ++ c ∷ []) ranges
same_left log c ranges none nothing l =
    let more : brought (log ++ c ∷ []) ≡ brought log = same_brought log c none in
    let same : begun (log ++ c ∷ []) ≡ begun log = same_begun log c nothing in
    record {
      numbers = l.numbers ∙ sym (λ i. drop (length (same i)) (more i));
      ranges = l.ranges;
      enough = (let before : length (begun log) ≤ length (brought log) = l.enough in let b : length (begun (log ++ c ∷ [])) ≡ length (begun log) = ap length same in let t : length (brought (log ++ c ∷ [])) ≡ length (brought log) = ap length more in omega arith);
    }

range_numbers : (low high : ℕ) (t : Bool) → nat_le low high ≡ t
    → flat_map numbers_of (cond t (record { low = low; high = high } ∷ []) []) ≡ numbers_of (record { low = low; high = high })
range_numbers low high true e = append-nil _
range_numbers low high false e =
    let above : high < low = leb-false low high e in
    let none : suc high - low ≡ 0 = omega arith in
    sym (ap (numbers_from low) none)

range_some : (low high : ℕ) (t : Bool) → nat_le low high ≡ t → list_all has_number (cond t (record { low = low; high = high } ∷ []) []) ≡ true
range_some low high true e = and_from _ _ e refl
range_some low high false e = refl

-- a Range
pub brought_more : (log : List Call) (ranges : List Run) (low high : ℕ) → Left log ranges
    → Left (log ++ record { request = Range low high; reply = reply.Ranged } ∷ []) (ranges ++ range_of low high)
brought_more log ranges low high l =
    let c : Call = record { request = Range low high; reply = reply.Ranged } in
    let run : Run = record { low = low; high = high } in
    let more : brought (log ++ c ∷ []) ≡ brought log ++ numbers_of run = brought-push log c in
    let same : begun (log ++ c ∷ []) ≡ begun log = begun-push log c ∙ append-nil (begun log) in
    let new : flat_map numbers_of (range_of low high) ≡ numbers_of run = range_numbers low high (nat_le low high) refl in
    record {
      numbers =
          flat_map-append numbers_of ranges (range_of low high)
          ∙ (λ i. l.numbers i ++ new i)
          ∙ sym (drop-append-le (length (begun log)) (brought log) (numbers_of run) l.enough)
          ∙ sym (λ i. drop (length (same i)) (more i));
      ranges = list_all-append has_number ranges (range_of low high) ∙ and_from _ _ l.ranges (range_some low high (nat_le low high) refl);
      enough = (let before : length (begun log) ≤ length (brought log) = l.enough in let b : length (begun (log ++ c ∷ [])) ≡ length (begun log) = ap length same in let t : length (brought (log ++ c ∷ [])) ≡ length (brought log) + length (numbers_of run) = ap length more ∙ length-append (brought log) (numbers_of run) in omega arith);
    }

-- a Begin that draws the first number
pub drawn_left : (log : List Call) (run : Run) (runs : List Run) (node : ℕ) (seen copy floor : TidSet) → Left log (run ∷ runs)
    → Left (log ++ record { request = Begin node seen; reply = reply.Began run.low copy floor } ∷ []) (drawn (run ∷ runs))
drawn_left log run runs node seen copy floor l =
    let c : Call = record { request = Begin node seen; reply = reply.Began run.low copy floor } in
    let new : Active = record { tid = run.low; node = node; snapshot = copy } in
    let parts = and_parts (has_number run) (list_all has_number runs) l.ranges in
    let some : run.low ≤ run.high = leb-true run.low run.high parts.0 in
    let more : brought (log ++ c ∷ []) ≡ brought log = brought-push log c ∙ append-nil (brought log) in
    let grown : length (begun (log ++ c ∷ [])) ≡ length (begun log) + length (new ∷ []) = ap length (begun-push log c) ∙ length-append (begun log) (new ∷ []) in
    let longer : length (begun (log ++ c ∷ [])) ≡ suc (length (begun log)) = omega arith in
    record {
      numbers =
          drawn_numbers run runs some
          ∙ ap after_one l.numbers
          ∙ sym (drop-next (length (begun log)) (brought log))
          ∙ sym (λ i. drop (longer i) (more i));
      ranges = others_some run runs (nat_lt run.low run.high) refl parts.1;
      enough = (let all : length (flat_map numbers_of (run ∷ runs)) ≡ length (left log) = ap length l.numbers in
          let first : length (flat_map numbers_of (run ∷ runs)) ≡ suc (length (numbers_from (suc run.low) (run.high - run.low) ++ flat_map numbers_of runs)) = ap (λ (tids : List ℕ). length (tids ++ flat_map numbers_of runs)) (opened run some) in
          let rest : length (left log) ≡ length (brought log) - length (begun log) = length-drop (length (begun log)) (brought log) in
          let t : length (brought (log ++ c ∷ [])) ≡ length (brought log) = ap length more in
          omega arith);
    }
