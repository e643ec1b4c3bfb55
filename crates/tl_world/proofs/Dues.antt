-- Whether a node is due, done, spent or over, by what its slot has.
use Rattle.std.proofs.Common.{◌≡◌, ℕ, ◌+◌, Bool, true, false, List, [], ◌∷◌, ◌++◌, length, Option, Some, None, append-nil, refl, sym, ap, ◌∙◌, subst, arith}
use Rattle.std.specs.Prelude.{◌||◌, nat_le, not}
use Rattle.std.specs.List.{filter_map, list_any}
use Rattle.std.proofs.lemmas.Bool.Decides.{nat_tests}
use Rattle.std.proofs.lemmas.List.{length-append}
use Rattle.tl_base.specs.declared.place.Settings.{Settings}
use Rattle.tl_schema.specs.declared.catalog.Catalog.{Catalog}
use Rattle.tl_manager.specs.declared.mark.Mark.{Mark}
use Rattle.tl_manager.specs.declared.mark.Mark.TheVariants as mark
use Rattle.tl_manager.specs.declared.request.ManagerReply.TheVariants as manager
use Rattle.tl_manager.specs.declared.request.Reply.{Reply}
use Rattle.tl_manager.specs.declared.request.Reply.TheVariants as reply
use Rattle.tl_isolation.specs.declared.bound.Bound.{Bound}
use Rattle.tl_isolation.specs.declared.script.Script.{Script}
use Rattle.tl_isolation.specs.declared.script.Session.{Session}
use Rattle.tl_isolation.specs.declared.script.Vanish.{Vanish}
use Rattle.tl_isolation.specs.Script.{answer_at, answers_by}
use Rattle.tl_protocol.specs.Move.{is_empty}
use Rattle.tl_journal.specs.declared.event.Event.{Event}
use Rattle.tl_journal.specs.Journal.{entries_told, has_vanished, is_post, node_after, session_of}
use Rattle.tl_journal.specs.Law.{IsRun}
use Rattle.tl_journal.specs.Node.{Node}
use Rattle.tl_journal.specs.Schedule.{gave_none, is_answer, is_done, is_due, is_over, requests_of, vanish_of}
use Rattle.tl_journal.proofs.InOrder.{latest_more}
use Rattle.tl_journal.proofs.Journals.{spoken_at}
use Rattle.tl_journal.proofs.Logs.{entries_more}
use Rattle.tl_journal.proofs.Speaking.{SpeakIs}
use Rattle.tl_node.specs.Seen.{seen}
use Rattle.tl_node.specs.View.{NodeValue}
use Rattle.tl_node.proofs.AlikeTold.{todo_seen}
use Rattle.tl_world.specs.Stands.{HasSlot, IsNode, IsRunning, SlotValue, StandsOn, StandsAs, WorldValue, counted_by, slot_of}
use Rattle.tl_world.specs.Told.{began_in, marked_in}
use Rattle.tl_world.specs.Turns.{due_by}
use Rattle.tl_world.proofs.Counting.{requests_grow}
use Rattle.tl_world.proofs.Known.{has_session}
use Rattle.tl_world.proofs.Others.{run_of}
use Rattle.tl_world.proofs.Requests.{node_number}
use Rattle.tl_world.proofs.Stand.{there_is}

none_some : {A : Type 0} (x : A) → ◌≡◌ {A = Option A} (Some x) None → ⊥
none_some x e = cc

module _ (script : Script) (w : WorldValue) (R : Session → NodeValue → Type 0) (s : StandsAs R script w) (number : ℕ) where
  due_so : (o v : Option Vanish) → vanish_of script number ≡ o → v ≡ o → (count : ℕ) → count ≡ counted_by v w.events → is_due script w.events number ≡ due_by v count
  due_so None v e f count c = rw e (ap (λ x. due_by x count) (sym f))
  due_so (Some x) v e f count c = rw e (ap (λ k. nat_le x.count k) (ap (λ y. counted_by y w.events) (sym f) ∙ sym c) ∙ ap (λ y. due_by y count) (sym f))

  -- whether the count of its @vanish is reached
  pub due_is : (slot : SlotValue) → slot_of w.slots number ≡ Some slot → is_due script w.events number ≡ due_by slot.vanish slot.counted
  due_is slot was =
      let k = has_session R script w s number slot was in
      due_so (vanish_of script number) slot.vanish refl (k.is_slot.vanish_is ∙ ap (vanish_of script) k.own) slot.counted k.is_slot.counted_is

  -- how many requests it made
  pub made_is : (slot : SlotValue) → slot_of w.slots number ≡ Some slot → slot.made ≡ length (requests_of number w.events)
  made_is slot was =
      let k = has_session R script w s number slot was in
      k.is_slot.made_is ∙ ap (λ i. length (requests_of i w.events)) k.own

  or_so : (x y : Bool) → y ≡ true → (x || y) ≡ true
  or_so true y e = refl
  or_so false y e = e

  -- no more turns are its own: there is no such node,
  pub over_none : slot_of w.slots number ≡ None → is_over script w.events number ≡ true
  over_none e = by (session_of script number) refl (subst (λ o. HasSlot R script w.events (session_of script number) o) e (s.slots number))
    where
      by : (o : Option Session) → session_of script number ≡ o → HasSlot R script w.events o None → is_over script w.events number ≡ true
      by None f h = rw f refl
      by (Some session) f h = absurd h

  -- or it has vanished
  pub over_gone : (slot : SlotValue) → slot_of w.slots number ≡ Some slot → slot.node ≡ None → is_over script w.events number ≡ true
  over_gone slot was gone =
      let k = has_session R script w s number slot was in
      let v : has_vanished w.events k.session.node ≡ true = subst (λ o. IsNode (R k.session) w.events k.session.node o) gone k.is_slot.node_is in
      or_so (is_done script w.events number) (has_vanished w.events number) (subst (λ i. has_vanished w.events i ≡ true) k.own v)

-- the code of a node keeps its answers
answers_seen : (settings : Settings) (catalog : Catalog) (n : Node) → (seen settings catalog n).answers ≡ n.answers
answers_seen settings catalog n = by n.todo
  where
    by : (todo : List Bound) → (seen settings catalog (record n { todo = todo })).answers ≡ n.answers
    by [] = refl
    by (statement ∷ later) = refl

-- as many statements as answers
even : {A : Type 0} (past todo : List A) (n : ℕ) → n ≡ length past → nat_le (length (past ++ todo)) n ≡ is_empty todo
even past [] n e = let g : length (past ++ []) ≡ length past = ap length (append-nil past) in rw g (grind (arith, nat_tests))
even past (x ∷ todo) n e = let g : length (past ++ x ∷ todo) ≡ length past + length (x ∷ todo) = length-append past (x ∷ todo) in rw g (grind (arith, nat_tests))

module _ (script : Script) (w : WorldValue) (s : StandsOn script w) (number : ℕ) (slot : SlotValue) (v : NodeValue) (was : slot_of w.slots number ≡ Some slot)
    (there : slot.node ≡ Some v) where
  -- whether it has answered all its statements
  pub done_is : is_done script w.events number ≡ is_empty v.node.todo
  done_is =
      let k = has_session (IsRunning script w.settings w.events) script w s number slot was in
      let known = there_is (IsRunning script w.settings w.events k.session) w.events k.session.node slot.node v k.is_slot.node_is there in
      let run : IsRun script w.settings w.events = run_of script w (IsRunning script w.settings w.events) s in
      let node : Node = node_after w.settings script w.events k.session in
      let runs : has_vanished w.events number ≡ false = subst (λ i. has_vanished w.events i ≡ false) k.own known.0 in
      let speaks : SpeakIs script (entries_told w.events) k.session node =
      (spoken_at script w.settings w.events [] (subst (IsRun script w.settings) (sym (append-nil w.events)) run)).nodes number k.session k.is_session runs in
      let answers : length (answers_by number (entries_told w.events)) ≡ length speaks.past =
      ap (λ i. length (answers_by i (entries_told w.events))) (sym (node_number script w.settings w.events run number k.session k.is_session runs))
      ∙ ap length speaks.answers ∙ sym speaks.count in
      let todo : is_empty node.todo ≡ is_empty v.node.todo =
      ap is_empty (sym (todo_seen w.settings script.catalog node)) ∙ ap (λ (n : Node). is_empty n.todo) (sym known.1.stands.node_is) in
      of_session k.session k.is_session
      ∙ ap (λ xs. nat_le (length xs) (length (answers_by number (entries_told w.events)))) speaks.statements
      ∙ even speaks.past node.todo (length (answers_by number (entries_told w.events))) answers ∙ todo
    where
      of_session : (session : Session) → session_of script number ≡ Some session
          → is_done script w.events number ≡ nat_le (length session.statements) (length (answers_by number (entries_told w.events)))
      of_session session e = rw e refl

  -- how many of them it has answered
  pub answered_is : length v.node.answers ≡ length (answers_by number (entries_told w.events))
  answered_is =
      let k = has_session (IsRunning script w.settings w.events) script w s number slot was in
      let known = there_is (IsRunning script w.settings w.events k.session) w.events k.session.node slot.node v k.is_slot.node_is there in
      let run : IsRun script w.settings w.events = run_of script w (IsRunning script w.settings w.events) s in
      let node : Node = node_after w.settings script w.events k.session in
      let runs : has_vanished w.events number ≡ false = subst (λ i. has_vanished w.events i ≡ false) k.own known.0 in
      let speaks : SpeakIs script (entries_told w.events) k.session node =
      (spoken_at script w.settings w.events [] (subst (IsRun script w.settings) (sym (append-nil w.events)) run)).nodes number k.session k.is_session runs in
      ap length (ap (λ (n : Node). n.answers) known.1.stands.node_is ∙ answers_seen w.settings script.catalog node ∙ sym speaks.answers)
      ∙ ap (λ i. length (answers_by i (entries_told w.events))) (node_number script w.settings w.events run number k.session k.is_session runs)

-- ---- where nothing is answered

filter_append : {A B : Type 0} (f : A → Option B) (xs ys : List A) → ((y : Unit {0}) → filter_map f ys ≡ []) → filter_map f (xs ++ ys) ≡ filter_map f xs
filter_append f [] ys h = h tt
filter_append f (x ∷ xs) ys h = by (f x) refl (filter_append f xs ys h)
  where
    by : (o : Option _) → f x ≡ o → filter_map f (xs ++ ys) ≡ filter_map f xs → filter_map f (x ∷ (xs ++ ys)) ≡ filter_map f (x ∷ xs)
    by None e i = rw e i
    by (Some y) e i = rw e (ap (λ zs. y ∷ zs) i)

marked_silent : (tids : List ℕ) (number n : ℕ) (p : Reply) (m : Mark) → answers_by n (marked_in tids number p m) ≡ []
marked_silent tids number n p (mark.Began tid) = by p
  where
    by : (p : Reply) → answers_by n (began_in tids number tid p) ≡ []
    by (reply.Manager (manager.Began other snapshot floor)) = refl
    by p = refl
marked_silent tids number n p m = refl

-- the entry of a mark answers nothing
pub done_same : (script : Script) (past : List Event) (e : Event) (n number : ℕ) (tids : List ℕ) (p : Reply) (m : Mark) → e.entries ≡ marked_in tids number p m
    → is_done script (past ++ e ∷ []) n ≡ is_done script past n
done_same script past e n number tids p m h = by (session_of script n) refl
  where
    same : answers_by n (entries_told (past ++ e ∷ [])) ≡ answers_by n (entries_told past)
    same =
        ap (answers_by n) (entries_more past e ∙ ap (λ es. entries_told past ++ es) h)
        ∙ filter_append (answer_at n) (entries_told past) (marked_in tids number p m) (λ y. marked_silent tids number n p m)

    by : (o : Option Session) → session_of script n ≡ o → is_done script (past ++ e ∷ []) n ≡ is_done script past n
    by None f = rw f refl
    by (Some session) f = rw f (ap (λ xs. nat_le (length session.statements) (length xs)) same)

silent : (tids : List ℕ) (number : ℕ) (p : Reply) (m : Mark) → list_any is_answer (marked_in tids number p m) ≡ false
silent tids number p (mark.Began tid) = by p
  where
    by : (p : Reply) → list_any is_answer (began_in tids number tid p) ≡ false
    by (reply.Manager (manager.Began other snapshot floor)) = refl
    by p = refl
silent tids number p m = refl

-- and so the request gives no answer
pub none_given : (past : List Event) (e : Event) (n number : ℕ) (tids : List ℕ) (p : Reply) (m : Mark) → e.node ≡ n → is_post e.request ≡ false
    → e.entries ≡ marked_in tids number p m → gave_none n (past ++ e ∷ []) ≡ true
none_given past e n number tids p m own post h =
    rw (requests_grow past e n own post, latest_more (requests_of n past) e, h) (ap not (silent tids number p m))
