-- What no journal has: a notice that is owed and doesn't follow, and an ending that wasn't due.
use Rattle.std.proofs.Common.{◌≡◌, ◌⊎◌, inl, inr, suc, ◌<◌, ◌≤◌, ℕ, Bool, true, false, List, [], ◌∷◌, ◌++◌, Some, None, length, nat_lt, nat_le, refl, sym, ap, ◌∙◌, arith}
use Rattle.std.specs.Prelude.{◌==◌, ◌&&◌, ◌||◌, filter, not, if◌then◌else◌}
use Rattle.std.proofs.lemmas.Bool.Decides.{nat_tests}
use Rattle.std.proofs.lemmas.Bool.{and_parts, both_ways, eq-eqb}
use Rattle.tl_lemmas.proofs.Tests.{and_not}
use Rattle.tl_base.specs.declared.place.Settings.{Settings}
use Rattle.tl_isolation.specs.declared.entry.Ending.TheVariants as ending
use Rattle.tl_isolation.specs.declared.script.Script.{Script}
use Rattle.tl_journal.specs.declared.event.Event.{Event}
use Rattle.tl_journal.specs.Bytes.{heard}
use Rattle.tl_journal.specs.Journal.{IsCut, answer_said, has_vanished, is_post, node_after}
use Rattle.tl_journal.specs.Law.{IsRun}
use Rattle.tl_journal.specs.Memory.{cut_short}
use Rattle.tl_journal.specs.Node.{Node}
use Rattle.tl_journal.specs.Outcome.{HasRun}
use Rattle.tl_journal.specs.Schedule.{EndsSo, InTurn, gave_none, is_done, is_due, owes_notice, owing, requests_of, was_cut}
use Rattle.tl_journal.specs.Strange.{is_stopped}
use Rattle.tl_journal.proofs.Elsewhere.{after_cut}
use Rattle.tl_journal.proofs.InOrder.{latest_more}
use Rattle.tl_journal.proofs.Journals.{stood_at}
use Rattle.tl_journal.proofs.Logs.{node_more}
use Rattle.tl_journal.proofs.Opens.{layout_of}
use Rattle.tl_journal.proofs.Requests.{request_no_post}
use Rattle.tl_journal.proofs.Stood.{Stood, vanished_same}

all_three : (asked gone due cut spent : Bool) → asked ≡ true → gone ≡ false → cut ≡ true → ((asked && not gone) && (due || (cut || spent))) ≡ true
all_three true false true true spent a g c = refl
all_three true false false true spent a g c = refl
all_three false gone due cut spent a g c = absurd cc
all_three true true due cut spent a g c = absurd cc
all_three true false due false spent a g c = absurd cc

first_of : (asked gone due more : Bool) → asked ≡ true → due ≡ true → ((asked && not gone) && (due || more)) ≡ false → gone ≡ true
first_of true true true more a d h = refl
first_of true false true more a d h = absurd cc
first_of false gone due more a d h = absurd cc
first_of true gone false more a d h = absurd cc

-- a node that has asked and whose count is reached has vanished at the end of a run, also where it has answered its last statement
pub due_vanishes : (script : Script) (settings : Settings) (events : List Event) → HasRun script settings events → (n : ℕ)
    → nat_lt 0 (length (requests_of n events)) ≡ true → is_due script events n ≡ true → has_vanished events n ≡ true
due_vanishes script settings events run n asked due = first_of _ _ _ _ asked due (run.settled n)

-- a node that was cut doesn't end as spent
pub cut_unspent : (script : Script) (settings : Settings) (past : List Event) (n : ℕ) → was_cut script settings past n ≡ true → EndsSo script settings past n ending.Spent → ⊥
cut_unspent script settings past n cut ends =
    let rest = (and_parts (nat_le settings.budget (length (requests_of n past))) _ ends.1).1 in
    let whole = (and_parts (not (is_done script past n)) (not (was_cut script settings past n)) rest).1 in
    refused (was_cut script settings past n) cut whole
  where
    refused : (b : Bool) → b ≡ true → not b ≡ true → ⊥
    refused b e f = cc

-- nor does one whose budget is used up behind an answer end as out of memory
pub answered_unwanting : (script : Script) (settings : Settings) (past : List Event) (n : ℕ) → gave_none n past ≡ false → settings.budget ≤ length (requests_of n past)
    → EndsSo script settings past n ending.OutOfMemory → ⊥
answered_unwanting script settings past n answered used ends = by ends.2
  where
    by : (gave_none n past ≡ true) ⊎ (length (requests_of n past) < settings.budget) → ⊥
    by (inl h) = both_ways (gave_none n past) answered h
    by (inr h) = omega (arith, used, h)

has_one : {A : Type 0} (p : A → Bool) (xs : List A) (x : A) → p x ≡ true → nat_lt 0 (length (filter p (xs ++ x ∷ []))) ≡ true
has_one p [] x e = rw e refl
has_one p (y ∷ ys) x e = by (p y) (has_one p ys x e)
  where
    longer : (n : ℕ) → nat_lt 0 (suc n) ≡ true
    longer n = grind (arith, nat_tests)

    by : (b : Bool) → nat_lt 0 (length (filter p (ys ++ x ∷ []))) ≡ true
        → nat_lt 0 (length (if b then y ∷ filter p (ys ++ x ∷ []) else filter p (ys ++ x ∷ []))) ≡ true
    by true h = longer (length (filter p (ys ++ x ∷ [])))
    by false h = h

module _ (script : Script) (settings : Settings) (past : List Event) (e : Event) (rest : List Event) (run : IsRun script settings (past ++ e ∷ rest)) (cut : IsCut script settings past e) where
  no_post : is_post e.request ≡ false
  no_post = request_no_post script settings past e cut.session cut.ask cut.bytes cut.asked

  -- the node that wanted memory is cut
  pub is_cut_off : was_cut script settings (past ++ e ∷ []) e.node ≡ true
  is_cut_off = by_session (ap (λ (n : Node). is_stopped n.doing) led)
    where
      s : Stood (layout_of script settings) script settings past
      s = stood_at script settings past (e ∷ rest) run

      number : (node_after settings script past cut.session).number ≡ e.node
      number = (s.nodes e.node cut.session cut.is_session cut.runs).is_so.number

      led : node_after settings script (past ++ e ∷ []) cut.session
          ≡ cut_short settings script.catalog (node_after settings script past cut.session) (heard cut.ask e.reply) (answer_said e.entries)
      led =
          node_more settings script past e cut.session
          ∙ after_cut settings script e (node_after settings script past cut.session) cut.ask (sym number) no_post cut.asked cut.cut

      by_session : is_stopped (node_after settings script (past ++ e ∷ []) cut.session).doing ≡ true → was_cut script settings (past ++ e ∷ []) e.node ≡ true
      by_session h = rw cut.is_session h

  owes : owes_notice script settings (past ++ e ∷ []) e.node ≡ true
  owes =
      all_three _ _ _ _ _ (has_one (λ (x : Event). (x.node == e.node) && not (is_post x.request)) past e (and_not (e.node == e.node) (is_post e.request) (eq-eqb e.node e.node refl) no_post))
      (vanished_same past e e.node no_post ∙ cut.runs) is_cut_off

  -- so directly behind it stands its notice, and nothing of another node
  pub cut_then_post : (f : Event) → InTurn script settings (past ++ e ∷ []) f → (f.node ≡ e.node) × (is_post f.request ≡ true)
  cut_then_post f h = rw owing_is at h
    where
      owing_is : owing script settings (past ++ e ∷ []) ≡ Some e.node
      owing_is = rw (latest_more past e) (ap (λ (b : Bool). if b then Some e.node else None) owes)
