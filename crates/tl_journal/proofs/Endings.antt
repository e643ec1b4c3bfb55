-- How a node ends that answers not all of its statements.
use Rattle.std.proofs.Common.{◌≡◌, ◌==◌, ◌∙◌, ◌+◌, ◌⊎◌, ℕ, Bool, true, false, List, [], ◌∷◌, ◌++◌, Some, None, length, nat_le, ap, refl, sym, subst, inl, inr, ⊎_elim, length-append, append-nil, arith}
use Rattle.std.proofs.lemmas.Bool.{and_parts, both_ways, eqb-true, or_cases}
use Rattle.std.proofs.lemmas.Bool.Decides.{nat_tests}
use Rattle.std.proofs.lemmas.List.Elements.{Contains-append_left, Contains-append_right}
use Rattle.std.specs.List.{Contains}
use Rattle.tl_base.specs.Along.{Along}
use Rattle.tl_base.specs.declared.place.Settings.{Settings}
use Rattle.tl_isolation.specs.declared.entry.Ending.{Ending}
use Rattle.tl_isolation.specs.declared.entry.Ending.TheVariants as ending
use Rattle.tl_isolation.specs.declared.entry.Entry.{Entry}
use Rattle.tl_isolation.specs.declared.entry.Entry.TheVariants as entry
use Rattle.tl_isolation.specs.declared.script.Script.{Script}
use Rattle.tl_isolation.specs.declared.script.Session.{Session}
use Rattle.tl_isolation.specs.Script.{answers_by}
use Rattle.tl_journal.specs.declared.event.Event.{Event}
use Rattle.tl_journal.specs.Journal.{entries_told, has_vanished, is_post, node_after, posts, session_of}
use Rattle.tl_journal.specs.Law.{IsRun}
use Rattle.tl_journal.specs.Node.{Node}
use Rattle.tl_journal.specs.Run.{EndsAt}
use Rattle.tl_journal.specs.Schedule.{EndsSo, is_done, is_due, is_over, vanish_of}
use Rattle.tl_journal.proofs.Journals.{spoken_at, stood_at}
use Rattle.tl_journal.proofs.Speaking.{SpeakIs}
use Rattle.tl_journal.specs.Promises.{AnswersAll, Ended}

-- a node without @vanish is never due
never_due : (script : Script) (past : List Event) (node : ℕ) → vanish_of script node ≡ None → is_due script past node ≡ false
never_due script past node none = rw none refl

unless_due : (script : Script) (settings : Settings) (past : List Event) (node : ℕ) (e : Ending) → is_due script past node ≡ false
    → EndsSo script settings past node e → (e ≡ ending.Spent) ⊎ (e ≡ ending.OutOfMemory)
unless_due script settings past node ending.Vanished un so = absurd (both_ways (is_due script past node) un so)
unless_due script settings past node ending.Spent un so = inl refl
unless_due script settings past node ending.OutOfMemory un so = inr refl

-- the ending is among these entries
abbrev Tells : ℕ → List Entry → Type 0
Tells node entries = Contains entries (entry.Vanished node ending.Spent) ⊎ Contains entries (entry.Vanished node ending.OutOfMemory)

only : (x : Entry) → Contains (x ∷ []) x
only x = (0, omega arith, refl)

told : (node : ℕ) (e : Ending) → (e ≡ ending.Spent) ⊎ (e ≡ ending.OutOfMemory) → Tells node (entry.Vanished node e ∷ [])
told node e (inl is) = inl (subst (λ (k : Ending). Contains (entry.Vanished node k ∷ []) (entry.Vanished node ending.Spent)) (sym is) (only (entry.Vanished node ending.Spent)))
told node e (inr is) = inr (subst (λ (k : Ending). Contains (entry.Vanished node k ∷ []) (entry.Vanished node ending.OutOfMemory)) (sym is) (only (entry.Vanished node ending.OutOfMemory)))

left : (node : ℕ) (xs ys : List Entry) → Tells node xs → Tells node (xs ++ ys)
left node xs ys (inl c) = inl (Contains-append_left xs ys (entry.Vanished node ending.Spent) c)
left node xs ys (inr c) = inr (Contains-append_left xs ys (entry.Vanished node ending.OutOfMemory) c)

right : (node : ℕ) (xs ys : List Entry) → Tells node ys → Tells node (xs ++ ys)
right node xs ys (inl c) = inl (Contains-append_right xs ys (entry.Vanished node ending.Spent) c)
right node xs ys (inr c) = inr (Contains-append_right xs ys (entry.Vanished node ending.OutOfMemory) c)

-- a death notice tells how its node ended
posted : (script : Script) (settings : Settings) (past : List Event) (e : Event) (node : ℕ) → vanish_of script node ≡ None → posts node e ≡ true
    → EndsAt script settings past e → Tells node e.entries
posted script settings past e node none p (inr request) = absurd (both_ways (is_post e.request) request.0 (and_parts (e.node == node) (is_post e.request) p).1)
posted script settings past e node none p (inl notice) =
    let own : e.node ≡ node = eqb-true e.node node (and_parts (e.node == node) (is_post e.request) p).0 in
    let so : EndsSo script settings past node notice.1.0 = subst (λ (k : ℕ). EndsSo script settings past k notice.1.0) own notice.1.2 in
    subst (λ (es : List Entry). Tells node es) (sym (notice.1.1 ∙ ap (λ (k : ℕ). entry.Vanished k notice.1.0 ∷ []) own))
    (told node notice.1.0 (unless_due script settings past node notice.1.0 (never_due script past node none) so))

found : (script : Script) (settings : Settings) (past events : List Event) (node : ℕ) → vanish_of script node ≡ None → has_vanished events node ≡ true
    → Along (EndsAt script settings) past events → Tells node (entries_told events)
found script settings past [] node none gone along = absurd (both_ways false refl gone)
found script settings past (e ∷ events) node none gone along =
    ⊎_elim
    (λ (here : posts node e ≡ true). left node e.entries (entries_told events) (posted script settings past e node none here along.0))
    (λ (there : has_vanished events node ≡ true).
    right node e.entries (entries_told events) (found script settings (past ++ e ∷ []) events node none there along.1))
    (or_cases (posts node e) (has_vanished events node) gone)

-- no more statements than answers, of which there are as many as statements before those that are left
all : (x y z : ℕ) → nat_le (x + y) z ≡ true → z ≡ x → z ≡ x + y
all x y z le e = grind (arith, nat_tests)

-- a running node that has nothing more to do has answered all its statements
answered : (script : Script) (settings : Settings) (events : List Event) → IsRun script settings (events ++ []) → (n : ℕ) (session : Session)
    → session_of script n ≡ Some session → has_vanished events n ≡ false → is_over script events n ≡ true
    → length (answers_by n (entries_told events)) ≡ length session.statements
answered script settings events run n session h g over =
    let node : Node = node_after settings script events session in
    let speaks : SpeakIs script (entries_told events) session node = (spoken_at script settings events [] run).nodes n session h g in
    let own : node.number ≡ n = ((stood_at script settings events [] run).nodes n session h g).is_so.number in
    let done : is_done script events n ≡ true =
    ⊎_elim (λ d. d) (λ v. absurd (both_ways (has_vanished events n) g v)) (or_cases (is_done script events n) (has_vanished events n) over) in
    let many : length session.statements ≡ length speaks.past + length node.todo = ap length speaks.statements ∙ length-append speaks.past node.todo in
    let answers : length (answers_by n (entries_told events)) ≡ length speaks.past =
    ap (λ (k : ℕ). length (answers_by k (entries_told events))) (sym own) ∙ ap length speaks.answers ∙ sym speaks.count in
    let is : is_done script events n ≡ nat_le (length session.statements) (length (answers_by n (entries_told events))) = rw h refl in
    let le : nat_le (length speaks.past + length node.todo) (length (answers_by n (entries_told events))) ≡ true =
    ap (λ (k : ℕ). nat_le k (length (answers_by n (entries_told events)))) (sym many) ∙ sym is ∙ done in
    all (length speaks.past) (length node.todo) (length (answers_by n (entries_told events))) le answers ∙ sym many

pub answers_all : AnswersAll
answers_all script settings events run has node session h none = by (has_vanished events node) refl
  where
    by : (b : Bool) → has_vanished events node ≡ b
        → (length (answers_by node (entries_told events)) ≡ length session.statements) ⊎ (Ended node ending.Spent events ⊎ Ended node ending.OutOfMemory events)
    by true gone = inr (found script settings [] events node none gone has.journal.ends)
    by false runs =
        inl (answered script settings events (subst (λ (es : List Event). IsRun script settings es) (sym (append-nil events)) run) node session h runs (has.over node))
