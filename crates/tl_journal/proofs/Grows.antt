-- What is answered, over or finished stays so where events are added.
use Rattle.std.proofs.Common.{◌≡◌, ◌∙◌, ℕ, ◌+◌, Bool, true, false, List, ◌++◌, length, nat_le, Option, Some, None, ap, refl, arith}
use Rattle.std.specs.Prelude.{◌==◌, ◌||◌}
use Rattle.std.specs.List.{filter_map}
use Rattle.std.proofs.lemmas.Bool.Decides.{nat_tests}
use Rattle.std.proofs.lemmas.List.{length-append}
use Rattle.std.proofs.lemmas.List.Concat.{flat_map-append}
use Rattle.std.proofs.lemmas.List.Elements.{filter_map-append}
use Rattle.std.proofs.lemmas.List.Folds.{list_any-append}
use Rattle.std.proofs.lemmas.Bool.{or_left, or_right}
use Rattle.tl_isolation.specs.declared.entry.Entry.{Entry}
use Rattle.tl_isolation.specs.declared.script.Script.{Script}
use Rattle.tl_isolation.specs.declared.script.Session.{Session}
use Rattle.tl_isolation.specs.declared.script.TurnItem.{TurnItem}
use Rattle.tl_isolation.specs.declared.script.TurnItem.TheVariants.{One, Until}
use Rattle.tl_isolation.specs.Script.{answer_at, answers_by}
use Rattle.tl_journal.specs.declared.event.Event.{Event}
use Rattle.tl_journal.specs.Journal.{entries_told, has_vanished, posts, session_of}
use Rattle.tl_journal.specs.Schedule.{is_done, is_finished, is_over}

larger : (n a b c : ℕ) → c ≡ a + b → nat_le n a ≡ true → nat_le n c ≡ true
larger n a b c e h = grind (arith, nat_tests)

-- either side of a test stays true
either : (a b c d : Bool) → (a ≡ true → c ≡ true) → (b ≡ true → d ≡ true) → (a || b) ≡ true → (c || d) ≡ true
either true b c d f g e = or_left c d (f refl)
either false b c d f g e = or_right c d (g e)

module _ (script : Script) (past more : List Event) where
  answers_grow : (node : ℕ)
      → answers_by node (entries_told (past ++ more)) ≡ answers_by node (entries_told past) ++ answers_by node (entries_told more)
  answers_grow node =
      ap (λ (es : List Entry). filter_map (answer_at node) es) (flat_map-append (λ (e : Event). e.entries) past more)
      ∙ filter_map-append (answer_at node) (entries_told past) (entries_told more)

  reached : (node n : ℕ) → nat_le n (length (answers_by node (entries_told past))) ≡ true → nat_le n (length (answers_by node (entries_told (past ++ more)))) ≡ true
  reached node n h =
      larger n (length (answers_by node (entries_told past))) (length (answers_by node (entries_told more))) (length (answers_by node (entries_told (past ++ more))))
      (ap length (answers_grow node) ∙ length-append (answers_by node (entries_told past)) (answers_by node (entries_told more))) h

  pub done_stays : (node : ℕ) → is_done script past node ≡ true → is_done script (past ++ more) node ≡ true
  done_stays node h = by (session_of script node) refl
    where
      by : (o : Option Session) → session_of script node ≡ o → is_done script (past ++ more) node ≡ true
      by None e = rw e refl
      by (Some session) e = rw e (reached node (length session.statements) (rw e at h))

  pub vanished_stays : (node : ℕ) → has_vanished past node ≡ true → has_vanished (past ++ more) node ≡ true
  vanished_stays node h = list_any-append (posts node) past more ∙ or_left (has_vanished past node) (has_vanished more node) h

  pub over_stays : (node : ℕ) → is_over script past node ≡ true → is_over script (past ++ more) node ≡ true
  over_stays node h =
      either (is_done script past node) (has_vanished past node) (is_done script (past ++ more) node) (has_vanished (past ++ more) node)
      (done_stays node) (vanished_stays node) h

  pub finished_stays : (item : TurnItem) → is_finished script past item ≡ true → is_finished script (past ++ more) item ≡ true
  finished_stays (One node times) h =
      either (times == 0) (is_over script past node) (times == 0) (is_over script (past ++ more) node) (λ e. e) (over_stays node) h
  finished_stays (Until node statement) h =
      either (nat_le statement (length (answers_by node (entries_told past)))) (is_over script past node)
      (nat_le statement (length (answers_by node (entries_told (past ++ more))))) (is_over script (past ++ more) node) (reached node statement) (over_stays node) h
