use Rattle.std.proofs.Common.{◌≡◌, ℕ, List, [], ◌++◌, refl, subst}
use Rattle.tl_base.specs.declared.place.Settings.{Settings}
use Rattle.tl_schema.specs.declared.catalog.Table.{Table}
use Rattle.tl_write.specs.Tables.{Tables}
use Rattle.tl_isolation.specs.declared.script.Script.{Script}
use Rattle.tl_isolation.specs.declared.script.Session.{Session}
use Rattle.tl_isolation.specs.History.{state_after}
use Rattle.tl_isolation.specs.Script.{setup_of}
use Rattle.tl_isolation.specs.State.{tables_after}
use Rattle.tl_journal.specs.declared.event.Event.{Event}
use Rattle.tl_journal.specs.declared.event.Journal.{Journal}
use Rattle.tl_journal.specs.Journal.{entries_told}
use Rattle.tl_journal.specs.Law.{IsRun}
use Rattle.tl_render.specs.Printed.{printed, sessions_text, tables_text}
use Rattle.tl_render.proofs.run.render.Goals as goal

abbrev FinalRows : Script → List Event → Tables → Type 0
FinalRows script events rows =
    (settings : Settings) → IsRun script settings events → rows ≡ tables_after (state_after (setup_of script settings) (entries_told events)).commits

-- the text of the sessions and the text of the tables are all of it
whole : (script : Script) (journal : Journal) (events : List Event) (sessions : List Session) (catalog : List Table) (empty front text : List ℕ) (rows : Tables)
    → events ≡ journal.events → sessions ≡ script.sessions → catalog ≡ script.catalog.tables → empty ≡ []
    → front ≡ empty ++ sessions_text sessions (entries_told events) → FinalRows script events rows → text ≡ front ++ tables_text catalog rows
    → (settings : Settings) → IsRun script settings journal.events → text ≡ printed script settings (entries_told journal.events)
whole script journal events sessions catalog empty front text rows e s t none is_front are is_text settings run =
    let final : rows ≡ tables_after (state_after (setup_of script settings) (entries_told journal.events)).commits =
    (subst (λ (es : List Event). FinalRows script es rows) e are) settings run in
    rw (is_text, is_front, none, s, t, e, final) refl

pub returns : goal.returns
returns c =
    whole c.args.script.now c.args.journal.now _ _ _ _ _ _ _ c.as_slice-events.ensures c.as_slice.ensures c.as_slice-2.ensures c.new-text.ensures
    c.in_ok-push_sessions.ensures c.in_ok-rows.ensures c.in_ok-push_tables.ensures
