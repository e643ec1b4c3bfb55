-- The rows that a running transaction has written stand under their own record keys.
use Rattle.std.proofs.Common.{◌≡◌, ℕ, ◌≤◌, List, [], Some, ap, ◌∙◌, subst}
use Rattle.tl_lemmas.proofs.Lists.{weaker}
use Rattle.tl_base.specs.declared.place.Settings.{Settings}
use Rattle.tl_values.specs.declared.value.Value.{Value}
use Rattle.tl_schema.specs.declared.catalog.Catalog.{Catalog}
use Rattle.tl_schema.specs.declared.catalog.Setup.{Setup}
use Rattle.tl_schema.specs.Record.{record_key}
use Rattle.tl_write.specs.declared.write.Write.{Write}
use Rattle.tl_isolation.specs.declared.entry.Entry.{Entry}
use Rattle.tl_isolation.specs.declared.state.SiState.{SiState}
use Rattle.tl_isolation.specs.History.{state_after}
use Rattle.tl_isolation.specs.Script.{setup_of}
use Rattle.tl_isolation.specs.Tables.{IsHome, table_of}
use Rattle.tl_protocol.specs.World.{Txn, Fact, World}
use Rattle.tl_protocol.specs.Run.{Layout}
use Rattle.tl_protocol.proofs.Shown.{AreHomeWrites}
use Rattle.tl_journal.specs.Journal.{entries_told, node_after}
use Rattle.tl_journal.specs.Law.{OwnRowsStandUnderKeys, StandsUnderKey, own_in}
use Rattle.tl_journal.specs.Node.{Doing, Inside, Reading, Node}
use Rattle.tl_journal.specs.Reads.{Reads}
use Rattle.tl_journal.proofs.Journals.{stood_at}
use Rattle.tl_journal.proofs.Meets.{Before, PhaseIs}
use Rattle.tl_journal.proofs.Opens.{layout_of}
use Rattle.tl_journal.proofs.Posted.{before_stood}
use Rattle.tl_journal.proofs.Present.{ReadsFor}
use Rattle.tl_journal.proofs.Seen.{home_number}
use Rattle.tl_journal.proofs.Statements.{live_home}
use Rattle.tl_journal.proofs.Stood.{Stood}

-- a row that is at home in one table is a record of no other
home_keyed : (catalog : Catalog) (w : Write) → ((row : List Value) → w.row ≡ Some row → IsHome catalog w.key row) → StandsUnderKey catalog w
home_keyed catalog w h number row in_it e =
    let home : IsHome catalog w.key row = h row e in
    home.own_key ∙ ap (λ (m : ℕ). record_key m (table_of catalog m) row) (home_number catalog number w.key row home in_it)

module _ (R : Txn → List Fact → Reads → Type 0) (layout : Layout) (setup : Setup) (settings : Settings) (w : World) (state : SiState) (entries : List Entry)
    (n : ℕ) (node : Node) (b : Before R layout setup settings w state entries n node) where
  own_home : (doing : Doing) → PhaseIs R doing (w.phases n) → AreHomeWrites setup.catalog (own_in doing)
  own_home (Inside t) p = live_home R layout setup settings w state entries n node b t [] p.0
  own_home (Reading t reads) p = live_home R layout setup settings w state entries n node b t p.0 p.1
  own_home doing p = tt

pub own_keyed : OwnRowsStandUnderKeys
own_keyed script settings past rest run n session is_session runs =
    let node : Node = node_after settings script past session in
    let s : Stood (layout_of script settings) script settings past = stood_at script settings past rest run in
    let stands = s.nodes n session is_session runs in
    let least : 1 ≤ n = subst (λ (i : ℕ). 1 ≤ i) stands.is_so.number stands.fits.least in
    let b = before_stood (layout_of script settings) script settings past s run.bound.opening n session is_session runs least in
    weaker
    (λ (w : Write). (row : List Value) → w.row ≡ Some row → IsHome script.catalog w.key row) (StandsUnderKey script.catalog) (home_keyed script.catalog) (own_in node.doing)
    (own_home (ReadsFor settings script.catalog node.todo) (layout_of script settings) (setup_of script settings) settings s.world
    (state_after (setup_of script settings) (entries_told past)) (entries_told past) n node b node.doing stands.is_so.phase)
