-- The first request of a statement in a transaction.
use Rattle.std.specs.Prelude.{◌≡◌, Bool, ◌||◌, List, Some, nat_le}
use Rattle.tl_base.specs.declared.place.Settings.{Settings}
use Rattle.tl_isolation.specs.declared.bound.Bound.{Bound}
use Rattle.tl_write.specs.declared.write.Write.{Write}
use Rattle.tl_protocol.specs.Move.{is_empty}
use Rattle.tl_protocol.specs.World.{Txn}
use Rattle.tl_journal.specs.Asks.{Course, asks_inside, course_in}
use Rattle.tl_journal.specs.Node.{Inside}
use Rattle.tl_ask.specs.Asked.{asked}
use Rattle.tl_ask.specs.Thin.{thin}
use Rattle.tl_txn.specs.Doing.{txn_in}
use Rattle.tl_txn.specs.declared.phase.Open.{Open}
use Rattle.tl_txn.specs.declared.phase.Phase.{Phase}
use Rattle.tl_txn.specs.declared.phase.Phase.TheVariants as phase
use Rattle.tl_node.specs.Fits.{FitsWork}
use Rattle.tl_node.specs.Seen.{settled_by}
use Rattle.tl_node.specs.View.{node_so, stage_of, work_asks, work_so}
use Rattle.tl_node.specs.declared.kept.Core.{Core}
use Rattle.tl_node.specs.declared.work.Stage.{Stage}
use Rattle.tl_node.specs.declared.work.Work.{Work}

-- by this work a node goes on whose present statement comes to this in its transaction
pub record IsLed (core : Core) (statement : Bound) (t : Txn) (to : Course) (w : Work) : Type 0 where
  pub doing_is : work_so statement w ≡ thin (settled_by core.layout t to)
  pub ask_is : work_asks w ≡ Some (asked core.layout (asks_inside core.layout (node_so core (Inside t)) t to))
  pub fits : FitsWork core statement w

abbrev pub Led : Core → Bound → Stage → Open → Work → Type 0
Led core statement said live w = IsLed core statement (txn_in (stage_of said) live) (course_in core.catalog (stage_of said) statement) w

-- a transaction that is ready goes on so with this statement, whatever is answered meanwhile
abbrev pub Leads : Core → Bound → Phase → Stage → Work → Type 0
Leads core statement so_far said w =
    (live : Open) (after : Core) → so_far ≡ phase.Ready live → after ≡ record core { answers = after.answers } → Led after statement said live w

-- a commit asks no other manager first
abbrev pub is_at_once : Settings → List Write → Bool
is_at_once settings own = is_empty own || nat_le settings.managers 1
