-- How the slots of a run open.
use Rattle.std.specs.Prelude.{◌≡◌, List, [], ◌∷◌, Some}
use Rattle.tl_base.specs.declared.place.Settings.{Settings}
use Rattle.tl_schema.specs.declared.catalog.Catalog.{Catalog}
use Rattle.tl_isolation.specs.declared.script.Script.{Script}
use Rattle.tl_isolation.specs.declared.script.Session.{Session}
use Rattle.tl_journal.specs.Node.{opening_node}
use Rattle.tl_journal.specs.Schedule.{vanish_of}
use Rattle.tl_node.specs.View.{NodeValue, StandsFor}
use Rattle.tl_world.specs.Stands.{SlotValue}

-- the node of the slot has its whole session before it, and has asked nothing
pub record IsOpened (script : Script) (settings : Settings) (catalog : Catalog) (session : Session) (slot : SlotValue) : Type 0 where
  pub number_is : slot.number ≡ session.node
  pub node : NodeValue
  pub node_is : slot.node ≡ Some node
  pub stands : StandsFor settings catalog (opening_node settings session) node
  pub statements : node.session ≡ session.statements
  pub made_is : slot.made ≡ 0
  pub counted_is : slot.counted ≡ 0
  pub vanish_is : slot.vanish ≡ vanish_of script session.node

-- each session has its slot
abbrev pub AreOpened : Script → Settings → Catalog → List Session → List SlotValue → Type 0
AreOpened script settings catalog [] [] = Unit {0}
AreOpened script settings catalog (session ∷ sessions) (slot ∷ slots) =
    IsOpened script settings catalog session slot × AreOpened script settings catalog sessions slots
AreOpened script settings catalog sessions slots = ⊥
