-- A node that has answered nothing.
use Rattle.std.specs.Prelude.{◌≡◌, [], replicate}
use Rattle.tl_base.specs.declared.place.Settings.{Settings}
use Rattle.tl_schema.specs.declared.catalog.Catalog.{Catalog}
use Rattle.tl_manager.specs.State.{opening_copy}
use Rattle.tl_isolation.specs.declared.script.Session.{Session}
use Rattle.tl_node.specs.declared.kept.Core.{Core}

-- all statements of the session are left to it
pub record IsNew (core : Core) (settings : Settings) (catalog : Catalog) (session : Session) : Type 0 where
  pub layout : core.layout ≡ settings
  pub catalog_is : core.catalog ≡ catalog
  pub number : core.number ≡ session.node
  pub statements : core.statements ≡ session.statements
  pub answers : core.answers.items ≡ []
  pub floors : core.floors ≡ replicate settings.managers opening_copy
  pub asked_others : core.asked_others ≡ 0
