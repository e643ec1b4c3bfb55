-- A node vanishes: its death notice names what it was to recover.
use Rattle.std.proofs.Common.{◌≡◌, ℕ, Bool, true, List, [], ◌∷◌, ◌++◌, Some, refl}
use Rattle.tl_base.specs.declared.place.Settings.{Settings}
use Rattle.tl_schema.specs.declared.catalog.Setup.{Setup}
use Rattle.tl_isolation.specs.declared.entry.Ending.{Ending}
use Rattle.tl_isolation.specs.declared.entry.Entry.{Entry}
use Rattle.tl_isolation.specs.declared.entry.Entry.TheVariants as entry
use Rattle.tl_isolation.specs.declared.state.SiState.{SiState}
use Rattle.tl_isolation.specs.History.{state_from}
use Rattle.tl_protocol.specs.Store.{put}
use Rattle.tl_protocol.specs.World.{Txn, Fact, World}
use Rattle.tl_protocol.specs.Move as move
use Rattle.tl_protocol.specs.Next.{next, owed}
use Rattle.tl_protocol.specs.Run.{Layout, Reach, Step}
use Rattle.tl_protocol.proofs.Frames.{put_other, put_same}
use Rattle.tl_journal.specs.Reads.{Reads}
use Rattle.tl_journal.specs.Node.{Node, owed_by}
use Rattle.tl_journal.specs.Served.{AreNodes, Parts, parts_of}
use Rattle.tl_journal.proofs.Meets.{Before, IsLaidOut}
use Rattle.tl_journal.proofs.Owed.{owed_is}

abbrev pub posted_parts : Parts → ℕ → (ℕ → Bool) → Parts
posted_parts p n nodes = record p { notices = put n (Some nodes) p.notices }

-- the protocol goes on where node n vanishes: its notice stands, and of the other nodes nothing has changed
pub record Vanishes (layout : Layout) (setup : Setup) (settings : Settings) (w : World) (state : SiState) (entries told : List Entry) (n : ℕ) (node : Node) : Type 0 where
  pub world : World
  pub reach : Reach layout setup world (state_from setup.catalog state told) (entries ++ told)
  pub nodes : ℕ → Bool
  pub are : AreNodes nodes (owed_by node.doing)
  pub owes : (d : ℕ) → nodes d ≡ owed (w.recoveries n) d
  pub parts : parts_of world ≡ posted_parts (parts_of w) n nodes
  pub others : (i : ℕ) → (world.phases i ≡ w.phases i) × (world.recoveries i ≡ w.recoveries i) × ((j : ℕ) → world.floors i j ≡ w.floors i j)
  pub vanished : world.gone n ≡ true
  pub gone : (i : ℕ) → (n ≡ i → ⊥) → world.gone i ≡ w.gone i
  pub laid_out : IsLaidOut settings world
  pub catalog : world.catalog ≡ setup.catalog

pub vanish_goes : (R : Txn → List Fact → Reads → Type 0) (layout : Layout) (setup : Setup) (settings : Settings) (w : World) (state : SiState)
    (entries : List Entry) (n : ℕ) (node : Node) (ending : Ending) → Before R layout setup settings w state entries n node
    → Vanishes layout setup settings w state entries (entry.Vanished n ending ∷ []) n node
vanish_goes R layout setup settings w state entries n node ending b = record {
  world = next w (move.Vanish n ending b.runs);
  reach = Step b.reach (move.Vanish n ending b.runs);
  nodes = owed (w.recoveries n);
  are = owed_is node.doing (w.recoveries n) b.node_is.recovery;
  owes = λ d. refl;
  parts = refl;
  others = λ i. (refl, refl, λ j. refl);
  vanished = put_same n true w.gone;
  gone = λ i ne. put_other n i true w.gone ne;
  laid_out = record { some = b.laid_out.some; home = b.laid_out.home; top = b.laid_out.top };
  catalog = b.catalog;
}
