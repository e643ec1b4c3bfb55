-- A node does the same with what code keeps of what it is doing as with all of it.
use Rattle.std.specs.Prelude.{◌≡◌, List}
use Rattle.tl_base.specs.declared.place.Settings.{Settings}
use Rattle.tl_schema.specs.declared.catalog.Catalog.{Catalog}
use Rattle.tl_isolation.specs.declared.bound.Bound.{Bound}
use Rattle.tl_isolation.specs.declared.entry.Answer.{Answer}
use Rattle.tl_isolation.specs.declared.state.Commit.{Commit as Committed}
use Rattle.tl_journal.specs.Ask.{Heard}
use Rattle.tl_journal.specs.Asks.{asks_doing}
use Rattle.tl_journal.specs.Node.{Doing, Node}
use Rattle.tl_journal.specs.Says.{says_doing}
use Rattle.tl_journal.specs.Strange.{is_odd_for}
use Rattle.tl_journal.specs.Takes.{takes_doing, with_doing}
use Rattle.tl_ask.specs.Thin.{thin}

abbrev pub thinned : Node → Node
thinned node = with_doing node (thin node.doing)

-- it comes to the same, asks the same next, and tells the same
pub record DoesThin (settings : Settings) (catalog : Catalog) (commits : List Committed) (node : Node) (statement : Bound) (doing : Doing) (heard : Heard) (told : Answer) : Type 0 where
  pub takes_is : thinned (takes_doing settings catalog node statement doing heard told) ≡ thinned (takes_doing settings catalog node statement (thin doing) heard told)
  pub asks_is : (next : Bound)
      → asks_doing settings catalog (takes_doing settings catalog node statement doing heard told) next (takes_doing settings catalog node statement doing heard told).doing
      ≡ asks_doing settings catalog (takes_doing settings catalog node statement (thin doing) heard told) next (takes_doing settings catalog node statement (thin doing) heard told).doing
  pub says_is : says_doing settings catalog commits node statement doing heard told ≡ says_doing settings catalog commits node statement (thin doing) heard told
  pub odd_is : is_odd_for doing heard ≡ is_odd_for (thin doing) heard

abbrev pub DoThin : Type 0
DoThin = (settings : Settings) (catalog : Catalog) (commits : List Committed) (node : Node) (statement : Bound) (doing : Doing) (heard : Heard) (told : Answer)
    → DoesThin settings catalog commits node statement doing heard told
