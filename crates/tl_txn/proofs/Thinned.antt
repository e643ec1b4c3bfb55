-- A node does the same with what code keeps of what it is doing as with all of it.
use Rattle.std.proofs.Common.{◌≡◌, Bool, List, ◌∷◌, Option, Some, None, refl, ap}
use Rattle.tl_base.specs.declared.place.Settings.{Settings}
use Rattle.tl_schema.specs.declared.catalog.Catalog.{Catalog}
use Rattle.tl_write.specs.declared.write.Write.{Write}
use Rattle.tl_isolation.specs.declared.bound.Bound.{Bound}
use Rattle.tl_isolation.specs.declared.entry.Answer.{Answer}
use Rattle.tl_isolation.specs.declared.state.Commit.{Commit as Committed}
use Rattle.tl_protocol.specs.Store.{CommitsCell, Key, LogCell}
use Rattle.tl_protocol.specs.World.{Decision, Loaded, Txn}
use Rattle.tl_journal.specs.Ask.{Heard, Commits, Stored, Moved}
use Rattle.tl_journal.specs.Asks.{asks_doing}
use Rattle.tl_journal.specs.Node.{Storing, Removing, Claimed, Lost, Doing, Outside, Noted, Drawing, Bringing, Inside, Reading, Trying, Stores, Removes, Closing, Ending, Recovering, ReadingLog, Stripping, Finishing, EndingLost, Stopped, Node}
use Rattle.tl_journal.specs.Says.{says_doing, says_finishing}
use Rattle.tl_journal.specs.Strange.{is_odd_for}
use Rattle.tl_journal.specs.Takes.{takes_doing, takes_finishing, takes_removing, takes_storing, takes_stripping}
use Rattle.tl_ask.specs.Thin.{nothing_finished, nothing_loaded, thin}
use Rattle.tl_txn.specs.Thinned.{DoesThin, thinned}

module _ (settings : Settings) (catalog : Catalog) (commits : List Committed) (node : Node) (statement : Bound) (heard : Heard) (told : Answer) where
  does_alike : (doing : Doing)
      → takes_doing settings catalog node statement doing heard told ≡ takes_doing settings catalog node statement (thin doing) heard told
      → says_doing settings catalog commits node statement doing heard told ≡ says_doing settings catalog commits node statement (thin doing) heard told
      → is_odd_for doing heard ≡ is_odd_for (thin doing) heard → DoesThin settings catalog commits node statement doing heard told
  does_alike doing takes says odd = record {
    takes_is = ap thinned takes;
    asks_is = λ next. ap (λ (after : Node). asks_doing settings catalog after next after.doing) takes;
    says_is = says;
    odd_is = odd;
  }

module _ (settings : Settings) (catalog : Catalog) (node : Node) (statement : Bound) (told : Answer) where
  storing_takes : (s : Storing) (l : Loaded) (left : List Write) (heard : Heard)
      → takes_storing node s (Some l) left heard ≡ takes_storing node s (Some nothing_loaded) left heard
  storing_takes s l (o ∷ left) (Stored stamp) = refl
  storing_takes s l left Moved = refl
  storing_takes s l left heard = refl

  removing_takes : (r : Removing) (l : Loaded) (left : List Write) (heard : Heard)
      → takes_removing node r (Some l) left heard ≡ takes_removing node r (Some nothing_loaded) left heard
  removing_takes r l (o ∷ left) (Stored stamp) = refl
  removing_takes r l left Moved = refl
  removing_takes r l left heard = refl

  stripping_takes : (c : Claimed) (o : Lost) (log : LogCell) (keys : List Key) (l : Loaded) (heard : Heard)
      → takes_stripping node c o log keys (Some l) heard ≡ takes_stripping node c o log keys (Some nothing_loaded) heard
  stripping_takes c o log (key ∷ keys) l (Stored stamp) = refl
  stripping_takes c o log keys l Moved = refl
  stripping_takes c o log keys l heard = refl

  finishing_takes : (c : Claimed) (o : Lost) (committed : Bool) (x : CommitsCell) (heard : Heard)
      → takes_finishing node c o committed (Some x) heard ≡ takes_finishing node c o committed (Some nothing_finished) heard
  finishing_takes c o committed x (Stored stamp) = refl
  finishing_takes c o committed x Moved = refl
  finishing_takes c o committed x heard = refl

finishing_says : (o : Lost) (committed : Bool) (x : CommitsCell) (heard : Heard) → says_finishing o committed (Some x) heard ≡ says_finishing o committed (Some nothing_finished) heard
finishing_says o committed x (Stored stamp) = refl
finishing_says o committed x heard = refl

module _ (settings : Settings) (catalog : Catalog) (commits : List Committed) (node : Node) (statement : Bound) where
  closing_does : (t : Txn) (d : Decision) (c : Option CommitsCell) (heard : Heard) (told : Answer) → DoesThin settings catalog commits node statement (Closing t d c) heard told
  closing_does t d None (Commits x) told = record { takes_is = refl; asks_is = λ next. refl; says_is = refl; odd_is = refl }
  closing_does t d (Some x) (Stored stamp) told = record { takes_is = refl; asks_is = λ next. refl; says_is = refl; odd_is = refl }
  closing_does t d (Some x) Moved told = record { takes_is = refl; asks_is = λ next. refl; says_is = refl; odd_is = refl }
  closing_does t d c heard told = record { takes_is = refl; asks_is = λ next. refl; says_is = refl; odd_is = refl }

  pub does_thin : (doing : Doing) (heard : Heard) (told : Answer) → DoesThin settings catalog commits node statement doing heard told
  does_thin Outside heard told = does_alike settings catalog commits node statement heard told Outside refl refl refl
  does_thin (Noted seen) heard told = does_alike settings catalog commits node statement heard told (Noted seen) refl refl refl
  does_thin (Drawing seen) heard told = does_alike settings catalog commits node statement heard told (Drawing seen) refl refl refl
  does_thin (Bringing seen low) heard told = does_alike settings catalog commits node statement heard told (Bringing seen low) refl refl refl
  does_thin (Inside t) heard told = does_alike settings catalog commits node statement heard told (Inside t) refl refl refl
  does_thin (Reading t reads) heard told = does_alike settings catalog commits node statement heard told (Reading t reads) refl refl refl
  does_thin (Trying t) heard told = does_alike settings catalog commits node statement heard told (Trying t) refl refl refl
  does_thin (Stores s None) heard told = does_alike settings catalog commits node statement heard told (Stores s None) refl refl refl
  does_thin (Stores s (Some l)) heard told =
      does_alike settings catalog commits node statement heard told (Stores s (Some l)) (storing_takes settings catalog node statement told s l s.left heard) refl refl
  does_thin (Removes r None) heard told = does_alike settings catalog commits node statement heard told (Removes r None) refl refl refl
  does_thin (Removes r (Some l)) heard told =
      does_alike settings catalog commits node statement heard told (Removes r (Some l)) (removing_takes settings catalog node statement told r l r.left heard) refl refl
  does_thin (Closing t d c) heard told = closing_does t d c heard told
  does_thin (Ending tid said) heard told = does_alike settings catalog commits node statement heard told (Ending tid said) refl refl refl
  does_thin (Recovering c) heard told = does_alike settings catalog commits node statement heard told (Recovering c) refl refl refl
  does_thin (ReadingLog c o) heard told = does_alike settings catalog commits node statement heard told (ReadingLog c o) refl refl refl
  does_thin (Stripping c o log keys None) heard told = does_alike settings catalog commits node statement heard told (Stripping c o log keys None) refl refl refl
  does_thin (Stripping c o log keys (Some l)) heard told =
      does_alike settings catalog commits node statement heard told (Stripping c o log keys (Some l)) (stripping_takes settings catalog node statement told c o log keys l heard) refl refl
  does_thin (Finishing c o committed None) heard told = does_alike settings catalog commits node statement heard told (Finishing c o committed None) refl refl refl
  does_thin (Finishing c o committed (Some x)) heard told =
      does_alike settings catalog commits node statement heard told (Finishing c o committed (Some x)) (finishing_takes settings catalog node statement told c o committed x heard)
      (finishing_says o committed x heard) refl
  does_thin (EndingLost c o) heard told = does_alike settings catalog commits node statement heard told (EndingLost c o) refl refl refl
  does_thin (Stopped nodes) heard told = does_alike settings catalog commits node statement heard told (Stopped nodes) refl refl refl
