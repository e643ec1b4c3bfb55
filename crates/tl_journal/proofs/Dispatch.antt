-- Whatever a node is doing, its next request is one or two moves of the protocol, or leaves it as it is.
use Rattle.std.proofs.Common.{◌≡◌, ℕ, ◌≤◌, Bool, true, false, List, [], ◌∷◌, Option, Some, refl, sym, ap, ◌∙◌, subst}
use Rattle.tl_base.specs.declared.node.NodeSet.{NodeSet}
use Rattle.tl_base.specs.declared.place.Settings.{Settings}
use Rattle.tl_schema.specs.declared.catalog.Setup.{Setup}
use Rattle.tl_isolation.specs.declared.bound.Bound.{Bound}
use Rattle.tl_isolation.specs.declared.bound.Bound.TheVariants as bound
use Rattle.std.proofs.lemmas.Bool.{both_ways}
use Rattle.tl_descriptor.specs.Tids.{TidSet}
use Rattle.tl_isolation.specs.declared.entry.Answer.{Answer}
use Rattle.tl_protocol.specs.Store.{CommitsCell, Key, LogCell}
use Rattle.tl_protocol.specs.World.{Decision, Fact, Loaded, Txn}
use Rattle.tl_protocol.specs.Run.{Layout}
use Rattle.tl_journal.specs.Ask.{Ask}
use Rattle.tl_journal.specs.Asks.{asks}
use Rattle.tl_journal.specs.Node.{Claimed, Lost, Doing, Outside, Noted, Drawing, Bringing, Inside, Reading, Trying, Stores, Removes, Closing, Ending, Recovering, ReadingLog, Stripping, Finishing, EndingLost, Stopped, Node}
use Rattle.tl_journal.specs.Reads.{Reads}
use Rattle.tl_journal.proofs.Attempts.{removing_steps, storing_steps}
use Rattle.tl_journal.proofs.Begins.{bringing_goes, drawing_goes, noted_goes, so_far}
use Rattle.tl_journal.proofs.Elsewhere.{is_reading}
use Rattle.tl_journal.proofs.Ends.{closing_goes, ending_goes, trying_goes}
use Rattle.tl_journal.proofs.Goings.{Steps, steps_at}
use Rattle.tl_journal.proofs.Insides.{outside_goes}
use Rattle.tl_journal.proofs.Recoveries.{end_lost_steps, finishing_steps, reading_log_steps, recover_steps_few, recovering_steps, stripping_steps}
use Rattle.tl_journal.proofs.Sizes.{DoingFits}
use Rattle.tl_journal.proofs.Stated.{StatementOn}

abbrev pub is_inside : Doing → Bool
is_inside (Inside t) = true
is_inside doing = false

module _ (R : Txn → List Fact → Reads → Type 0) (layout : Layout) (setup : Setup) (settings : Settings) where
  recovers : (node : Node) (later : List Bound) (gone : ℕ) → 1 ≤ gone → gone ≤ 16 → Steps R layout setup settings (so_far node (bound.Recover gone ∷ later) Outside)
  recovers node later gone some least n ask e w state entries reply answer after b s m =
      recover_steps_few R layout setup settings (so_far node (bound.Recover gone ∷ later) Outside) (bound.Recover gone) later gone refl refl refl some least n ask e w state entries reply answer after b s b.few

  outside : (node : Node) (statement : Bound) (later : List Bound) → StatementOn setup.catalog statement
      → Steps R layout setup settings (so_far node (statement ∷ later) Outside)
  outside node statement later fits =
      outside_goes R layout setup settings node statement later
      (λ gone e. let f : StatementOn setup.catalog (bound.Recover gone) = subst (StatementOn setup.catalog) e fits in recovers node later gone f.0 f.1)

  -- a node that stopped asks nothing
  stopped_asks : (node : Node) (nodes : NodeSet) → node.doing ≡ Stopped nodes → Steps R layout setup settings node
  stopped_asks node nodes f n ask e = absurd (none node.todo ask (ap (λ (d : Doing). asks settings setup.catalog (record node { doing = d })) (sym f) ∙ e))
    where
      none : (todo : List Bound) (ask : Ask) → asks settings setup.catalog (record node { todo = todo; doing = Stopped nodes }) ≡ Some ask → ⊥
      none [] ask e = cc
      none (statement ∷ later) ask e = cc

  module _ (node : Node) (statement : Bound) (later : List Bound) (e : node.todo ≡ statement ∷ later) where
    as_said : (doing : Doing) → node.doing ≡ doing → Steps R layout setup settings (so_far node (statement ∷ later) doing) → Steps R layout setup settings node
    as_said doing f h = steps_at R layout setup settings node (statement ∷ later) doing e f h

    outside_said : node.doing ≡ Outside → StatementOn setup.catalog statement → Steps R layout setup settings node
    outside_said f fits = as_said Outside f (outside node statement later fits)

    noted_said : (seen : TidSet) → node.doing ≡ Noted seen → Steps R layout setup settings node
    noted_said seen f = as_said (Noted seen) f (noted_goes R layout setup settings node statement later seen)

    drawing_said : (seen : TidSet) → node.doing ≡ Drawing seen → Steps R layout setup settings node
    drawing_said seen f = as_said (Drawing seen) f (drawing_goes R layout setup settings node statement later seen)

    bringing_said : (seen : TidSet) (low : ℕ) → node.doing ≡ Bringing seen low → Steps R layout setup settings node
    bringing_said seen low f = as_said (Bringing seen low) f (bringing_goes R layout setup settings node statement later seen low)

    trying_said : (t : Txn) → node.doing ≡ Trying t → Steps R layout setup settings node
    trying_said t f = as_said (Trying t) f (trying_goes R layout setup settings node statement later t)

    closing_said : (t : Txn) (d : Decision) (c : Option CommitsCell) → node.doing ≡ Closing t d c → Steps R layout setup settings node
    closing_said t d c f = as_said (Closing t d c) f (closing_goes R layout setup settings node statement later t d c)

    ending_said : (tid : ℕ) (told : Answer) → node.doing ≡ Ending tid told → Steps R layout setup settings node
    ending_said tid told f = as_said (Ending tid told) f (ending_goes R layout setup settings node statement later tid told)

    stripping_said : (few : ℕ) (c : Claimed) (o : Lost) (log : LogCell) (keys : List Key) (l : Option Loaded) → node.doing ≡ Stripping c o log keys l
        → DoingFits few (Stripping c o log keys l) → Steps R layout setup settings node
    stripping_said few c o log keys l f sizes = stripping_steps R layout setup settings node statement later e c o log keys l f sizes.1.spelled.writes.rising

    by_doing : (few : ℕ) (doing : Doing) → node.doing ≡ doing → StatementOn setup.catalog statement → DoingFits few doing
        → is_reading doing ≡ false → is_inside doing ≡ false → Steps R layout setup settings node
    by_doing few Outside f fits sizes r i = outside_said f fits
    by_doing few (Noted seen) f fits sizes r i = noted_said seen f
    by_doing few (Drawing seen) f fits sizes r i = drawing_said seen f
    by_doing few (Bringing seen low) f fits sizes r i = bringing_said seen low f
    by_doing few (Inside t) f fits sizes r i = absurd (both_ways true i refl)
    by_doing few (Reading t reads) f fits sizes r i = absurd (both_ways true r refl)
    by_doing few (Trying t) f fits sizes r i = trying_said t f
    by_doing few (Stores s l) f fits sizes r i = storing_steps R layout setup settings node statement later s l e f
    by_doing few (Removes x l) f fits sizes r i = removing_steps R layout setup settings node statement later x l e f
    by_doing few (Closing t d c) f fits sizes r i = closing_said t d c f
    by_doing few (Ending tid told) f fits sizes r i = ending_said tid told f
    by_doing few (Recovering c) f fits sizes r i = recovering_steps R layout setup settings node statement later e c f
    by_doing few (ReadingLog c o) f fits sizes r i = reading_log_steps R layout setup settings node statement later e c o f
    by_doing few (Stripping c o log keys l) f fits sizes r i = stripping_said few c o log keys l f sizes
    by_doing few (Finishing c o committed x) f fits sizes r i = finishing_steps R layout setup settings node statement later e c o committed x f
    by_doing few (EndingLost c o) f fits sizes r i = end_lost_steps R layout setup settings node statement later e c o f
    by_doing few (Stopped nodes) f fits sizes r i = stopped_asks node nodes f

  -- but for what is done inside a transaction, statement by statement
  pub doing_goes : (node : Node) (statement : Bound) (later : List Bound) (few : ℕ) → node.todo ≡ statement ∷ later
      → StatementOn setup.catalog statement → DoingFits few node.doing → is_reading node.doing ≡ false → is_inside node.doing ≡ false → Steps R layout setup settings node
  doing_goes node statement later few e = by_doing node statement later e few node.doing refl
