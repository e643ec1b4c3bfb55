-- A node stops at what no place of a run replies, and whether it stops doesn't depend on what it answers.
use Rattle.std.proofs.Common.{◌≡◌, ℕ, Bool, true, false, List, [], ◌∷◌, Option, Some, None, refl, sym, ap, ◌∙◌, subst, arith}
use Rattle.std.specs.Prelude.{◌&&◌, ◌||◌, if◌then◌else◌}
use Rattle.tl_base.specs.declared.place.Settings.{Settings}
use Rattle.tl_schema.specs.declared.catalog.Catalog.{Catalog}
use Rattle.tl_manager.specs.declared.request.ManagerReply.TheVariants as manager
use Rattle.tl_write.specs.declared.write.Write.{Write}
use Rattle.tl_isolation.specs.declared.bound.Bound.{Bound}
use Rattle.tl_isolation.specs.declared.entry.Answer.{Answer}
use Rattle.tl_isolation.specs.declared.entry.Answer.TheVariants as answer
use Rattle.tl_protocol.specs.Store.{Key, CommitsCell, LogCell}
use Rattle.tl_protocol.specs.World.{Decision, Loaded, Txn}
use Rattle.tl_journal.specs.Ask.{Ask, Heard, Told, Strange}
use Rattle.tl_journal.specs.Asks.{Course, ToBegin, ToRead, ToIdle, ToCommit, ToGiveUp, ToRecover, asks, asks_doing, course_in, course_outside}
use Rattle.tl_journal.specs.Bytes.{heard, home_of}
use Rattle.tl_journal.specs.Node.{Storing, Removing, Claimed, Lost, Doing, Outside, Noted, Drawing, Bringing, Inside, Reading, Trying, Stores, Removes, Closing, Ending, Recovering, ReadingLog, Stripping, Finishing, EndingLost, Stopped, Node}
use Rattle.tl_journal.specs.Reads.{Read, Point, Range, Reads, all_reads, begin_reads}
use Rattle.tl_journal.specs.Strange.{HeardAsSaid, StopsAlike, StopsAtStrange, is_odd_for, is_sound, is_stopped, may_reply, sound_heard, stops_at}
use Rattle.tl_journal.specs.Takes.{after_reply, learnt, takes, takes_closing, takes_doing, takes_finishing, takes_idle, takes_inside, takes_outside, takes_read, takes_recovering, takes_removing, takes_storing, takes_stripping}
use Rattle.tl_journal.proofs.StrangeStops.{idles_runs, on_runs}

abbrev Stops : Node → Type 0
Stops node = is_stopped node.doing ≡ true

-- ---- what no place of a run replies

module _ (settings : Settings) (catalog : Catalog) (node : Node) (told : Answer) where
  outside_stops : (course : Course) → Stops (takes_outside settings node course Strange)
  outside_stops ToBegin = refl
  outside_stops (ToRead reads) = refl
  outside_stops ToIdle = refl
  outside_stops ToCommit = refl
  outside_stops ToGiveUp = refl
  outside_stops (ToRecover gone) = refl

  read_stops : (statement : Bound) (t : Txn) (reads : Reads) → Stops (takes_read settings catalog node statement t reads Strange told)
  read_stops statement t reads = by reads.left
    where
      by : (left : List Read) → Stops (takes_read settings catalog node statement t (record reads { left = left }) Strange told)
      by [] = refl
      by (Point key ∷ left) = refl
      by (Range shard from first before ∷ left) = refl

  inside_stops : (statement : Bound) (t : Txn) (course : Course) → Stops (takes_inside settings catalog node statement t course Strange told)
  inside_stops statement t ToBegin = refl
  inside_stops statement t (ToRead reads) = read_stops statement t reads
  inside_stops statement t ToIdle = refl
  inside_stops statement t ToCommit = refl
  inside_stops statement t ToGiveUp = refl
  inside_stops statement t (ToRecover gone) = refl

  storing_stops : (s : Storing) (l : Option Loaded) (left : List Write) → Stops (takes_storing node s l left Strange)
  storing_stops s None [] = refl
  storing_stops s None (o ∷ left) = refl
  storing_stops s (Some l) [] = refl
  storing_stops s (Some l) (o ∷ left) = refl

  removing_stops : (r : Removing) (l : Option Loaded) (left : List Write) → Stops (takes_removing node r l left Strange)
  removing_stops r None [] = refl
  removing_stops r None (o ∷ left) = refl
  removing_stops r (Some l) [] = refl
  removing_stops r (Some l) (o ∷ left) = refl

  closing_stops : (t : Txn) (d : Decision) (c : Option CommitsCell) → Stops (takes_closing node t d c Strange)
  closing_stops t d None = refl
  closing_stops t d (Some c) = refl

  recovering_stops : (c : Claimed) (left : List ℕ) → Stops (takes_recovering node c left Strange)
  recovering_stops c [] = refl
  recovering_stops c (d ∷ left) = refl

  stripping_stops : (c : Claimed) (o : Lost) (log : LogCell) (keys : List Key) (l : Option Loaded) → Stops (takes_stripping node c o log keys l Strange)
  stripping_stops c o log [] None = refl
  stripping_stops c o log (key ∷ keys) None = refl
  stripping_stops c o log [] (Some l) = refl
  stripping_stops c o log (key ∷ keys) (Some l) = refl

  finishing_stops : (c : Claimed) (o : Lost) (committed : Bool) (x : Option CommitsCell) → Stops (takes_finishing node c o committed x Strange)
  finishing_stops c o committed None = refl
  finishing_stops c o committed (Some x) = refl

  -- whoever hasn't stopped stops then
  pub doing_stops : (statement : Bound) (doing : Doing) → is_stopped doing ≡ false → Stops (takes_doing settings catalog node statement doing Strange told)
  doing_stops statement Outside e = outside_stops (course_outside statement)
  doing_stops statement (Noted seen) e = refl
  doing_stops statement (Drawing seen) e = refl
  doing_stops statement (Bringing seen low) e = refl
  doing_stops statement (Inside t) e = inside_stops statement t (course_in catalog t.stage statement)
  doing_stops statement (Reading t reads) e = read_stops statement t reads
  doing_stops statement (Trying t) e = refl
  doing_stops statement (Stores s l) e = storing_stops s l s.left
  doing_stops statement (Removes r l) e = removing_stops r l r.left
  doing_stops statement (Closing t d c) e = closing_stops t d c
  doing_stops statement (Ending tid said_so) e = refl
  doing_stops statement (Recovering c) e = recovering_stops c c.left
  doing_stops statement (ReadingLog c o) e = refl
  doing_stops statement (Stripping c o log keys l) e = stripping_stops c o log keys l
  doing_stops statement (Finishing c o committed x) e = finishing_stops c o committed x
  doing_stops statement (EndingLost c o) e = refl
  doing_stops statement (Stopped nodes) e = absurd cc

none_asked : (ask : Ask) → ◌≡◌ {A = Option Ask} None (Some ask) → ⊥
none_asked ask e = cc

asks_runs : (settings : Settings) (catalog : Catalog) (node : Node) (statement : Bound) (doing : Doing) (ask : Ask)
    → asks_doing settings catalog node statement doing ≡ Some ask → is_stopped doing ≡ false
asks_runs settings catalog node statement (Stopped nodes) ask e = absurd (none_asked ask e)
asks_runs settings catalog node statement doing ask e = refl

pub stops_at_strange : StopsAtStrange
stops_at_strange settings catalog node ask = by node.todo
  where
    by : (todo : List Bound) → asks settings catalog (record node { todo = todo }) ≡ Some ask → stops_at settings catalog (record node { todo = todo }) Strange ≡ true
    by [] e = absurd (none_asked ask e)
    by (statement ∷ later) e =
        doing_stops settings catalog (record node { todo = statement ∷ later }) answer.Begun statement node.doing
        (asks_runs settings catalog (record node { todo = statement ∷ later }) statement node.doing ask e)

pub heard_as_said : HeardAsSaid
heard_as_said settings catalog node ask told asked strange = by (may_reply ask told && is_sound catalog ask (heard ask told)) refl
  where
    odd : (a b : Bool) → a ≡ true → (a || b) ≡ false → ⊥
    odd a b e f = grind arith

    by : (b : Bool) → (may_reply ask told && is_sound catalog ask (heard ask told)) ≡ b → (if b then heard ask told else Strange) ≡ heard ask told
    by true e = refl
    by false e =
        let is : sound_heard catalog ask told ≡ Strange = ap (λ (b : Bool). if b then heard ask told else Strange) e in
        absurd (odd (stops_at settings catalog node Strange) (is_odd_for node.doing Strange) (stops_at_strange settings catalog node ask asked)
        (subst (λ (x : Heard). (stops_at settings catalog node x || is_odd_for node.doing x) ≡ false) is strange))

-- ---- whatever is answered

module _ (settings : Settings) (catalog : Catalog) (node : Node) (heard : Heard) (a b : Answer) where
  abbrev Same : Node → Node → Type 0
  Same x y = is_stopped x.doing ≡ is_stopped y.doing

  read_alike : (statement : Bound) (t : Txn) (reads : Reads)
      → Same (takes_read settings catalog node statement t reads heard a) (takes_read settings catalog node statement t reads heard b)
  read_alike statement t reads =
      elim (after_reply settings t.snapshot reads reads.left heard) as (λ o. after_reply settings t.snapshot reads reads.left heard ≡ o
      → Same (takes_read settings catalog node statement t reads heard a) (takes_read settings catalog node statement t reads heard b)) [
        | None ↦ λ e. rw e refl
        | Some after ↦ λ e. rw e (on_runs catalog node statement t after a ∙ sym (on_runs catalog node statement t after b))
      ] refl

  idle_alike : (statement : Bound) (t : Txn) (heard : Heard) → Same (takes_idle settings catalog node statement t heard a) (takes_idle settings catalog node statement t heard b)
  idle_alike statement t (Told (manager.FloorIs floor)) =
      let now : Node = learnt node (home_of settings node.number) floor in
      let reads : Reads = begin_reads (all_reads catalog statement) in
      idles_runs catalog now statement t reads a ∙ sym (idles_runs catalog now statement t reads b)
  idle_alike statement t heard = refl

  inside_alike : (statement : Bound) (t : Txn) (course : Course)
      → Same (takes_inside settings catalog node statement t course heard a) (takes_inside settings catalog node statement t course heard b)
  inside_alike statement t (ToRead reads) = read_alike statement t reads
  inside_alike statement t ToIdle = idle_alike statement t heard
  inside_alike statement t course = refl

  doing_alike : (statement : Bound) (doing : Doing)
      → Same (takes_doing settings catalog node statement doing heard a) (takes_doing settings catalog node statement doing heard b)
  doing_alike statement (Inside t) = inside_alike statement t (course_in catalog t.stage statement)
  doing_alike statement (Reading t reads) = read_alike statement t reads
  doing_alike statement doing = refl

pub stops_alike : StopsAlike
stops_alike settings catalog node heard told = by node.todo
  where
    by : (todo : List Bound) → is_stopped (takes settings catalog (record node { todo = todo }) heard told).doing ≡ stops_at settings catalog (record node { todo = todo }) heard
    by [] = refl
    by (statement ∷ later) = doing_alike settings catalog (record node { todo = statement ∷ later }) heard told answer.Begun statement node.doing
