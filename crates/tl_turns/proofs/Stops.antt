-- A node that hears of a full place, or of a transaction that isn't known, stops.
use Rattle.std.proofs.Common.{◌≡◌, ℕ, Bool, true, false, List, [], ◌∷◌, Option, Some, None, refl}
use Rattle.tl_base.specs.declared.place.Settings.{Settings}
use Rattle.tl_base.specs.declared.store.StoreReply.{StoreReply}
use Rattle.tl_base.specs.declared.store.StoreReply.TheVariants as stored
use Rattle.tl_schema.specs.declared.catalog.Catalog.{Catalog}
use Rattle.tl_descriptor.specs.Tids.{TidSet}
use Rattle.tl_manager.specs.declared.request.ManagerReply.{ManagerReply}
use Rattle.tl_manager.specs.declared.request.ManagerReply.TheVariants as manager
use Rattle.tl_manager.specs.declared.request.Reply.{Reply}
use Rattle.tl_manager.specs.declared.request.Reply.TheVariants as reply
use Rattle.tl_write.specs.declared.write.Write.{Write}
use Rattle.tl_isolation.specs.declared.bound.Bound.{Bound}
use Rattle.tl_isolation.specs.declared.entry.Answer.{Answer}
use Rattle.tl_protocol.specs.Store.{CommitsCell, Key, LogCell}
use Rattle.tl_protocol.specs.World.{Decision, Loaded, Txn}
use Rattle.tl_journal.specs.Ask.{Ask, LoadCommits, AskManager, Heard, Strange, Told}
use Rattle.tl_journal.specs.Asks.{Course, ToBegin, ToRead, asks, asks_doing, course_in, course_outside}
use Rattle.tl_journal.specs.Bytes.{heard}
use Rattle.tl_journal.specs.Node.{Claimed, Lost, Removing, Storing, Doing, Outside, Inside, Reading, Stores, Removes, Closing, Recovering, Stripping, Finishing, Stopped, Node}
use Rattle.tl_journal.specs.Reads.{Point, Range, Read, Reads}
use Rattle.tl_journal.specs.Schedule.{is_refusal}
use Rattle.tl_journal.specs.Strange.{is_stopped}
use Rattle.tl_journal.specs.Takes.{after_reply, takes, takes_closing, takes_doing, takes_finishing, takes_inside, takes_outside, takes_read, takes_recovering, takes_removing, takes_storing, takes_stripping}

-- what is heard of a full place, and of a transaction that isn't known
abbrev refused : Bool → Heard
refused true = Strange
refused false = Told manager.NotActive

abbrev Stops : Node → Type 0
Stops node = is_stopped node.doing ≡ true

outside : (settings : Settings) (node : Node) (b : Bool) (course : Course) → Stops (takes_outside settings node course (refused b))
outside settings node true ToBegin = refl
outside settings node true course = refl
outside settings node false ToBegin = refl
outside settings node false course = refl

no_read : (settings : Settings) (snapshot : TidSet) (reads : Reads) (b : Bool) (left : List Read) → ◌≡◌ {A = Option Reads} (after_reply settings snapshot reads left (refused b)) None
no_read settings snapshot reads true [] = refl
no_read settings snapshot reads true (Point key ∷ left) = refl
no_read settings snapshot reads true (Range shard from first before ∷ left) = refl
no_read settings snapshot reads false [] = refl
no_read settings snapshot reads false (Point key ∷ left) = refl
no_read settings snapshot reads false (Range shard from first before ∷ left) = refl

reading : (settings : Settings) (catalog : Catalog) (node : Node) (statement : Bound) (t : Txn) (reads : Reads) (told : Answer) (b : Bool)
    → Stops (takes_read settings catalog node statement t reads (refused b) told)
reading settings catalog node statement t reads told b = rw (no_read settings t.snapshot reads b reads.left) refl

inside : (settings : Settings) (catalog : Catalog) (node : Node) (statement : Bound) (t : Txn) (told : Answer) (b : Bool) (course : Course)
    → Stops (takes_inside settings catalog node statement t course (refused b) told)
inside settings catalog node statement t told b (ToRead reads) = reading settings catalog node statement t reads told b
inside settings catalog node statement t told true course = refl
inside settings catalog node statement t told false course = refl

storing : (node : Node) (s : Storing) (b : Bool) (l : Option Loaded) (left : List Write) → Stops (takes_storing node s l left (refused b))
storing node s true None [] = refl
storing node s true None (o ∷ left) = refl
storing node s true (Some l) [] = refl
storing node s true (Some l) (o ∷ left) = refl
storing node s false None [] = refl
storing node s false None (o ∷ left) = refl
storing node s false (Some l) [] = refl
storing node s false (Some l) (o ∷ left) = refl

removing : (node : Node) (r : Removing) (b : Bool) (l : Option Loaded) (left : List Write) → Stops (takes_removing node r l left (refused b))
removing node r true None [] = refl
removing node r true None (o ∷ left) = refl
removing node r true (Some l) [] = refl
removing node r true (Some l) (o ∷ left) = refl
removing node r false None [] = refl
removing node r false None (o ∷ left) = refl
removing node r false (Some l) [] = refl
removing node r false (Some l) (o ∷ left) = refl

closing : (node : Node) (t : Txn) (d : Decision) (b : Bool) (c : Option CommitsCell) → Stops (takes_closing node t d c (refused b))
closing node t d true None = refl
closing node t d true (Some c) = refl
closing node t d false None = refl
closing node t d false (Some c) = refl

recovering : (node : Node) (c : Claimed) (b : Bool) (left : List ℕ) → Stops (takes_recovering node c left (refused b))
recovering node c true [] = refl
recovering node c true (d ∷ left) = refl
recovering node c false [] = refl
recovering node c false (d ∷ left) = refl

stripping : (node : Node) (c : Claimed) (o : Lost) (log : LogCell) (b : Bool) (keys : List Key) (l : Option Loaded) → Stops (takes_stripping node c o log keys l (refused b))
stripping node c o log true [] None = refl
stripping node c o log true [] (Some l) = refl
stripping node c o log true (key ∷ keys) None = refl
stripping node c o log true (key ∷ keys) (Some l) = refl
stripping node c o log false [] None = refl
stripping node c o log false [] (Some l) = refl
stripping node c o log false (key ∷ keys) None = refl
stripping node c o log false (key ∷ keys) (Some l) = refl

finishing : (node : Node) (c : Claimed) (o : Lost) (committed : Bool) (b : Bool) (x : Option CommitsCell) → Stops (takes_finishing node c o committed x (refused b))
finishing node c o committed true None = refl
finishing node c o committed true (Some x) = refl
finishing node c o committed false None = refl
finishing node c o committed false (Some x) = refl

none_some : {A B : Type 0} (x : A) → ◌≡◌ {A = Option A} None (Some x) → B
none_some x e = absurd cc

doing_stops : (settings : Settings) (catalog : Catalog) (node : Node) (statement : Bound) (told : Answer) (ask : Ask) (b : Bool) (d : Doing)
    → asks_doing settings catalog node statement d ≡ Some ask → Stops (takes_doing settings catalog node statement d (refused b) told)
doing_stops settings catalog node statement told ask b Outside = λ e. outside settings node b (course_outside statement)
doing_stops settings catalog node statement told ask b (Inside t) = λ e. inside settings catalog node statement t told b (course_in catalog t.stage statement)
doing_stops settings catalog node statement told ask b (Reading t reads) = λ e. reading settings catalog node statement t reads told b
doing_stops settings catalog node statement told ask b (Stores s l) = λ e. storing node s b l s.left
doing_stops settings catalog node statement told ask b (Removes r l) = λ e. removing node r b l r.left
doing_stops settings catalog node statement told ask b (Closing t d c) = λ e. closing node t d b c
doing_stops settings catalog node statement told ask b (Recovering c) = λ e. recovering node c b c.left
doing_stops settings catalog node statement told ask b (Stripping c o log keys l) = λ e. stripping node c o log b keys l
doing_stops settings catalog node statement told ask b (Finishing c o committed x) = λ e. finishing node c o committed b x
doing_stops settings catalog node statement told ask b (Stopped nodes) = λ e. none_some ask e
doing_stops settings catalog node statement told ask true d = λ e. refl
doing_stops settings catalog node statement told ask false d = λ e. refl

-- what is heard, whatever was asked
heard_full : (old : ℕ) (ask : Ask) → heard ask (reply.Store (stored.Full old)) ≡ refused true
heard_full old LoadCommits = refl
heard_full old ask = refl

heard_unknown : (ask : Ask) → (b : Bool) × (heard ask (reply.Manager manager.NotActive) ≡ refused b)
heard_unknown (AskManager m request) = (false, refl)
heard_unknown ask = (true, refl)

heard_refused : (ask : Ask) (told : Reply) → is_refusal told ≡ true → (b : Bool) × (heard ask told ≡ refused b)
heard_refused ask (reply.Store told) = by told
  where
    by : (told : StoreReply) → is_refusal (reply.Store told) ≡ true → (b : Bool) × (heard ask (reply.Store told) ≡ refused b)
    by (stored.Full old) = λ e. (true, heard_full old ask)
    by told = λ e. absurd cc
heard_refused ask (reply.Manager told) = by told
  where
    by : (told : ManagerReply) → is_refusal (reply.Manager told) ≡ true → (b : Bool) × (heard ask (reply.Manager told) ≡ refused b)
    by manager.NotActive = λ e. heard_unknown ask
    by told = λ e. absurd cc

-- so the node that asked stops at it
pub stops : (settings : Settings) (catalog : Catalog) (node : Node) (ask : Ask) (told : Reply) (answer : Answer) → asks settings catalog node ≡ Some ask
    → is_refusal told ≡ true → is_stopped (takes settings catalog node (heard ask told) answer).doing ≡ true
stops settings catalog node ask told answer e h = by node.todo refl (heard_refused ask told h)
  where
    by : (todo : List Bound) → node.todo ≡ todo → ((b : Bool) × (heard ask told ≡ refused b)) → Stops (takes settings catalog node (heard ask told) answer)
    by [] f r = none_some ask (rw f at e)
    by (statement ∷ later) f r = rw (r.1, f) (doing_stops settings catalog (record node { todo = statement ∷ later }) statement answer ask r.0 node.doing (rw f at e))
