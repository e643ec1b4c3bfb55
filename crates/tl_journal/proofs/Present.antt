-- What was read is what was read for the present statement.
use Rattle.std.proofs.Common.{◌≡◌, ℕ, false, List, [], ◌∷◌, Some, sym, ◌∙◌, subst}
use Rattle.std.proofs.lemmas.Option.{same_Some}
use Rattle.tl_base.specs.declared.place.Settings.{Settings}
use Rattle.tl_schema.specs.declared.catalog.Catalog.{Catalog}
use Rattle.tl_schema.specs.declared.catalog.Setup.{Setup}
use Rattle.tl_isolation.specs.declared.bound.Bound.{Bound}
use Rattle.tl_isolation.specs.declared.entry.Answer.{Answer}
use Rattle.tl_isolation.specs.declared.entry.Entry.{Entry}
use Rattle.tl_isolation.specs.declared.state.SiState.{SiState}
use Rattle.tl_protocol.specs.World.{Txn, Fact, World}
use Rattle.tl_protocol.specs.Run.{Layout}
use Rattle.tl_journal.specs.Ask.{Ask, Heard}
use Rattle.tl_journal.specs.Reads.{Reads}
use Rattle.tl_journal.specs.Node.{Doing, Node}
use Rattle.tl_journal.specs.Asks.{asks}
use Rattle.tl_journal.specs.Takes.{MayMean, takes}
use Rattle.tl_journal.specs.Says.{says_at}
use Rattle.tl_journal.specs.Served.{Parts, Serves, parts_of}
use Rattle.tl_journal.proofs.Meets.{Before, Goes}
use Rattle.tl_journal.proofs.Facts.{ReadsOk}
use Rattle.tl_journal.proofs.Elsewhere.{is_reading, node_any}
use Rattle.tl_journal.proofs.Goings.{Steps}

-- what stands behind the reads of a node with these statements left
abbrev pub ReadsFor : Settings → Catalog → List Bound → Txn → List Fact → Reads → Type 0
ReadsFor settings catalog [] t facts reads = Unit {0}
ReadsFor settings catalog (statement ∷ later) t facts reads = ReadsOk settings catalog statement t facts reads

module _ (R Q : Txn → List Fact → Reads → Type 0) where
  pub before_other : (layout : Layout) (setup : Setup) (settings : Settings) (w : World) (state : SiState) (entries : List Entry) (n : ℕ) (node : Node)
      → is_reading node.doing ≡ false → Before R layout setup settings w state entries n node → Before Q layout setup settings w state entries n node
  before_other layout setup settings w state entries n node e b = record {
    reach = b.reach;
    opening = b.opening;
    runs = b.runs;
    node_is = node_any R Q settings node w n e b.node_is;
    laid_out = b.laid_out;
    catalog = b.catalog;
    few = b.few;
  }

  pub goes_other : (layout : Layout) (setup : Setup) (settings : Settings) (w : World) (state : SiState) (entries told : List Entry) (n : ℕ) (node : Node) (after : Parts)
      → is_reading node.doing ≡ false → Goes R layout setup settings w state entries told n node after → Goes Q layout setup settings w state entries told n node after
  goes_other layout setup settings w state entries told n node after e g = record {
    world = g.world;
    reach = g.reach;
    parts = g.parts;
    node_is = node_any R Q settings node g.world n e g.node_is;
    others = g.others;
    gone = g.gone;
    laid_out = g.laid_out;
    catalog = g.catalog;
  }

module _ (layout : Layout) (setup : Setup) (settings : Settings) where
  abbrev pub GoesFor : World → SiState → List Entry → List Entry → ℕ → Node → Parts → Type 0
  GoesFor w state entries told n node after = Goes (ReadsFor settings setup.catalog node.todo) layout setup settings w state entries told n node after

  -- whatever node n hears, the protocol goes on
  abbrev pub StepsForAs : ℕ → Node → Ask → Type 0
  StepsForAs n node ask =
      (w : World) (state : SiState) (entries : List Entry) (reply : Heard) (answer : Answer) (after : Parts)
      → Before (ReadsFor settings setup.catalog node.todo) layout setup settings w state entries n node
      → Serves settings (parts_of w) n ask reply after
      → MayMean settings setup.catalog node reply answer
      → GoesFor w state entries (says_at settings setup.catalog state.commits node reply answer) n (takes settings setup.catalog node reply answer) after

  -- what is to be shown of a node
  abbrev pub StepsFor : Node → Type 0
  StepsFor node = (n : ℕ) (ask : Ask) → asks settings setup.catalog node ≡ Some ask → StepsForAs n node ask

  -- it is shown of a node that doesn't read, whatever stands behind reads
  pub steps_for : (node : Node) → is_reading node.doing ≡ false → ((R : Txn → List Fact → Reads → Type 0) → Steps R layout setup settings node) → StepsFor node
  steps_for node e h n ask asked w state entries reply answer after b serves means =
      let Q : Txn → List Fact → Reads → Type 0 = ReadsFor settings setup.catalog (takes settings setup.catalog node reply answer).todo in
      h Q n ask asked w state entries reply answer after
      (before_other (ReadsFor settings setup.catalog node.todo) Q layout setup settings w state entries n node e b) serves means

  renumber : (node : Node) (n : ℕ) (ask : Ask) → StepsForAs node.number node ask → StepsForAs n node ask
  renumber node n ask h w state entries reply answer after b =
      subst
      (λ k.
      Before (ReadsFor settings setup.catalog node.todo) layout setup settings w state entries k node → Serves settings (parts_of w) k ask reply after
      → MayMean settings setup.catalog node reply answer
      → GoesFor w state entries (says_at settings setup.catalog state.commits node reply answer) k (takes settings setup.catalog node reply answer) after)
      b.node_is.number (h w state entries reply answer after) b

  -- it is shown of the one request that the node makes, under its own number
  pub steps_for_as : (node : Node) (ask : Ask) → asks settings setup.catalog node ≡ Some ask → StepsForAs node.number node ask → StepsFor node
  steps_for_as node ask e h n other f = subst (λ a. StepsForAs n node a) (same_Some ask other (sym e ∙ f)) (renumber node n ask h)

  -- the node with these statements left, doing this
  pub steps_for_at : (node : Node) (todo : List Bound) (doing : Doing) → node.todo ≡ todo → node.doing ≡ doing
      → StepsFor (record node { todo = todo; doing = doing }) → StepsFor node
  steps_for_at node todo doing e f h =
      subst (λ x. StepsFor (record node { doing = x })) (sym f) (subst (λ x. StepsFor (record node { todo = x; doing = doing })) (sym e) h)
