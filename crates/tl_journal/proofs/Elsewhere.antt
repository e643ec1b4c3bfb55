-- What an event of one node leaves of the others.
use Rattle.std.proofs.Common.{◌≡◌, ℕ, Bool, true, false, List, [], ◌∷◌, Some, refl, sym, ap, ◌∙◌, subst, arith}
use Rattle.std.specs.Prelude.{◌==◌, ◌&&◌, not, if◌then◌else◌}
use Rattle.std.proofs.lemmas.Bool.{and_parts, eq-eqb, ne_eqb}
use Rattle.tl_base.specs.declared.place.Settings.{Settings}
use Rattle.tl_schema.specs.declared.catalog.Catalog.{Catalog}
use Rattle.tl_manager.specs.declared.request.ManagerReply.TheVariants as manager
use Rattle.tl_isolation.specs.declared.bound.Bound.{Bound}
use Rattle.tl_isolation.specs.declared.entry.Answer.{Answer}
use Rattle.tl_isolation.specs.declared.entry.Entry.{Entry}
use Rattle.tl_isolation.specs.declared.state.Commit.{Commit as Committed}
use Rattle.tl_isolation.specs.declared.script.Script.{Script}
use Rattle.tl_protocol.specs.World.{Fact, Phase, Txn, World}
use Rattle.tl_journal.specs.declared.event.Event.{Event}
use Rattle.tl_journal.specs.Ask.{Ask, Heard, Told}
use Rattle.tl_journal.specs.Asks.{asks}
use Rattle.tl_journal.specs.Journal.{after_event, is_post, takes_reply}
use Rattle.tl_journal.specs.Node.{Doing, Outside, Noted, Drawing, Bringing, Inside, Reading, Trying, Stores, Removes, Closing, Ending, Recovering, ReadingLog, Stripping, Finishing, EndingLost, Stopped, Node}
use Rattle.tl_journal.specs.Reads.{Reads}
use Rattle.tl_journal.specs.Memory.{cut_short, has_said, is_cut, node_then}
use Rattle.tl_journal.specs.Says.{says_at, says_doing, says_noted}
use Rattle.tl_journal.specs.Takes.{takes}
use Rattle.tl_journal.specs.Bytes.{heard}
use Rattle.tl_journal.specs.Journal.{answer_said}
use Rattle.tl_journal.proofs.Meets.{NodeIs, PhaseIs, RecoveryIs}
use Rattle.tl_journal.proofs.Goings.{IsElsewhere}

abbrev pub is_reading : Doing → Bool
is_reading (Reading t reads) = true
is_reading doing = false

-- what was read matters in the middle of a read alone
phase_any : (R S : Txn → List Fact → Reads → Type 0) (doing : Doing) (p : Phase) → is_reading doing ≡ false → PhaseIs R doing p → PhaseIs S doing p
phase_any R S Outside p e h = h
phase_any R S (Noted seen) p e h = h
phase_any R S (Drawing seen) p e h = h
phase_any R S (Bringing seen low) p e h = h
phase_any R S (Inside t) p e h = h
phase_any R S (Reading t reads) p e h = cc
phase_any R S (Trying t) p e h = h
phase_any R S (Stores s l) p e h = h
phase_any R S (Removes r l) p e h = h
phase_any R S (Closing t d c) p e h = h
phase_any R S (Ending tid told) p e h = h
phase_any R S (Recovering c) p e h = h
phase_any R S (ReadingLog c o) p e h = h
phase_any R S (Stripping c o log keys l) p e h = h
phase_any R S (Finishing c o committed x) p e h = h
phase_any R S (EndingLost c o) p e h = h
phase_any R S (Stopped nodes) p e h = h

pub node_any : (R S : Txn → List Fact → Reads → Type 0) (settings : Settings) (node : Node) (w : World) (n : ℕ) → is_reading node.doing ≡ false
    → NodeIs R settings node w n → NodeIs S settings node w n
node_any R S settings node w n e o = record {
  number = o.number;
  phase = phase_any R S node.doing (w.phases n) e o.phase;
  recovery = o.recovery;
  managers = o.managers;
  floors = o.floors;
  statement = o.statement;
}

-- a node is where it was when nothing of its own has changed
pub node_elsewhere : (R : Txn → List Fact → Reads → Type 0) (settings : Settings) (node : Node) (w world : World) (n : ℕ) → IsElsewhere w world n
    → NodeIs R settings node w n → NodeIs R settings node world n
node_elsewhere R settings node w world n e o = record {
  number = o.number;
  phase = subst (λ p. PhaseIs R node.doing p) (sym e.0) o.phase;
  recovery = subst (λ r. RecoveryIs node.doing r) (sym e.1) o.recovery;
  managers = o.managers;
  floors = λ j floor h. e.2 j ∙ o.floors j floor h;
  statement = o.statement;
}

-- an event of another node, or a death notice, leaves a node as it was
pub after_other : (settings : Settings) (script : Script) (e : Event) (node : Node) → (e.node == node.number) && not (is_post e.request) ≡ false
    → after_event settings script e node ≡ node
after_other settings script e node h = rw h refl

pub of_other : (x y : ℕ) (b : Bool) → (x ≡ y → ⊥) → (x == y) && b ≡ false
of_other x y b ne = ap (λ c. c && b) (ne_eqb x y ne)

pub of_post : (x y : ℕ) (b : Bool) → b ≡ true → (x == y) && not b ≡ false
of_post x y b e = on (x == y) b e
  where
    on : (a b : Bool) → b ≡ true → a && not b ≡ false
    on true true e = refl
    on true false e = cc
    on false true e = refl
    on false false e = cc

-- and its own request leads it on
after_then : (settings : Settings) (script : Script) (e : Event) (node : Node) (ask : Ask) → e.node ≡ node.number → is_post e.request ≡ false
    → asks settings script.catalog node ≡ Some ask → after_event settings script e node
    ≡ node_then settings script.catalog node (heard ask e.reply) (answer_said e.entries) e.entries
after_then settings script e node ask i p a =
    ap (λ c. if c then takes_reply settings script node (asks settings script.catalog node) e.reply e.entries else node) (own (e.node == node.number) (is_post e.request) (same e.node node.number i) p)
    ∙ ap (λ x. takes_reply settings script node x e.reply e.entries) a
  where
    own : (a b : Bool) → a ≡ true → b ≡ false → a && not b ≡ true
    own true false e f = refl
    own true true e f = cc
    own false b e f = cc

    same : (x y : ℕ) → x ≡ y → (x == y) ≡ true
    same x y e = eq-eqb x y e

-- whether an answer or a clash is to be told doesn't lie in what was committed
doing_said : (settings : Settings) (catalog : Catalog) (commits : List Committed) (node : Node) (statement : Bound) (doing : Doing) (heard : Heard) (told : Answer)
    → has_said (says_doing settings catalog commits node statement doing heard told) ≡ has_said (says_doing settings catalog [] node statement doing heard told)
doing_said settings catalog commits node statement (Noted seen) heard told = noted statement heard
  where
    noted : (statement : Bound) (heard : Heard) → has_said (says_noted commits node statement heard) ≡ has_said (says_noted [] node statement heard)
    noted statement (Told (manager.Began tid snapshot floor)) = refl
    noted statement heard = refl
doing_said settings catalog commits node statement doing heard told = refl

pub said_same : (settings : Settings) (catalog : Catalog) (commits : List Committed) (node : Node) (heard : Heard) (told : Answer)
    → has_said (says_at settings catalog commits node heard told) ≡ has_said (says_at settings catalog [] node heard told)
said_same settings catalog commits node heard told = by node.todo
  where
    by : (todo : List Bound) → has_said (says_at settings catalog commits (record node { todo = todo }) heard told) ≡ has_said (says_at settings catalog [] (record node { todo = todo }) heard told)
    by [] = refl
    by (statement ∷ later) = doing_said settings catalog commits (record node { todo = statement ∷ later }) statement node.doing heard told

-- a request that is told whole isn't cut
pub whole_uncut : (settings : Settings) (catalog : Catalog) (commits : List Committed) (node : Node) (heard : Heard) (told : Answer) (entries : List Entry)
    → entries ≡ says_at settings catalog commits node heard told → is_cut settings catalog node heard told entries ≡ false
whole_uncut settings catalog commits node heard told entries e =
    not_both (has_said (says_at settings catalog [] node heard told)) (has_said entries) (ap has_said e ∙ said_same settings catalog commits node heard told)
  where
    not_both : (a b : Bool) → b ≡ a → (a && not b) ≡ false
    not_both a b e = grind arith

-- an answer or a clash is to be told where a request is cut
pub is_to_say : (settings : Settings) (catalog : Catalog) (commits : List Committed) (node : Node) (heard : Heard) (told : Answer) (entries : List Entry)
    → is_cut settings catalog node heard told entries ≡ true → has_said (says_at settings catalog commits node heard told) ≡ true
is_to_say settings catalog commits node heard told entries e =
    said_same settings catalog commits node heard told ∙ (and_parts (has_said (says_at settings catalog [] node heard told)) (not (has_said entries)) e).0

-- its own request leads it on
pub after_own : (settings : Settings) (script : Script) (e : Event) (node : Node) (ask : Ask) (commits : List Committed) → e.node ≡ node.number → is_post e.request ≡ false
    → asks settings script.catalog node ≡ Some ask → e.entries ≡ says_at settings script.catalog commits node (heard ask e.reply) (answer_said e.entries)
    → after_event settings script e node ≡ takes settings script.catalog node (heard ask e.reply) (answer_said e.entries)
after_own settings script e node ask commits i p a told =
    after_then settings script e node ask i p a
    ∙ ap (λ c. if c then cut_short settings script.catalog node (heard ask e.reply) (answer_said e.entries) else takes settings script.catalog node (heard ask e.reply) (answer_said e.entries))
    (whole_uncut settings script.catalog commits node (heard ask e.reply) (answer_said e.entries) e.entries told)

-- one that is cut ends it
pub after_cut : (settings : Settings) (script : Script) (e : Event) (node : Node) (ask : Ask) → e.node ≡ node.number → is_post e.request ≡ false
    → asks settings script.catalog node ≡ Some ask → is_cut settings script.catalog node (heard ask e.reply) (answer_said e.entries) e.entries ≡ true
    → after_event settings script e node ≡ cut_short settings script.catalog node (heard ask e.reply) (answer_said e.entries)
after_cut settings script e node ask i p a cut =
    after_then settings script e node ask i p a
    ∙ ap (λ c. if c then cut_short settings script.catalog node (heard ask e.reply) (answer_said e.entries) else takes settings script.catalog node (heard ask e.reply) (answer_said e.entries)) cut
