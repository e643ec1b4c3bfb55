-- A statement is answered, and its node goes on with the next one outside a transaction.
use Rattle.std.proofs.Common.{◌≡◌, ℕ, ◌+◌, true, false, inl, List, [], ◌∷◌, length, drop, Result, Ok, Err, sym, ap, ◌∙◌, subst}
use Rattle.tl_base.specs.declared.memory.NoMemory.{NoMemory}
use Rattle.tl_descriptor.specs.Tids.{TidSet}
use Rattle.tl_manager.specs.declared.mark.Mark.TheVariants as mark
use Rattle.tl_manager.specs.declared.request.Reply.{Reply}
use Rattle.tl_protocol.specs.Move.{is_empty}
use Rattle.tl_isolation.specs.declared.bound.Bound.{Bound}
use Rattle.tl_isolation.specs.declared.entry.Answer.{Answer}
use Rattle.tl_isolation.specs.declared.entry.Answer.TheVariants as answer
use Rattle.tl_isolation.specs.declared.entry.Entry.TheVariants as entry
use Rattle.tl_isolation.specs.declared.entry.Said.{Said}
use Rattle.tl_isolation.specs.declared.state.Commit.{Commit}
use Rattle.tl_journal.specs.Ask.{Heard}
use Rattle.tl_journal.specs.Memory.{is_ending, unsaid}
use Rattle.tl_journal.specs.Node.{Node}
use Rattle.tl_journal.specs.Says.{says_at}
use Rattle.tl_journal.specs.Strange.{is_strange_to}
use Rattle.tl_journal.specs.Takes.{MayMean, takes}
use Rattle.tl_node.specs.After.{ComesTo, IsHeld, Says, Stays, Wants, statement_in}
use Rattle.tl_node.specs.Leaves.{Learns, Leaves, LeavesSo, learns}
use Rattle.tl_node.specs.View.{StandsFor, value_of}
use Rattle.tl_node.specs.declared.kept.Core.{Core}
use Rattle.tl_node.specs.declared.work.Next.{Next}
use Rattle.tl_node.specs.declared.work.Next.TheVariants as next
use Rattle.tl_node.specs.declared.work.Outside.{Outside as TheOutside}
use Rattle.tl_node.specs.declared.work.Work.TheVariants as work
use Rattle.tl_node.proofs.Opening.{left_fits, left_stands, node_left}

-- what is said of the present statement of a node with so many answers
abbrev pub says_it : ℕ → Answer → Said
says_it done told = record { statement = done + 1; answer = told; answered = true }

-- what the law says of a reply at which a node leaves its statement with this answer
pub record IsLeaving (mid : Core) (n : Node) (sound : Heard) (statement : Bound) (later : List Bound) (told : Answer) : Type 0 where
  pub left : is_empty n.todo ≡ false
  pub answers : n.answers ≡ mid.answers.items
  pub not_strange : is_strange_to mid.layout mid.catalog n sound ≡ false
  pub no_end : is_ending n.doing ≡ false
  pub takes_is : (a : Answer) → takes mid.layout mid.catalog n sound a ≡ node_left mid later told
  pub means : (a : Answer) → MayMean mid.layout mid.catalog n sound a
  pub says_is : (commits : List Commit) (a : Answer)
      → says_at mid.layout mid.catalog commits n sound a ≡ entry.Said n.number (statement_in n.todo) (says_it (length mid.answers.items) told) ∷ []

module _ (mid new : Core) (n : Node) (sound : Heard) (heard_as : Reply) (statement : Bound) (later : List Bound) (told : Answer)
    (todo_is : drop (length mid.answers.items) mid.statements ≡ statement ∷ later) (law : IsLeaving mid n sound statement later told) where
  left_says : (o : TheOutside) (said : Said) → LeavesSo mid told new o said
      → Says mid.layout mid.catalog n sound heard_as mark.Quiet new (work.Outside o) said
  left_says o said left = record {
    fits = left_fits mid new statement later told o said todo_is left;
    not_strange = law.not_strange;
    so = λ suits. record {
      stands = subst (λ m. StandsFor mid.layout mid.catalog m (value_of new (work.Outside o))) (sym (law.takes_is said.answer))
          (left_stands mid new statement later told o said todo_is left);
      means = law.means said.answer;
      entries = λ commits. law.says_is commits said.answer ∙ ap (λ s. entry.Said n.number (statement_in n.todo) s ∷ []) (sym left.said_is);
    };
  }

  pub left_wants : new.answers.items ≡ mid.answers.items → IsHeld n new × Wants mid.layout mid.catalog n sound heard_as mark.Quiet
  left_wants kept = (
    record { left = law.left; answers = kept ∙ sym law.answers },
    record { no_end = law.no_end; entries = λ strange commits. inl (ap unsaid (law.says_is commits answer.Begun)) },
  )

  pub left_comes : (result : Result Next NoMemory) → Leaves mid told new result → ComesTo mid.layout mid.catalog n sound heard_as new mark.Quiet result
  left_comes (Ok (next.Says (work.Outside o) said)) left = left_says o said left
  left_comes (Ok other) left = absurd left
  left_comes (Err fault) kept = left_wants kept.answers

-- ---- the settings, the catalog, the statements and the number stay

pub stays_left : (old new : Core) (told : Answer) (result : Result Next NoMemory) → Leaves old told new result → Stays old new
stays_left old new told (Ok (next.Says (work.Outside o) said)) left = record {
  layout = ap (λ (c : Core). c.layout) left.rest;
  catalog = ap (λ (c : Core). c.catalog) left.rest;
  statements = ap (λ (c : Core). c.statements) left.rest;
  number = ap (λ (c : Core). c.number) left.rest;
}
stays_left old new told (Ok other) left = absurd left
stays_left old new told (Err fault) kept = record {
  layout = ap (λ (c : Core). c.layout) kept.rest;
  catalog = ap (λ (c : Core). c.catalog) kept.rest;
  statements = ap (λ (c : Core). c.statements) kept.rest;
  number = ap (λ (c : Core). c.number) kept.rest;
}

pub stays_learnt : (old new : Core) (floor : TidSet) (result : Result Next NoMemory) → Learns old floor new result → Stays old new
stays_learnt old new floor (Ok next) left = let s : Stays (learns old floor) new = stays_left (learns old floor) new answer.Outside (Ok next) left in
    record { layout = s.layout; catalog = s.catalog; statements = s.statements; number = s.number }
stays_learnt old new floor (Err fault) kept = kept.stays

-- the low-water mark is noted, and the statement answered
pub learnt_left : (old mid new : Core) (floor : TidSet) (result : Result Next NoMemory) → mid ≡ learns old floor → Leaves mid answer.Outside new result
    → Learns old floor new result
learnt_left old mid new floor (Ok next) e left = subst (λ c. Leaves c answer.Outside new (Ok next)) e left
learnt_left old mid new floor (Err fault) e left = let s : Stays mid new = stays_left mid new answer.Outside (Err fault) left in record {
  stays = record {
    layout = s.layout ∙ ap (λ (c : Core). c.layout) e;
    catalog = s.catalog ∙ ap (λ (c : Core). c.catalog) e;
    statements = s.statements ∙ ap (λ (c : Core). c.statements) e;
    number = s.number ∙ ap (λ (c : Core). c.number) e;
  };
  answers = left.answers ∙ ap (λ (c : Core). c.answers.items) e;
}
