-- Where nothing is said nothing is to be meant, and what is told of want of memory.
use Rattle.std.proofs.Common.{◌≡◌, ℕ, Bool, true, false, List, [], ◌∷◌, ◌++◌, Option, Some, None, refl, sym, ap, ◌∙◌, subst}
use Rattle.std.specs.Prelude.{◌||◌}
use Rattle.std.specs.List.{list_any}
use Rattle.std.proofs.lemmas.Bool.{or_parts}
use Rattle.tl_lemmas.proofs.Tests.{never_both}
use Rattle.tl_base.specs.declared.place.Settings.{Settings}
use Rattle.tl_schema.specs.declared.catalog.Catalog.{Catalog}
use Rattle.tl_descriptor.specs.Tids.{TidSet}
use Rattle.tl_manager.specs.declared.mark.Mark.{Mark}
use Rattle.tl_manager.specs.declared.mark.Mark.TheVariants as mark
use Rattle.tl_manager.specs.declared.request.ManagerReply.TheVariants as manager
use Rattle.tl_manager.specs.declared.request.Reply.{Reply}
use Rattle.tl_manager.specs.declared.request.Reply.TheVariants as reply
use Rattle.tl_isolation.specs.declared.bound.Bound.{Bound}
use Rattle.tl_isolation.specs.declared.bound.Bound.TheVariants as bound
use Rattle.tl_isolation.specs.declared.entry.Answer.{Answer}
use Rattle.tl_isolation.specs.declared.entry.Answer.TheVariants as answer
use Rattle.tl_isolation.specs.declared.entry.Entry.{Entry}
use Rattle.tl_isolation.specs.declared.entry.Entry.TheVariants as entry
use Rattle.tl_isolation.specs.declared.state.Commit.{Commit as Committed}
use Rattle.tl_protocol.specs.World.{Txn}
use Rattle.tl_journal.specs.Ask.{Heard, Told}
use Rattle.tl_journal.specs.Asks.{Course, ToRead, ToIdle, course_in}
use Rattle.tl_journal.specs.Journal.{answer_said}
use Rattle.tl_journal.specs.Memory.{has_said, is_ending, is_said, unsaid}
use Rattle.tl_journal.specs.Node.{Doing, Inside, Reading, Ending, Node}
use Rattle.tl_journal.specs.Reads.{Read, Reads}
use Rattle.tl_journal.specs.Says.{says_at, says_doing, says_ending, says_idle, says_inside, says_read}
use Rattle.tl_journal.specs.Takes.{MayMean, MeansDoing, MeansIdle, MeansInside, MeansRead, after_reply}
use Rattle.tl_node.specs.After.{began, marked}

-- a statement is said
abbrev pub is_saying : Entry → Bool
is_saying (entry.Said node bound said) = true
is_saying e = false

abbrev pub are_saying : List Entry → Bool
are_saying entries = list_any is_saying entries

-- ---- lists of entries

either_false : (a b : Bool) → a ≡ false → b ≡ false → (a || b) ≡ false
either_false false false e f = refl
either_false false true e f = cc
either_false true b e f = cc

saying_said : (e : Entry) → is_said e ≡ false → is_saying e ≡ false
saying_said (entry.Said node bound said) f = f
saying_said e f = refl

-- where neither an answer nor a clash is told no statement is said
pub unsaid_saying : (es : List Entry) → has_said es ≡ false → are_saying es ≡ false
unsaid_saying [] f = refl
unsaid_saying (e ∷ es) f =
    let both = or_parts (is_said e) (has_said es) f in
    either_false (is_saying e) (are_saying es) (saying_said e both.0) (unsaid_saying es both.1)

pub unsaid_whole : (es : List Entry) → has_said es ≡ false → unsaid es ≡ es
unsaid_whole [] f = refl
unsaid_whole (e ∷ es) f = let both = or_parts (is_said e) (has_said es) f in rw both.0 (ap (λ xs. e ∷ xs) (unsaid_whole es both.1))

pub unsaid_not_said : (es : List Entry) → has_said (unsaid es) ≡ false
unsaid_not_said [] = refl
unsaid_not_said (e ∷ es) = by (is_said e) refl (unsaid_not_said es)
  where
    by : (b : Bool) → is_said e ≡ b → has_said (unsaid es) ≡ false → has_said (unsaid (e ∷ es)) ≡ false
    by true f none = rw f none
    by false f none = rw f (either_false (is_said e) (has_said (unsaid es)) f none)

answers_none : (e : Entry) (es : List Entry) → is_saying e ≡ false → answer_said (e ∷ es) ≡ answer_said es
answers_none (entry.Said node bound said) es f = cc
answers_none e es f = refl

pub answer_behind : (es ds : List Entry) → are_saying es ≡ false → answer_said (es ++ ds) ≡ answer_said ds
answer_behind [] ds f = refl
answer_behind (e ∷ es) ds f =
    let both = or_parts (is_saying e) (are_saying es) f in
    answers_none e (es ++ ds) both.0 ∙ answer_behind es ds both.1

pub answer_none : (es : List Entry) → are_saying es ≡ false → answer_said es ≡ answer.Begun
answer_none [] f = refl
answer_none (e ∷ es) f =
    let both = or_parts (is_saying e) (are_saying es) f in
    answers_none e es both.0 ∙ answer_none es both.1

-- the entry of a mark says no statement
pub marked_saying : (commits : List Committed) (number : ℕ) (p : Reply) (m : Mark) → are_saying (marked commits number p m) ≡ false
marked_saying commits number p (mark.Began tid) = by p
  where
    by : (p : Reply) → are_saying (began commits number tid p) ≡ false
    by (reply.Manager (manager.Began other snapshot floor)) = refl
    by p = refl
marked_saying commits number p m = refl

-- ---- where nothing is said nothing is to be meant

-- the one request of a statement without reads is answered by the low-water mark
abbrev pub IsHeeded : Catalog → Bound → Doing → Heard → Type 0
IsHeeded catalog statement (Inside t) h = course_in catalog t.stage statement ≡ ToIdle → (floor : TidSet) × (h ≡ Told (manager.FloorIs floor))
IsHeeded catalog statement doing h = Unit {0}

abbrev pub IsHeededAt : Catalog → Node → Heard → Type 0
IsHeededAt catalog n h = by n.todo
  where
    by : List Bound → Type 0
    by [] = Unit {0}
    by (statement ∷ later) = IsHeeded catalog statement n.doing h

module _ (settings : Settings) (catalog : Catalog) (n : Node) (statement : Bound) (told : Answer) where
  read_meant : (t : Txn) (o : Option Reads) → are_saying (says_read n statement t o told) ≡ false → MeansRead catalog statement t o told
  read_meant t None f = tt
  read_meant t (Some after) f = by after.left f
    where
      by : (left : List Read) → are_saying (says_read n statement t (Some (record after { left = left })) told) ≡ false
          → MeansRead catalog statement t (Some (record after { left = left })) told
      by [] f = absurd (never_both true refl f)
      by (read ∷ left) f = tt

  idle_meant : (b : Bound) (t : Txn) (floor : TidSet) → are_saying (says_idle n b t (Told (manager.FloorIs floor)) told) ≡ false → MeansIdle catalog b t told
  idle_meant bound.Begin t floor f = tt
  idle_meant (bound.Recover gone) t floor f = tt
  idle_meant b t floor f = absurd (never_both true refl f)

  inside_meant : (t : Txn) (course : Course) (h : Heard) → (course ≡ ToIdle → (floor : TidSet) × (h ≡ Told (manager.FloorIs floor)))
      → are_saying (says_inside settings n statement t course h told) ≡ false → MeansInside settings catalog statement t course h told
  inside_meant t (ToRead reads) h heeds f = read_meant t (after_reply settings t.snapshot reads reads.left h) f
  inside_meant t ToIdle h heeds f =
      let told_so = heeds refl in
      idle_meant statement t told_so.0 (subst (λ x. are_saying (says_idle n statement t x told) ≡ false) told_so.1 f)
  inside_meant t course h heeds f = tt

  doing_meant : (d : Doing) (h : Heard) (commits : List Committed) → IsHeeded catalog statement d h
      → are_saying (says_doing settings catalog commits n statement d h told) ≡ false → MeansDoing settings catalog statement d h told
  doing_meant (Inside t) h commits heeds f = inside_meant t (course_in catalog t.stage statement) h heeds f
  doing_meant (Reading t reads) h commits heeds f = read_meant t (after_reply settings t.snapshot reads reads.left h) f
  doing_meant d h commits heeds f = tt

pub nothing_meant : (settings : Settings) (catalog : Catalog) (commits : List Committed) (n : Node) (h : Heard) (told : Answer) → IsHeededAt catalog n h
    → are_saying (says_at settings catalog commits n h told) ≡ false → MayMean settings catalog n h told
nothing_meant settings catalog commits n h told heeds f = by n.todo heeds f
  where
    by : (todo : List Bound) → IsHeededAt catalog (record n { todo = todo }) h → are_saying (says_at settings catalog commits (record n { todo = todo }) h told) ≡ false
        → MayMean settings catalog (record n { todo = todo }) h told
    by [] heeds f = tt
    by (statement ∷ later) heeds f = doing_meant settings catalog (record n { todo = statement ∷ later }) statement told n.doing h commits heeds f

-- ---- a node that is to end its transaction says nothing more in it

ending_quiet : (n : Node) (told : Answer) (h : Heard) → has_said (says_ending n told h) ≡ false
ending_quiet n told (Told manager.Ended) = refl
ending_quiet n told h = refl

doing_ends : (settings : Settings) (catalog : Catalog) (commits : List Committed) (n : Node) (statement : Bound) (d : Doing) (h : Heard) (told : Answer)
    → has_said (says_doing settings catalog commits n statement d h told) ≡ true → is_ending d ≡ false
doing_ends settings catalog commits n statement (Ending tid so) h told f = absurd (never_both (has_said (says_ending n so h)) f (ending_quiet n so h))
doing_ends settings catalog commits n statement d h told f = refl

pub said_no_end : (settings : Settings) (catalog : Catalog) (commits : List Committed) (n : Node) (h : Heard) (told : Answer)
    → has_said (says_at settings catalog commits n h told) ≡ true → is_ending n.doing ≡ false
said_no_end settings catalog commits n h told f = by n.todo f
  where
    by : (todo : List Bound) → has_said (says_at settings catalog commits (record n { todo = todo }) h told) ≡ true → is_ending n.doing ≡ false
    by [] f = absurd (never_both true refl (sym f))
    by (statement ∷ later) f = doing_ends settings catalog commits (record n { todo = statement ∷ later }) statement n.doing h told f
