-- A request at whose reply the node wants memory: what is told of it speaks the script.
use Rattle.std.proofs.Common.{◌≡◌, ℕ, Bool, true, false, ◌⊎◌, List, [], ◌∷◌, ◌++◌, Option, Some, None, refl, sym, ap, subst, inl, inr}
use Rattle.std.specs.Prelude.{◌||◌, not, if◌then◌else◌}
use Rattle.tl_lemmas.proofs.Lists.{all_filter}
use Rattle.tl_base.specs.Along.{Along}
use Rattle.tl_base.specs.declared.place.Settings.{Settings}
use Rattle.tl_schema.specs.declared.catalog.Catalog.{Catalog}
use Rattle.tl_manager.specs.declared.request.ManagerReply.TheVariants as manager
use Rattle.tl_isolation.specs.declared.bound.Bound.{Bound}
use Rattle.tl_isolation.specs.declared.bound.Bound.TheVariants as bound
use Rattle.tl_isolation.specs.declared.entry.Answer.{Answer}
use Rattle.tl_isolation.specs.declared.entry.Entry.{Entry}
use Rattle.tl_isolation.specs.declared.entry.Entry.TheVariants as entry
use Rattle.tl_isolation.specs.declared.script.Script.{Script}
use Rattle.tl_isolation.specs.declared.script.Session.{Session}
use Rattle.tl_isolation.specs.declared.state.Commit.{Commit as Committed}
use Rattle.tl_isolation.specs.Script.{SpeaksAt, begins_transaction}
use Rattle.tl_protocol.specs.Told.{count_in}
use Rattle.tl_protocol.specs.World.{Decision, Txn, Loaded}
use Rattle.tl_versions.specs.Versions.{stranger}
use Rattle.tl_write.specs.declared.write.Write.{Write}
use Rattle.tl_protocol.specs.Store.{CommitsCell}
use Rattle.tl_journal.specs.Ask.{Heard, Commits, Record, Stored, Told}
use Rattle.tl_journal.specs.Asks.{Course, ToBegin, ToRead, ToIdle, ToCommit, ToRecover, course_in, course_outside}
use Rattle.tl_journal.specs.Memory.{cut_short, has_said, is_ending, is_said, unsaid}
use Rattle.tl_journal.specs.Node.{Claimed, Lost, Doing, Outside, Noted, Inside, Reading, Trying, Stores, Storing, Closing, Ending, Recovering, Finishing, EndingLost, Node}
use Rattle.tl_journal.specs.Reads.{Read, Reads}
use Rattle.tl_journal.specs.Says.{says_at, says_closing, says_commit, says_doing, says_end_lost, says_finishing, says_idle, says_inside, says_noted, says_outside, says_read, says_recovered, says_recovering, says_rival, says_storing}
use Rattle.tl_journal.specs.Takes.{after_reply}
use Rattle.tl_journal.proofs.Speaking.{SpeakIs, next_passes, quiet}
use Rattle.tl_journal.proofs.Unsaid.{IsUnsaid, says_elsewhere, speaks_still}

-- nothing but what is said is told
abbrev IsSilent : List Entry → Type 0
IsSilent es = has_said es ≡ true → unsaid es ≡ []

-- at most one entry
abbrev is_short : List Entry → Bool
is_short [] = true
is_short (e ∷ []) = true
is_short (e ∷ f ∷ es) = false

silent : (es : List Entry) → is_short es ≡ true → IsSilent es
silent [] s h = cc
silent (e ∷ []) s h = by (is_said e) h
  where
    by : (b : Bool) → (b || false) ≡ true → (if not b then e ∷ [] else []) ≡ []
    by true h = refl
    by false h = cc
silent (e ∷ f ∷ es) s h = cc

-- or else that BEGIN begins its transaction
abbrev IsBegun : ℕ → Bound → List Entry → Type 0
IsBegun n statement es = (tid : ℕ) × (first : ℕ) × (unsaid es ≡ entry.Began n tid first ∷ []) × (statement ≡ bound.Begin)

module _ (settings : Settings) (catalog : Catalog) (commits : List Committed) (node : Node) where
  short_outside : (statement : Bound) (course : Course) (heard : Heard) → is_short (says_outside node statement course heard) ≡ true
  short_outside statement ToBegin (Commits c) = refl
  short_outside statement ToIdle (Told (manager.FloorIs floor)) = refl
  short_outside statement (ToRecover gone) (Told manager.There) = refl
  short_outside statement course heard = refl

  short_read : (statement : Bound) (t : Txn) (after : Option Reads) (told : Answer) → is_short (says_read node statement t after told) ≡ true
  short_read statement t None told = refl
  short_read statement t (Some after) told = by after.left
    where
      by : (left : List Read) → is_short (says_read node statement t (Some (record after { left = left })) told) ≡ true
      by [] = refl
      by (read ∷ left) = refl

  short_idle : (statement : Bound) (t : Txn) (heard : Heard) (told : Answer) → is_short (says_idle node statement t heard told) ≡ true
  short_idle bound.Begin t (Told (manager.FloorIs floor)) told = refl
  short_idle (bound.Recover gone) t (Told (manager.FloorIs floor)) told = refl
  short_idle statement t (Told (manager.FloorIs floor)) told = refl
  short_idle statement t heard told = refl

  short_commit : (t : Txn) (heard : Heard) → is_short (says_commit t heard) ≡ true
  short_commit t (Commits c) = refl
  short_commit t (Stored stamp) = refl
  short_commit t heard = refl

  short_inside : (statement : Bound) (t : Txn) (course : Course) (heard : Heard) (told : Answer) → is_short (says_inside settings node statement t course heard told) ≡ true
  short_inside statement t (ToRead reads) heard told = short_read statement t (after_reply settings t.snapshot reads reads.left heard) told
  short_inside statement t ToIdle heard told = short_idle statement t heard told
  short_inside statement t ToCommit heard told = short_commit t heard
  short_inside statement t course heard told = refl

  short_recovered : (c : Claimed) (tids left : List ℕ) → is_short (says_recovered node c tids left) ≡ true
  short_recovered c [] [] = refl
  short_recovered c tids left = refl

  short_recovering : (c : Claimed) (left : List ℕ) (heard : Heard) → is_short (says_recovering node c left heard) ≡ true
  short_recovering c (d ∷ left) (Told (manager.Orphaned tids)) = short_recovered c tids left
  short_recovering c left heard = refl

  short_end_lost : (c : Claimed) (o : Lost) (heard : Heard) → is_short (says_end_lost node c o heard) ≡ true
  short_end_lost c o (Told manager.Ended) = short_recovered c o.others c.left
  short_end_lost c o heard = refl

  short_storing : (s : Storing) (l : Option Loaded) (left : List Write) (heard : Heard) → is_short (says_storing s l left heard) ≡ true
  short_storing s None (o ∷ left) (Record cell) = rival (stranger s.txn.snapshot cell.versions)
    where
      rival : (r : Option ℕ) → is_short (says_rival s r) ≡ true
      rival None = refl
      rival (Some r) = refl
  short_storing s l left heard = refl

  short_closing : (t : Txn) (d : Decision) (c : Option CommitsCell) (heard : Heard) → is_short (says_closing t d c heard) ≡ true
  short_closing t d (Some x) (Stored stamp) = refl
  short_closing t d c heard = refl

  short_finishing : (o : Lost) (committed : Bool) (x : Option CommitsCell) (heard : Heard) → is_short (says_finishing o committed x heard) ≡ true
  short_finishing o committed (Some x) (Stored stamp) = refl
  short_finishing o committed x heard = refl

  begun_noted : (statement : Bound) (heard : Heard) → has_said (says_noted commits node statement heard) ≡ true → IsBegun node.number statement (says_noted commits node statement heard)
  begun_noted bound.Begin (Told (manager.Began tid snapshot floor)) h = (tid, count_in snapshot commits, refl, refl)
  begun_noted statement (Told (manager.Began tid snapshot floor)) h = absurd cc
  begun_noted statement heard h = absurd cc

  told_cut : (statement : Bound) (doing : Doing) (heard : Heard) (told : Answer) → is_ending doing ≡ false → has_said (says_doing settings catalog commits node statement doing heard told) ≡ true
      → (unsaid (says_doing settings catalog commits node statement doing heard told) ≡ []) ⊎ IsBegun node.number statement (says_doing settings catalog commits node statement doing heard told)
  told_cut statement Outside heard told e h = inl (silent (says_outside node statement (course_outside statement) heard) (short_outside statement (course_outside statement) heard) h)
  told_cut statement (Noted seen) heard told e h = inr (begun_noted statement heard h)
  told_cut statement (Inside t) heard told e h =
      inl (silent (says_inside settings node statement t (course_in catalog t.stage statement) heard told) (short_inside statement t (course_in catalog t.stage statement) heard told) h)
  told_cut statement (Reading t reads) heard told e h =
      inl (silent (says_read node statement t (after_reply settings t.snapshot reads reads.left heard) told) (short_read statement t (after_reply settings t.snapshot reads reads.left heard) told) h)
  told_cut statement (Trying t) heard told e h = inl (silent (says_commit t heard) (short_commit t heard) h)
  told_cut statement (Stores s l) heard told e h = inl (silent (says_storing s l s.left heard) (short_storing s l s.left heard) h)
  told_cut statement (Closing t d c) heard told e h = inl (silent (says_closing t d c heard) (short_closing t d c heard) h)
  told_cut statement (Recovering c) heard told e h = inl (silent (says_recovering node c c.left heard) (short_recovering c c.left heard) h)
  told_cut statement (Finishing c o committed x) heard told e h = inl (silent (says_finishing o committed x heard) (short_finishing o committed x heard) h)
  told_cut statement (EndingLost c o) heard told e h = inl (silent (says_end_lost node c o heard) (short_end_lost c o heard) h)
  told_cut statement (Ending tid said_so) heard told e h = absurd cc
  told_cut statement doing heard told e h = absurd cc

module _ (script : Script) (settings : Settings) (commits : List Committed) (entries : List Entry) (session : Session) where
  abbrev SpokenSo : Node → Node → List Entry → Type 0
  SpokenSo node new told = Along (SpeaksAt script settings) entries told × SpeakIs script (entries ++ told) session new

  -- nothing is told, or that its transaction begins
  cut_by : (node : Node) (statement : Bound) (later : List Bound) (heard : Heard) (answer : Answer) (told : List Entry) → node.todo ≡ statement ∷ later → SpeakIs script entries session node
      → (unsaid told ≡ []) ⊎ IsBegun node.number statement told → SpokenSo node (cut_short settings script.catalog node heard answer) (unsaid told)
  cut_by node statement later heard answer told todo i (inl e) =
      subst (SpokenSo node (cut_short settings script.catalog node heard answer)) (sym e)
      (tt, quiet script entries session node i (cut_short settings script.catalog node heard answer) refl refl refl [] refl tt)
  cut_by node statement later heard answer told todo i (inr b) =
      subst (SpokenSo node (cut_short settings script.catalog node heard answer)) (sym b.2) (
        (next_passes script entries session node i begins_transaction statement later todo (ap begins_transaction b.3), tt),
        quiet script entries session node i (cut_short settings script.catalog node heard answer) refl refl refl (entry.Began node.number b.0 b.1 ∷ []) refl tt,
      )

  pub cut_speaks : (node : Node) (heard : Heard) (answer : Answer) → SpeakIs script entries session node → is_ending node.doing ≡ false
      → has_said (says_at settings script.catalog commits node heard answer) ≡ true
      → SpokenSo node (cut_short settings script.catalog node heard answer) (unsaid (says_at settings script.catalog commits node heard answer))
  cut_speaks node heard answer i e = by node.todo refl
    where
      by : (todo : List Bound) → node.todo ≡ todo → has_said (says_at settings script.catalog commits (record node { todo = todo }) heard answer) ≡ true
          → SpokenSo node (cut_short settings script.catalog node heard answer) (unsaid (says_at settings script.catalog commits (record node { todo = todo }) heard answer))
      by [] todo h = absurd cc
      by (statement ∷ later) todo h =
          cut_by node statement later heard answer (says_doing settings script.catalog commits (record node { todo = statement ∷ later }) statement node.doing heard answer) todo i
          (told_cut settings script.catalog commits (record node { todo = statement ∷ later }) statement node.doing heard answer e h)

-- and another node is where it was
pub cut_elsewhere : (script : Script) (settings : Settings) (commits : List Committed) (entries : List Entry) (session : Session) (node other : Node) (heard : Heard) (answer : Answer)
    → (other.number ≡ node.number → ⊥) → SpeakIs script entries session node → SpeakIs script (entries ++ unsaid (says_at settings script.catalog commits other heard answer)) session node
cut_elsewhere script settings commits entries session node other heard answer apart i =
    speaks_still script entries session node i (unsaid (says_at settings script.catalog commits other heard answer))
    (all_filter (IsUnsaid node.number) (IsUnsaid node.number) (λ (e : Entry). not (is_said e)) (λ e t h. h) (says_at settings script.catalog commits other heard answer)
    (says_elsewhere settings script.catalog commits node.number other heard answer apart))
