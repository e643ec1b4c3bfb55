-- What another node says, or that one vanishes, is no answer of this node and begins no transaction of it.
use Rattle.std.proofs.Common.{◌≡◌, ℕ, ◌==◌, Bool, true, false, List, [], ◌∷◌, ◌++◌, Option, Some, None, refl, sym, ap, ◌∙◌, subst}
use Rattle.std.specs.Prelude.{unwrap_or}
use Rattle.std.specs.List.{AllByRecursion}
use Rattle.std.proofs.lemmas.Bool.{ne_eqb}
use Rattle.tl_base.specs.declared.place.Settings.{Settings}
use Rattle.tl_schema.specs.declared.catalog.Catalog.{Catalog}
use Rattle.tl_manager.specs.declared.request.ManagerReply.TheVariants as reply
use Rattle.tl_versions.specs.Versions.{stranger}
use Rattle.tl_write.specs.declared.write.Write.{Write}
use Rattle.tl_isolation.specs.declared.bound.Bound.{Bound}
use Rattle.tl_isolation.specs.declared.bound.Bound.TheVariants as bound
use Rattle.tl_isolation.specs.declared.entry.Answer.{Answer}
use Rattle.tl_isolation.specs.declared.entry.Answer.TheVariants as answer
use Rattle.tl_isolation.specs.declared.entry.Ending.{Ending as Ends}
use Rattle.tl_isolation.specs.declared.entry.Entry.{Entry}
use Rattle.tl_isolation.specs.declared.entry.Entry.TheVariants as entry
use Rattle.tl_isolation.specs.declared.entry.Said.{Said}
use Rattle.tl_isolation.specs.declared.script.Script.{Script}
use Rattle.tl_isolation.specs.declared.script.Session.{Session}
use Rattle.tl_isolation.specs.declared.state.Commit.{Commit as Committed}
use Rattle.tl_isolation.specs.Script.{answer_at, answers_by, opened_after, opening_at, was_opened}
use Rattle.tl_protocol.specs.Store.{CommitsCell}
use Rattle.tl_protocol.specs.World.{Txn, Loaded, Decision, Commit, Undo}
use Rattle.tl_protocol.specs.Told.{count_in, finished_as, finished_so, is_answered, says}
use Rattle.tl_journal.specs.Ask.{Heard, Commits, Record, Stored, Told}
use Rattle.tl_journal.specs.Asks.{Course, ToBegin, ToRead, ToIdle, ToCommit, ToRecover, course_in, course_outside}
use Rattle.tl_journal.specs.Node.{Storing, Claimed, Lost, Doing, Outside, Noted, Inside, Reading, Trying, Stores, Closing, Ending, Recovering, Finishing, EndingLost, Node}
use Rattle.tl_journal.specs.Reads.{Read, Reads}
use Rattle.tl_journal.specs.Says.{says_at, says_begun, says_closing, says_commit, says_doing, says_end_lost, says_ending, says_finishing, says_idle, says_inside, says_noted, says_outside, says_read, says_recovered, says_recovering, says_rival, says_statement, says_storing, statement_number}
use Rattle.tl_journal.specs.Takes.{after_reply}
use Rattle.tl_journal.proofs.Speaking.{SpeakIs, SuitsScript, quiet}

-- the entry answers no statement of the node, and begins and opens no transaction of it
abbrev pub IsUnsaid : ℕ → Entry → Type 0
IsUnsaid n e = (answer_at n e ≡ None) × (opening_at n e ≡ None)

abbrev pub AreUnsaid : ℕ → List Entry → Type 0
AreUnsaid n es = AllByRecursion (IsUnsaid n) es

unsaid_answers : (n : ℕ) (es : List Entry) → AreUnsaid n es → answers_by n es ≡ []
unsaid_answers n [] h = refl
unsaid_answers n (e ∷ es) h = rw h.0.0 (unsaid_answers n es h.1)

unsaid_opened : (n : ℕ) (opened : Bool) (es : List Entry) → AreUnsaid n es → opened_after n opened es ≡ opened
unsaid_opened n opened [] h = refl
unsaid_opened n opened (e ∷ es) h = ap (λ o. opened_after n (unwrap_or o opened) es) h.0.1 ∙ unsaid_opened n opened es h.1

-- of the node nothing has changed
pub speaks_still : (script : Script) (entries : List Entry) (session : Session) (node : Node) → SpeakIs script entries session node
    → (told : List Entry) → AreUnsaid node.number told → SpeakIs script (entries ++ told) session node
speaks_still script entries session node i told h =
    quiet script entries session node i node refl refl refl told (unsaid_answers node.number told h)
    (subst (λ b. SuitsScript b node.todo node.doing) (sym (unsaid_opened node.number (was_opened node.number entries) told h)) i.suits)

module _ (n m : ℕ) (apart : (m == n) ≡ false) where
  unsaid_said : (b : Bound) (s : Said) → IsUnsaid n (entry.Said m b s)
  unsaid_said b s = (rw apart refl, opens b)
    where
      opens : (b : Bound) → opening_at n (entry.Said m b s) ≡ None
      opens bound.Begin = rw apart refl
      opens b = refl

  unsaid_began : (tid first : ℕ) → IsUnsaid n (entry.Began m tid first)
  unsaid_began tid first = (refl, rw apart refl)

  unsaid_answered : (statement : ℕ) (told : Answer) → IsUnsaid n (entry.Answered m statement told)
  unsaid_answered statement told = (rw apart refl, refl)

unsaid_finished : (n : ℕ) (d : Decision) (tid : ℕ) → AreUnsaid n (finished_as d tid ∷ [])
unsaid_finished n Commit tid = ((refl, refl), tt)
unsaid_finished n (Undo rival) tid = ((refl, refl), tt)

unsaid_lost : (n : ℕ) (committed : Bool) (tid : ℕ) → AreUnsaid n (finished_so committed tid ∷ [])
unsaid_lost n true tid = ((refl, refl), tt)
unsaid_lost n false tid = ((refl, refl), tt)

unsaid_commit : (n : ℕ) (t : Txn) (heard : Heard) → AreUnsaid n (says_commit t heard)
unsaid_commit n t (Commits c) = ((refl, refl), tt)
unsaid_commit n t (Stored stamp) = ((refl, refl), tt)
unsaid_commit n t heard = tt

unsaid_storing : (n : ℕ) (s : Storing) (l : Option Loaded) (left : List Write) (heard : Heard) → AreUnsaid n (says_storing s l left heard)
unsaid_storing n s None (o ∷ left) (Record cell) = by (stranger s.txn.snapshot cell.versions)
  where
    by : (rival : Option ℕ) → AreUnsaid n (says_rival s rival)
    by None = tt
    by (Some rival) = ((refl, refl), tt)
unsaid_storing n s l left heard = tt

unsaid_closing : (n : ℕ) (t : Txn) (d : Decision) (c : Option CommitsCell) (heard : Heard) → AreUnsaid n (says_closing t d c heard)
unsaid_closing n t d (Some c) (Stored stamp) = unsaid_finished n d t.tid
unsaid_closing n t d c heard = tt

unsaid_finishing : (n : ℕ) (o : Lost) (committed : Bool) (c : Option CommitsCell) (heard : Heard) → AreUnsaid n (says_finishing o committed c heard)
unsaid_finishing n o committed (Some c) (Stored stamp) = unsaid_lost n committed o.tid
unsaid_finishing n o committed c heard = tt

module _ (settings : Settings) (catalog : Catalog) (commits : List Committed) (n : ℕ) (other : Node) (apart : (other.number == n) ≡ false) where
  unsaid_says : (b : Bound) (a : Answer) → IsUnsaid n (says other.number (statement_number other) b a)
  unsaid_says b a = unsaid_said n other.number apart b (record { statement = statement_number other; answer = a; answered = true })

  unsaid_statement : (b : Bound) (t : Txn) (a : Answer) → IsUnsaid n (says_statement other b t a)
  unsaid_statement b t a = unsaid_said n other.number apart b (record { statement = statement_number other; answer = a; answered = is_answered t.stage })

  unsaid_outside : (statement : Bound) (course : Course) (heard : Heard) → AreUnsaid n (says_outside other statement course heard)
  unsaid_outside statement ToBegin (Commits c) = ((refl, refl), tt)
  unsaid_outside statement ToIdle (Told (reply.FloorIs floor)) = (unsaid_says statement answer.Outside, tt)
  unsaid_outside statement (ToRecover gone) (Told reply.There) = (unsaid_says (bound.Recover gone) (answer.There gone), tt)
  unsaid_outside statement course heard = tt

  unsaid_begun : (statement : Bound) → AreUnsaid n (says_begun other statement)
  unsaid_begun bound.Begin = (unsaid_says bound.Begin answer.Begun, tt)
  unsaid_begun statement = tt

  unsaid_noted : (statement : Bound) (heard : Heard) → AreUnsaid n (says_noted commits other statement heard)
  unsaid_noted statement (Told (reply.Began tid snapshot floor)) = (unsaid_began n other.number apart tid (count_in snapshot commits), unsaid_begun statement)
  unsaid_noted statement heard = tt

  unsaid_read : (statement : Bound) (t : Txn) (o : Option Reads) (told : Answer) → AreUnsaid n (says_read other statement t o told)
  unsaid_read statement t None told = tt
  unsaid_read statement t (Some after) told = by after.left
    where
      by : (left : List Read) → AreUnsaid n (says_read other statement t (Some (record after { left = left })) told)
      by [] = (unsaid_statement statement t told, tt)
      by (read ∷ left) = tt

  unsaid_idle : (statement : Bound) (t : Txn) (heard : Heard) (told : Answer) → AreUnsaid n (says_idle other statement t heard told)
  unsaid_idle bound.Begin t (Told (reply.FloorIs floor)) told = (unsaid_says bound.Begin answer.Nested, tt)
  unsaid_idle (bound.Recover gone) t (Told (reply.FloorIs floor)) told = (unsaid_says (bound.Recover gone) answer.Nested, tt)
  unsaid_idle statement t (Told (reply.FloorIs floor)) told = (unsaid_statement statement t told, tt)
  unsaid_idle statement t heard told = tt

  unsaid_inside : (statement : Bound) (t : Txn) (course : Course) (heard : Heard) (told : Answer) → AreUnsaid n (says_inside settings other statement t course heard told)
  unsaid_inside statement t (ToRead reads) heard told = unsaid_read statement t (after_reply settings t.snapshot reads reads.left heard) told
  unsaid_inside statement t ToIdle heard told = unsaid_idle statement t heard told
  unsaid_inside statement t ToCommit heard told = unsaid_commit n t heard
  unsaid_inside statement t course heard told = tt

  unsaid_ending : (told : Answer) (heard : Heard) → AreUnsaid n (says_ending other told heard)
  unsaid_ending told (Told reply.Ended) = (unsaid_answered n other.number apart (statement_number other) told, tt)
  unsaid_ending told heard = tt

  unsaid_recovered : (c : Claimed) (tids left : List ℕ) → AreUnsaid n (says_recovered other c tids left)
  unsaid_recovered c [] [] = (unsaid_says (bound.Recover c.node) (answer.Recovered c.node), tt)
  unsaid_recovered c tids left = tt

  unsaid_recovering : (c : Claimed) (left : List ℕ) (heard : Heard) → AreUnsaid n (says_recovering other c left heard)
  unsaid_recovering c (d ∷ left) (Told (reply.Orphaned tids)) = unsaid_recovered c tids left
  unsaid_recovering c left heard = tt

  unsaid_end_lost : (c : Claimed) (o : Lost) (heard : Heard) → AreUnsaid n (says_end_lost other c o heard)
  unsaid_end_lost c o (Told reply.Ended) = unsaid_recovered c o.others c.left
  unsaid_end_lost c o heard = tt

  unsaid_doing : (statement : Bound) (doing : Doing) (heard : Heard) (told : Answer) → AreUnsaid n (says_doing settings catalog commits other statement doing heard told)
  unsaid_doing statement Outside heard told = unsaid_outside statement (course_outside statement) heard
  unsaid_doing statement (Noted seen) heard told = unsaid_noted statement heard
  unsaid_doing statement (Inside t) heard told = unsaid_inside statement t (course_in catalog t.stage statement) heard told
  unsaid_doing statement (Reading t reads) heard told = unsaid_read statement t (after_reply settings t.snapshot reads reads.left heard) told
  unsaid_doing statement (Trying t) heard told = unsaid_commit n t heard
  unsaid_doing statement (Stores s l) heard told = unsaid_storing n s l s.left heard
  unsaid_doing statement (Closing t d c) heard told = unsaid_closing n t d c heard
  unsaid_doing statement (Ending tid said_so) heard told = unsaid_ending said_so heard
  unsaid_doing statement (Recovering c) heard told = unsaid_recovering c c.left heard
  unsaid_doing statement (Finishing c o committed x) heard told = unsaid_finishing n o committed x heard
  unsaid_doing statement (EndingLost c o) heard told = unsaid_end_lost c o heard
  unsaid_doing statement doing heard told = tt

unsaid_at : (settings : Settings) (catalog : Catalog) (commits : List Committed) (n : ℕ) (other : Node) (todo : List Bound) (heard : Heard) (told : Answer)
    → (other.number == n) ≡ false → AreUnsaid n (says_at settings catalog commits (record other { todo = todo }) heard told)
unsaid_at settings catalog commits n other [] heard told apart = tt
unsaid_at settings catalog commits n other (statement ∷ later) heard told apart =
    unsaid_doing settings catalog commits n (record other { todo = statement ∷ later }) apart statement other.doing heard told

-- what another node says
pub says_elsewhere : (settings : Settings) (catalog : Catalog) (commits : List Committed) (n : ℕ) (other : Node) (heard : Heard) (told : Answer)
    → (other.number ≡ n → ⊥) → AreUnsaid n (says_at settings catalog commits other heard told)
says_elsewhere settings catalog commits n other heard told apart = unsaid_at settings catalog commits n other other.todo heard told (ne_eqb other.number n apart)

-- leaves a node where it was
pub speaks_elsewhere : (script : Script) (settings : Settings) (commits : List Committed) (entries : List Entry) (session : Session) (node other : Node)
    (heard : Heard) (told : Answer) → (other.number ≡ node.number → ⊥) → SpeakIs script entries session node
    → SpeakIs script (entries ++ says_at settings script.catalog commits other heard told) session node
speaks_elsewhere script settings commits entries session node other heard told apart i =
    speaks_still script entries session node i (says_at settings script.catalog commits other heard told)
    (says_elsewhere settings script.catalog commits node.number other heard told apart)

-- so does a node that vanishes, be it the node itself
pub speaks_past : (script : Script) (entries : List Entry) (session : Session) (node : Node) (m : ℕ) (ending : Ends) → SpeakIs script entries session node
    → SpeakIs script (entries ++ entry.Vanished m ending ∷ []) session node
speaks_past script entries session node m ending i = speaks_still script entries session node i (entry.Vanished m ending ∷ []) ((refl, refl), tt)
