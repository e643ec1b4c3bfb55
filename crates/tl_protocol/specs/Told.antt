-- What is told of a move.
use Rattle.std.specs.Prelude.{ℕ, Bool, true, false, List, [], ◌∷◌, filter, length, if◌then◌else◌}
use Rattle.tl_descriptor.specs.Tids.{TidSet, has}
use Rattle.tl_manager.specs.Floor.{newer}
use Rattle.tl_isolation.specs.declared.bound.Bound.{Bound}
use Rattle.tl_isolation.specs.declared.bound.Bound.TheVariants as bound
use Rattle.tl_isolation.specs.declared.entry.Answer.{Answer}
use Rattle.tl_isolation.specs.declared.entry.Answer.TheVariants as answer
use Rattle.tl_isolation.specs.declared.entry.Entry.{Entry}
use Rattle.tl_isolation.specs.declared.entry.Entry.TheVariants as entry
use Rattle.tl_isolation.specs.declared.state.Commit.{Commit as Committed}
use Rattle.tl_protocol.specs.World.{Stage, Fresh, Opened, Answering, Decision, Commit, Undo, World}
use Rattle.tl_protocol.specs.Move as move
use Rattle.tl_protocol.specs.Move.{Move}

-- how many of the commits are in the set
abbrev pub count_in : TidSet → List Committed → ℕ
count_in set commits = length (filter (λ (c : Committed). has set c.tid) commits)

-- an answer that stands at once
abbrev pub says : ℕ → ℕ → Bound → Answer → Entry
says n statement b told = entry.Said n b (record { statement = statement; answer = told; answered = true })

-- the answer of a SELECT or a change waits for the commit where BEGIN didn't open the transaction
abbrev pub is_answered : Stage → Bool
is_answered Fresh = false
is_answered Opened = true
is_answered (Answering told) = false

abbrev pub says_in : Stage → ℕ → ℕ → Bound → Answer → Entry
says_in stage n statement b told = entry.Said n b (record { statement = statement; answer = told; answered = is_answered stage })

abbrev pub finished_as : Decision → ℕ → Entry
finished_as Commit tid = entry.Committed tid
finished_as (Undo rival) tid = entry.Undone tid

abbrev pub finished_so : Bool → ℕ → Entry
finished_so committed tid = if committed then entry.Committed tid else entry.Undone tid

-- what is told of a move, after these commits
abbrev pub told : List Committed → (w : World) → Move w → List Entry
told commits w (move.Ask n at) = entry.Asked n ∷ []
told commits w (move.Draw n seen at room) = []
told commits w (move.Bring n seen low at) = []
told commits w (move.Begin n tid seen floor at number low) = entry.Began n tid (count_in (newer (w.copies (w.home n)) seen) commits) ∷ []
told commits w (move.Learn n manager seen floor r seen_so low) = []
told commits w (move.Look n t facts looked at) = []
told commits w (move.Cover n t facts covers looked at right) = []
told commits w (move.SayBegun n statement t facts at fresh) = says n statement bound.Begin answer.Begun ∷ []
told commits w (move.SayNested n statement b t facts at opened nested) = says n statement b answer.Nested ∷ []
told commits w (move.SayOutside n statement b at outside) = says n statement b answer.Outside ∷ []
told commits w (move.SaySelect n statement query said t facts at takes means) = says_in t.stage n statement (bound.Select query) said ∷ []
told commits w (move.SayChange n statement edit said own t facts at takes suits means) = says_in t.stage n statement (bound.Change edit) said ∷ []
told commits w (move.Try n stamp t facts at may some absent above) = entry.Tried t.tid ∷ []
told commits w (move.TryNothing n t facts at may none) = entry.Tried t.tid ∷ []
told commits w (move.LoadOwn n k a at own new none) = []
told commits w (move.Clash n place rival o a at own new strange) = entry.Clash a.txn.tid rival place ∷ []
told commits w (move.StoreOwn n stamp floor a l at same above least) = []
told commits w (move.MovedOwn n a l at moved) = []
told commits w (move.Decide n stamp a at all same above) = []
told commits w (move.LoadUndo n k a rival at stored) = []
told commits w (move.StoreUndo n stamp a rival l at same above) = []
told commits w (move.MovedUndo n a rival l at moved) = []
told commits w (move.MarkUndone n stamp a rival at none same above) = []
told commits w (move.GiveUp n t facts at may) = []
told commits w (move.LoadCommits n t d at) = []
told commits w (move.StoreCommits n stamp t d c at same above) = finished_as d t.tid ∷ []
told commits w (move.MovedCommits n t d c at moved) = []
told commits w (move.End n statement tid said at) = entry.Answered n statement said ∷ []
told commits w (move.Vanish n ending r) = entry.Vanished n ending ∷ []
told commits w (move.There n statement gone at free none) = says n statement (bound.Recover gone) (answer.There gone) ∷ []
told commits w (move.Claim n gone also at free posted) = []
told commits w (move.FindOrphan n duties x d at left active) = []
told commits w (move.FindNone n duties d at left none) = []
told commits w (move.ReadLog n duties o at) = []
told commits w (move.LoadLost n k duties o log seen at named new) = []
told commits w (move.StoreLost n stamp duties o log seen l at same above) = []
told commits w (move.MovedLost n duties o log seen l at moved) = []
told commits w (move.MarkLost n stamp duties o log seen at all same above) = []
told commits w (move.LoadFinish n duties o committed at) = []
told commits w (move.StoreFinish n stamp duties o committed c at same above) = finished_so committed o.tid ∷ []
told commits w (move.MovedFinish n duties o committed c at moved) = []
told commits w (move.EndLost n duties o at) = []
told commits w (move.SayRecovered n statement duties at is_next done) =
    says n statement (bound.Recover duties.node) (answer.Recovered duties.node) ∷ []
