-- What a call of the program promises, for each way in which it can end.
use Rattle.std.specs.Prelude.{◌≡◌, ◌⊎◌, ℕ, ◌+◌, ◌<◌, ◌≤◌, ◌^◌, List, [], ◌∷◌, ◌++◌, Option, Contains, IfSome, IsOk, length}
use Rattle.std.specs.declared.option.Option.TheVariants.{Some, None}
use Rattle.std.specs.declared.result.Result.TheVariants.{Ok, Err}
use Rattle.std.specs.Option.{IsSomeAnd}
use Rattle.tl_base.specs.Along.{Along}
use Rattle.tl_base.specs.declared.place.Settings.{Settings}
use Rattle.tl_io.specs.Faults.{Rose}
use Rattle.tl_io.specs.Told.{prepend, append, Loses, GainsPart, IsAtEnd}
use Rattle.tl_isolation.specs.declared.entry.Answer.TheVariants as answer
use Rattle.tl_isolation.specs.declared.entry.Ending.TheVariants as ending
use Rattle.tl_isolation.specs.declared.entry.Entry.TheVariants as entry
use Rattle.tl_isolation.specs.declared.script.Script.{Script}
use Rattle.tl_isolation.specs.declared.script.Session.{Session}
use Rattle.tl_isolation.specs.History.{IsHistory, state_after}
use Rattle.tl_isolation.specs.Script.{IsAnswered, SpeaksAt, answers_by, setup_of}
use Rattle.tl_protocol.specs.Stands.{StandsFor}
use Rattle.tl_protocol.specs.World.{World}
use Rattle.tl_journal.specs.declared.event.Event.{Event}
use Rattle.tl_journal.specs.declared.event.Journal.{Journal}
use Rattle.tl_journal.specs.Journal.{entries_told, session_of}
use Rattle.tl_journal.specs.Binding.{IsBound}
use Rattle.tl_journal.specs.Law.{BeginsWithFirst, Holds, IsMended, IsNotStrange}
use Rattle.tl_journal.specs.Clashes.{ClashesStand}
use Rattle.tl_journal.specs.Recovered.{RecoversWhole}
use Rattle.tl_journal.specs.Schedule.{vanish_of}
use Rattle.tl_script.specs.declared.fault.ScriptKind.{ScriptKind}
use Rattle.tl_script.specs.Script.{script_of}
use Rattle.tl_render.specs.Printed.{printed}
use Rattle.tl_journal.specs.Promises.{Ended}
use Rattle.tl_journal.specs.Outcome.{HasRun}
use Rattle.tl_tell.specs.declared.ended.Reason.{Reason}
use Rattle.tl_tell.specs.declared.ended.Reason.TheVariants as reason
use Rattle.tl_tell.specs.Words.{words_of}

-- the greatest number of bytes of a script
abbrev pub most_bytes : ℕ
most_bytes = 1048576

-- what is seen of the input and the output before and after a call: the bytes left to read, the bytes taken, and the
-- counts of faults
pub record Ends : Type 0 where
  pub left : Option (List ℕ)
  pub read_faults : ℕ
  pub held : Option (List ℕ)
  pub write_faults : ℕ

-- the input was read to its end
pub record IsWholeInput (before after : Option (List ℕ)) (bytes : List ℕ) : Type 0 where
  pub within : length bytes ≤ most_bytes
  pub read : before ≡ prepend bytes after
  pub end : IsAtEnd after

-- after these events what the shards and the managers hold stands for the tables of the history so far
abbrev pub Stood : Script → Settings → List Event → Type 0
Stood script settings past =
    (w : World) × Holds script settings past w × StandsFor w (state_after (setup_of script settings) (entries_told past)) (entries_told past)

-- the journal is one of a run of the script; its entries are one history, which speaks the script, each session to its last
-- statement or to the end of its node
pub record IsOneHistory (script : Script) (settings : Settings) (events : List Event) : Type 0 where
  -- the script is such as the reader lets through
  pub bound : IsBound script settings
  pub run : HasRun script settings events
  pub history : IsHistory (setup_of script settings) (entries_told events)
  pub speaks : Along (SpeaksAt script settings) [] (entries_told events)
  pub whole : (node : ℕ) (session : Session) → session_of script node ≡ Some session → IsAnswered (entries_told events) session
  -- all statements of a node without @vanish are answered, unless it spent its budget or met want of memory
  pub answers : (node : ℕ) (session : Session) → session_of script node ≡ Some session → vanish_of script node ≡ None
      → (length (answers_by node (entries_told events)) ≡ length session.statements)
      ⊎ (Ended node ending.Spent events ⊎ Ended node ending.OutOfMemory events)
  -- one node alone is answered no conflict
  pub alone : length script.sessions ≤ 1 → (node statement rival : ℕ) → Contains (entries_told events) (entry.Answered node statement (answer.Conflict rival)) → ⊥
  -- at each moment the store stands for the tables
  pub stands : (past rest : List Event) → events ≡ past ++ rest → Stood script settings past
  -- and what a vanished node left has exactly one who is to mend it
  pub mended : (past rest : List Event) → events ≡ past ++ rest → IsMended script settings past
  -- at each event: a transaction that begins sees exactly the first of the commits so far,
  pub first : (past : List Event) (e : Event) (rest : List Event) → events ≡ past ++ e ∷ rest → BeginsWithFirst script settings past e
  -- RECOVER is answered Recovered only once nothing is left of all the nodes that it was given,
  pub recovered : (past : List Event) (e : Event) (rest : List Event) → events ≡ past ++ e ∷ rest → RecoversWhole script settings past e
  -- a clash is told only where the rival's version stands in the record's cell, the first outside the snapshot,
  pub rivals : (past : List Event) (e : Event) (rest : List Event) → events ≡ past ++ e ∷ rest → ClashesStand script settings past e
  -- and no place replies anything strange
  pub heeded : (past : List Event) (e : Event) (rest : List Event) → events ≡ past ++ e ∷ rest → IsNotStrange script settings past e

-- so it is of each run of a script that can be run
abbrev pub RunsAreOneHistory : Type 0
RunsAreOneHistory = (script : Script) (settings : Settings) (events : List Event) → IsBound script settings → length script.rows < 2 ^ 32
    → 1 ≤ settings.shards → settings.shards ≤ 16 → 1 ≤ settings.managers → settings.managers ≤ 4 → HasRun script settings events
    → IsOneHistory script settings events

-- the words give the settings, the input is the script, and the journal is that of its run
pub record Ran (words : List (List ℕ)) (before after : Ends) (journal : Journal) : Type 0 where
  pub bytes : List ℕ
  pub script : Script
  pub settings : Settings
  pub words_are : words_of words ≡ Ok settings
  pub input : IsWholeInput before.left after.left bytes
  pub stands_for : script_of bytes ≡ Ok script
  pub history : IsOneHistory script settings journal.events

-- nothing was run or written
pub record IsSilent (before after : Ends) (journal : Journal) : Type 0 where
  pub unwritten : after.held ≡ before.held
  pub empty : journal.events ≡ []

-- what a call that ended for this reason left as it was, as a whole: the output unless a run came to its end, and the input too
-- where a word was refused
abbrev pub Leaves : {S K : Type 0} → Reason → S → S → K → K → Type 0
Leaves (reason.Words place) source source' sink sink' = (source' ≡ source) × (sink' ≡ sink)
Leaves reason.Done source source' sink sink' = Unit {0}
Leaves reason.WriteFault source source' sink sink' = Unit {0}
Leaves why source source' sink sink' = sink' ≡ sink

-- what the run prints
abbrev pub text_of : Script → Settings → Journal → List ℕ
text_of script settings journal = printed script settings (entries_told journal.events)

-- the whole text was written
abbrev pub IsDone : List (List ℕ) → Ends → Ends → Journal → Type 0
IsDone words before after journal =
    (run : Ran words before after journal) × (after.held ≡ append before.held (text_of run.script run.settings journal))

-- a write failed, and a part of the text was written
abbrev pub IsCutShort : List (List ℕ) → Ends → Ends → Journal → Type 0
IsCutShort words before after journal =
    (run : Ran words before after journal)
    × GainsPart (text_of run.script run.settings journal) before.held after.held
    × Rose before.write_faults after.write_faults

-- the words are those of the command line
abbrev pub AreWords : List (List ℕ) → Type 0
AreWords words = IsOk (words_of words)

-- the input has a fault, and this is the first one
abbrev pub IsFaulty : Option (List ℕ) → Option (List ℕ) → ℕ → ScriptKind → Type 0
IsFaulty before after line kind =
    (bytes : List ℕ) × IsWholeInput before after bytes × (script_of bytes ≡ Err (record { line = line; kind = kind }))

-- more bytes were read than a script may have
abbrev pub IsTooLong : Option (List ℕ) → Option (List ℕ) → Type 0
IsTooLong before after = Loses (most_bytes + 1) before after × IfSome before (λ told. most_bytes < length told)

-- what stands where a call on these words ended for this reason
abbrev pub Keeps : List (List ℕ) → Ends → Ends → Reason → Journal → Type 0
Keeps words before after (reason.Words place) journal = (words_of words ≡ Err place) × (after ≡ before) × IsSilent before after journal
Keeps words before after reason.ReadFault journal = AreWords words × Rose before.read_faults after.read_faults × IsSilent before after journal
Keeps words before after reason.TooLong journal = AreWords words × IsTooLong before.left after.left × IsSilent before after journal
Keeps words before after (reason.Script line kind) journal = AreWords words × IsFaulty before.left after.left line kind × IsSilent before after journal
Keeps words before after reason.WriteFault journal = IsCutShort words before after journal
Keeps words before after reason.NoMemory journal = AreWords words × IsSilent before after journal
Keeps words before after reason.Done journal = IsDone words before after journal

-- words of the command line, a whole script that is told, and no fault of reading or writing
pub record IsFine (words : List (List ℕ)) (before after : Ends) : Type 0 where
  pub words_are : AreWords words
  pub script : IsSomeAnd before.left (λ bytes. (length bytes ≤ most_bytes) × IsOk (script_of bytes))
  pub reads : Rose before.read_faults after.read_faults → ⊥
  pub writes : Rose before.write_faults after.write_faults → ⊥
