-- The state after a move.
use Rattle.std.specs.Prelude.{ℕ, ◌+◌, Bool, true, false, ◌&&◌, nat_lt, nat_le, List, [], ◌∷◌, Option, Some, None, map, if◌then◌else◌}
use Rattle.tl_descriptor.specs.Tids.{TidSet, has, inserted}
use Rattle.tl_logrec.specs.declared.entry.Flag.{Flag}
use Rattle.tl_logrec.specs.declared.entry.Flag.TheVariants as flag
use Rattle.tl_manager.specs.Floor.{newer}
use Rattle.tl_versions.specs.declared.version.Version.{Version}
use Rattle.tl_versions.specs.Versions.{prune, strip}
use Rattle.tl_versions.specs.Versions as versions
use Rattle.tl_write.specs.declared.write.Write.{Write}
use Rattle.tl_isolation.specs.declared.entry.Answer.{Answer}
use Rattle.tl_isolation.specs.Step.{commit_answer, undo_answer}
use Rattle.tl_protocol.specs.Store.{Key, LogCell, put, put_at, row_shown, written}
use Rattle.tl_protocol.specs.World.{Number, Carried, Ready, Begun, Stage, Fresh, Opened, Answering, Txn, Fact, Rows, Covers, Loaded, Decision, Commit, Undo, Phase, Idle, Noted, Drawn, Live, Trying, Undoing, Closing, Ending, Duties, Orphan, Recovery, NoDuty, Next, Reading, Stripping, Finishing, Closed, World}
use Rattle.tl_protocol.specs.Move as move
use Rattle.tl_protocol.specs.Move.{Move}

-- the 16 numbers above this one
abbrev pub is_drawn : ℕ → ℕ → Bool
is_drawn low t = nat_lt low t && nat_le t (low + 16)

-- these numbers are now here
abbrev pub numbered : ℕ → Number → (ℕ → Number) → ℕ → Number
numbered low x numbers t = if is_drawn low t then x else numbers t

abbrev pub begun_txn : ℕ → TidSet → Txn
begun_txn tid snapshot = record { tid = tid; snapshot = snapshot; own = []; stage = Fresh }

-- the stage once a statement is said
abbrev pub after_saying : Answer → Stage → Stage
after_saying told Fresh = Answering told
after_saying told Opened = Opened
after_saying told (Answering before) = Answering before

-- the answer that waits for the end
abbrev pub unanswered : Stage → Option Answer
unanswered Fresh = None
unanswered Opened = None
unanswered (Answering told) = Some told

-- what is answered at the end
abbrev pub end_answer : Stage → Decision → Answer
end_answer stage Commit = commit_answer (unanswered stage)
end_answer stage (Undo rival) = undo_answer rival (unanswered stage)

-- what was read: at these keys the rows that the snapshot shows
abbrev pub fact_of : World → TidSet → (Key → Bool) → Fact
fact_of w snapshot looked = Rows looked (λ k. row_shown snapshot (w.cells k).versions)

abbrev pub loaded : World → Key → Loaded
loaded w k = record { key = k; stamp = (w.cells k).stamp; versions = (w.cells k).versions }

abbrev pub log_cell : ℕ → ℕ → Flag → Txn → LogCell
log_cell stamp node flag t =
    record { stamp = stamp; entry = record { tid = t.tid; node = node; flag = flag; writes = map (λ (o : Write). o.key) t.own } }

abbrev pub marked : ℕ → Flag → LogCell → LogCell
marked stamp flag cell = record { stamp = stamp; entry = record cell.entry { flag = flag } }

-- the version that a transaction writes to the record
abbrev pub own_version : Key → Txn → Version
own_version k t = record { tid = t.tid; row = by (written k t.own) }
  where
    by : {A : Type 0} → Option (Option A) → Option A
    by None = None
    by (Some row) = row

abbrev pub with_phase : World → ℕ → Phase → World
with_phase w n phase = record w { phases = put n phase w.phases }

abbrev pub with_recovery : World → ℕ → Recovery → World
with_recovery w n recovery = record w { recoveries = put n recovery w.recoveries }

abbrev pub with_cell : World → Key → ℕ → List Version → World
with_cell w k stamp versions = record w { cells = put_at k (record { stamp = stamp; versions = versions }) w.cells }

abbrev pub with_log : World → ℕ → LogCell → World
with_log w tid cell = record w { logs = put tid (Some cell) w.logs }

abbrev pub with_commits : World → ℕ → TidSet → World
with_commits w stamp finished = record w { commits = record { stamp = stamp; finished = finished } }

-- the manager has seen this set, and the node knows its low-water mark
abbrev pub with_floor : World → ℕ → ℕ → TidSet → TidSet → World
with_floor w n manager copy floor =
    record w { copies = put manager copy w.copies; floors = put n (put manager floor (w.floors n)) w.floors }

-- the duties but this one
abbrev pub without : ℕ → Duties → Duties
without d duties = record duties { left = put d false duties.left }

-- the nodes that a vanishing recoverer leaves to be recovered
abbrev pub owed : Recovery → ℕ → Bool
owed NoDuty d = false
owed (Next duties) d = duties.all d
owed (Reading duties o) d = duties.all d
owed (Stripping duties o log seen l) d = duties.all d
owed (Finishing duties o committed c) d = duties.all d
owed (Closed duties o) d = duties.all d

-- what a recoverer does by the log cell
abbrev pub by_flag : Duties → Orphan → LogCell → Flag → Recovery
by_flag duties o log flag.Trying = Stripping duties o log (λ k. false) None
by_flag duties o log flag.Decided = Finishing duties o true None
by_flag duties o log flag.Undone = Finishing duties o false None

abbrev pub by_log : Duties → Orphan → Option LogCell → Recovery
by_log duties o None = Finishing duties o false None
by_log duties o (Some log) = by_flag duties o log log.entry.flag

-- a record is loaded that the log cell names: it is seen to where it has no version of the transaction
abbrev pub load_lost : World → Key → Duties → Orphan → LogCell → (Key → Bool) → Recovery
load_lost w k duties o log seen =
    if versions.is_written o.tid (w.cells k).versions then Stripping duties o log seen (Some (loaded w k))
    else Stripping duties o log (put_at k true seen) None

-- the commits cell is loaded: nothing is left but the end where it has the transaction
abbrev pub load_finish : World → Duties → Orphan → Bool → Recovery
load_finish w duties o committed =
    if has w.commits.finished o.tid then Closed duties o else Finishing duties o committed (Some w.commits)

abbrev pub next : (w : World) → Move w → World
next w (move.Ask n at) = with_phase w n (Noted w.commits.finished)
next w (move.Draw n seen at room) =
    record w {
      counter = w.counter + 16;
      numbers = numbered w.counter (Carried n) w.numbers;
      phases = put n (Drawn seen w.counter) w.phases;
    }
next w (move.Bring n seen low at) =
    record w { numbers = numbered low (Ready (w.home n)) w.numbers; phases = put n (Noted seen) w.phases }
next w (move.Begin n tid seen floor at number low) =
    let copy = newer (w.copies (w.home n)) seen in
    record (with_floor w n (w.home n) copy floor) {
      numbers = put tid (Begun n) w.numbers;
      active = put n (Some (record { tid = tid; node = n; snapshot = copy })) w.active;
      phases = put n (Live (begun_txn tid copy) []) w.phases;
    }
next w (move.Learn n manager seen floor r told low) = with_floor w n manager (newer (w.copies manager) seen) floor
next w (move.Look n t facts looked at) = with_phase w n (Live t (fact_of w t.snapshot looked ∷ facts))
next w (move.Cover n t facts covers looked at right) = with_phase w n (Live t (Covers covers looked ∷ facts))
next w (move.SayBegun n statement t facts at fresh) = with_phase w n (Live (record t { stage = Opened }) [])
next w (move.SayNested n statement b t facts at opened nested) = w
next w (move.SayOutside n statement b at outside) = w
next w (move.SaySelect n statement query told t facts at takes means) =
    with_phase w n (Live (record t { stage = after_saying told t.stage }) [])
next w (move.SayChange n statement edit told own t facts at takes suits means) =
    with_phase w n (Live (record t { own = own; stage = after_saying told t.stage }) [])
next w (move.Try n stamp t facts at may some absent above) =
    with_phase (with_log w t.tid (log_cell stamp n flag.Trying t)) n (Trying (record { txn = t; log = stamp; stored = λ k. false }) None)
next w (move.TryNothing n t facts at may none) = with_phase w n (Closing t Commit (Some w.commits))
next w (move.LoadOwn n k a at own new none) = with_phase w n (Trying a (Some (loaded w k)))
next w (move.Clash n place rival o a at own new strange) = with_phase w n (Undoing a (Some rival) None)
next w (move.StoreOwn n stamp floor a l at same above least) =
    with_phase (with_cell w l.key stamp (prune floor (own_version l.key a.txn ∷ l.versions))) n
    (Trying (record a { stored = put_at l.key true a.stored }) None)
next w (move.MovedOwn n a l at moved) = with_phase w n (Trying a None)
next w (move.Decide n stamp a at all same above) =
    with_phase (with_log w a.txn.tid (log_cell stamp n flag.Decided a.txn)) n (Closing a.txn Commit None)
next w (move.LoadUndo n k a rival at stored) = with_phase w n (Undoing a rival (Some (loaded w k)))
next w (move.StoreUndo n stamp a rival l at same above) =
    with_phase (with_cell w l.key stamp (strip a.txn.tid l.versions)) n
    (Undoing (record a { stored = put_at l.key false a.stored }) rival None)
next w (move.MovedUndo n a rival l at moved) = with_phase w n (Undoing a rival None)
next w (move.MarkUndone n stamp a rival at none same above) =
    with_phase (with_log w a.txn.tid (log_cell stamp n flag.Undone a.txn)) n (Closing a.txn (Undo rival) None)
next w (move.GiveUp n t facts at may) = with_phase w n (Closing t (Undo None) (Some w.commits))
next w (move.LoadCommits n t d at) = with_phase w n (Closing t d (Some w.commits))
next w (move.StoreCommits n stamp t d c at same above) =
    with_phase (with_commits w stamp (inserted c.finished t.tid)) n (Ending t.tid (end_answer t.stage d))
next w (move.MovedCommits n t d c at moved) = with_phase w n (Closing t d None)
next w (move.End n statement tid told at) = record (with_phase w n Idle) { active = put n None w.active }
next w (move.Vanish n ending r) = record w { gone = put n true w.gone; notices = put n (Some (owed (w.recoveries n))) w.notices }
next w (move.There n statement gone at free none) = w
next w (move.Claim n gone also at free posted) =
    record (with_recovery w n (Next (record { node = gone; all = put gone true also; left = put gone true also })))
    { notices = put gone None w.notices }
next w (move.FindOrphan n duties x d at left active) = with_recovery w n (Reading (without d duties) (record { node = d; tid = x.tid }))
next w (move.FindNone n duties d at left none) = with_recovery w n (Next (without d duties))
next w (move.ReadLog n duties o at) = with_recovery w n (by_log duties o (w.logs o.tid))
next w (move.LoadLost n k duties o log seen at named new) = with_recovery w n (load_lost w k duties o log seen)
next w (move.StoreLost n stamp duties o log seen l at same above) =
    with_recovery (with_cell w l.key stamp (strip o.tid l.versions)) n (Stripping duties o log (put_at l.key true seen) None)
next w (move.MovedLost n duties o log seen l at moved) = with_recovery w n (Stripping duties o log seen None)
next w (move.MarkLost n stamp duties o log seen at all same above) =
    with_recovery (with_log w o.tid (marked stamp flag.Undone log)) n (Finishing duties o false None)
next w (move.LoadFinish n duties o committed at) = with_recovery w n (load_finish w duties o committed)
next w (move.StoreFinish n stamp duties o committed c at same above) =
    with_recovery (with_commits w stamp (inserted c.finished o.tid)) n (Closed duties o)
next w (move.MovedFinish n duties o committed c at moved) = with_recovery w n (Finishing duties o committed None)
next w (move.EndLost n duties o at) = record (with_recovery w n (Next duties)) { active = put o.node None w.active }
next w (move.SayRecovered n statement duties at is_next done) = with_recovery w n NoDuty
