-- What a reply says to a recovery, and what the recovery is after it.
use Rattle.std.specs.Prelude.{◌≡◌, ℕ, ◌^◌, nat_lt, Bool, true, false, if◌then◌else◌, List, ◌∷◌, Option, Some, None, Result, Ok, Err, slice_get}
use Rattle.std.specs.List.{list_any}
use Rattle.tl_base.specs.declared.memory.NoMemory.{NoMemory}
use Rattle.tl_base.specs.declared.node.NodeSet.{NodeSet}
use Rattle.tl_base.specs.declared.place.Settings.{Settings}
use Rattle.tl_schema.specs.declared.catalog.Catalog.{Catalog}
use Rattle.tl_manager.specs.declared.mark.Mark.{Mark}
use Rattle.tl_manager.specs.declared.mark.Mark.TheVariants as mark
use Rattle.tl_manager.specs.declared.mark.TxnStep.{TxnStep}
use Rattle.tl_manager.specs.declared.mark.TxnStep.TheVariants as step
use Rattle.tl_manager.specs.declared.request.ManagerReply.TheVariants as manager
use Rattle.tl_manager.specs.declared.request.Reply.{Reply}
use Rattle.tl_journal.specs.Ask.{Ask, Heard, Told, Strange}
use Rattle.tl_journal.specs.Node.{nodes_in}
use Rattle.tl_ask.specs.Asked.{asked}
use Rattle.tl_ask.specs.Hears.{hears_commits, hears_log, hears_manager, hears_record, hears_store}
use Rattle.tl_ask.specs.declared.asked.Asked.{Asked}
use Rattle.tl_recover.specs.declared.after.After.{After}
use Rattle.tl_recover.specs.declared.phase.Phase.{Phase}
use Rattle.tl_recover.specs.declared.phase.Phase.TheVariants as phase
use Rattle.tl_recover.specs.declared.recover.Recover.{Recover}
use Rattle.tl_recover.specs.Taken.{Taken, finding, takes}

-- ---- by what is awaited

-- a record that is loaded, or else a cell that is stored
abbrev pub hears_strip : Catalog → Bool → Option (List ℕ) → Reply → Heard
hears_strip catalog false (Some key) reply = hears_record catalog key reply
hears_strip catalog false None reply = hears_store reply
hears_strip catalog true key reply = hears_store reply

abbrev pub hears_finish : Bool → Reply → Heard
hears_finish false reply = hears_commits reply
hears_finish true reply = hears_store reply

abbrev pub hears : Catalog → Phase → Reply → Heard
hears catalog (phase.Finding node) reply = hears_manager reply
hears catalog (phase.ReadingLog lost) reply = hears_log catalog reply
hears catalog (phase.Stripping lost log at loaded) reply = hears_strip catalog loaded (slice_get log.entry.writes at) reply
hears catalog (phase.Finishing lost committed loaded) reply = hears_finish loaded reply
hears catalog (phase.EndingLost lost) reply = hears_manager reply
hears catalog phase.Over reply = Strange
hears catalog phase.Stopped reply = Strange

-- the transactions that a manager told of
abbrev pub orphans_heard : Heard → Option (List ℕ)
orphans_heard (Told (manager.Orphaned tids)) = Some tids
orphans_heard told = None

abbrev pub is_ended : Heard → Bool
is_ended (Told manager.Ended) = true
is_ended told = false

-- the numbers, where each is one of a run
abbrev pub known : List ℕ → Option (List ℕ)
known tids = if list_any (nat_lt (2 ^ 62)) tids then None else Some tids

-- ---- in code

abbrev pub request_of : Settings → Option Ask → Option Asked
request_of settings None = None
request_of settings (Some ask) = Some (asked settings ask)

-- what is taken, with the request in bytes
abbrev pub written : Settings → Taken → After
written settings taken = record { phase = taken.phase; next = request_of settings taken.ask; step = taken.step }

abbrev pub mark_of : TxnStep → Mark
mark_of (step.Going told) = told
mark_of (step.Ready told) = told
mark_of (step.Leaf told) = told
mark_of (step.Ended told) = told
mark_of (step.NoMemory told) = told

-- where there is a step, this is its mark
abbrev pub HasMark : Mark → Option TxnStep → Type 0
HasMark told None = Unit {0}
HasMark told (Some taken) = told ≡ mark_of taken

-- what is taken is given, or memory was wanting where nothing was to be marked
abbrev pub Gives : Settings → Taken → Result After NoMemory → Type 0
Gives settings taken (Ok after) = after ≡ written settings taken
Gives settings taken (Err fault) = HasMark mark.Quiet taken.step

-- ---- all of it

-- the recovery stopped for want of memory, or it is as what was taken says
abbrev pub IsAfter : Settings → Taken → Phase → Option Asked → Option TxnStep → Type 0
IsAfter settings taken now next (Some (step.NoMemory told)) = (now ≡ phase.Stopped) × (next ≡ None) × HasMark told taken.step
IsAfter settings taken now next told = (now ≡ taken.phase) × (next ≡ request_of settings taken.ask) × (told ≡ taken.step)

-- what the recovery does with a reply
abbrev pub taken_by : Catalog → Recover → Reply → Taken
taken_by catalog recovery reply = takes recovery.layout recovery.all recovery.phase (hears catalog recovery.phase reply)

-- the recovery took the reply, in a database of these tables, and told this
pub record IsTaken (catalog : Catalog) (old new : Recover) (reply : Reply) (told : Option TxnStep) : Type 0 where
  pub alloc : new.alloc ≡ old.alloc
  pub layout : new.layout ≡ old.layout
  pub all : new.all ≡ old.all
  pub after : IsAfter old.layout (taken_by catalog old reply) new.phase new.next told

-- a recovery of these nodes that has asked for the transactions of the least one
pub record IsStarted (settings : Settings) (nodes : NodeSet) (recovery : Recover) : Type 0 where
  pub layout : recovery.layout ≡ settings
  pub all : recovery.all ≡ nodes
  pub first : (least : ℕ) × (later : List ℕ) × (nodes_in nodes ≡ least ∷ later) × (recovery.phase ≡ phase.Finding least) × (recovery.next ≡ request_of settings (finding settings least).ask)
