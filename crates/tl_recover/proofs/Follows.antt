-- Phase by phase, a node that recovers others does what the code of a recovery does.
use Rattle.std.proofs.Common.{◌≡◌, ℕ, ◌+◌, Bool, true, false, not, ◌||◌, List, [], ◌∷◌, Option, Some, None, zero, suc, refl, sym, ap, ◌∙◌, subst, arith}
use Rattle.std.specs.Prelude.{◌^◌, nat_lt, drop, slice_get, is_some, if◌then◌else◌}
use Rattle.std.specs.List.{list_any}
use Rattle.std.proofs.lemmas.Bool.{or_right}
use Rattle.tl_descriptor.specs.Tids.{has, inserted}
use Rattle.tl_logrec.specs.declared.entry.Flag.{Flag}
use Rattle.tl_logrec.specs.declared.entry.Flag.TheVariants as flag
use Rattle.tl_manager.specs.declared.mark.Mark.TheVariants as mark
use Rattle.tl_manager.specs.declared.mark.TxnStep.{TxnStep}
use Rattle.tl_manager.specs.declared.mark.TxnStep.TheVariants as step
use Rattle.tl_manager.specs.declared.request.ManagerReply.TheVariants as manager
use Rattle.tl_versions.specs.Versions.{is_written, strip}
use Rattle.tl_isolation.specs.declared.entry.Entry.{Entry}
use Rattle.tl_protocol.specs.Store.{Key, Cell, LogCell}
use Rattle.tl_protocol.specs.Told.{finished_so}
use Rattle.tl_journal.specs.Ask.{StoreCommits, StoreRecord, Heard, Commits, Log, Record, Stored, Moved, Told}
use Rattle.tl_journal.specs.Asks.{asks_stripping}
use Rattle.tl_journal.specs.Node.{Claimed, Doing, Recovering, ReadingLog, Stripping, Finishing, EndingLost, Node}
use Rattle.tl_journal.specs.Says.{says_doing, says_recovered}
use Rattle.tl_journal.specs.Strange.{is_odd_for, is_stopped}
use Rattle.tl_journal.specs.Takes as law
use Rattle.tl_journal.specs.Takes.{takes_doing, with_doing}
use Rattle.tl_ask.specs.Thin.{loaded_if}
use Rattle.tl_recover.specs.declared.phase.Lost.{Lost}
use Rattle.tl_recover.specs.declared.phase.Phase.{Phase}
use Rattle.tl_recover.specs.declared.phase.Phase.TheVariants as phase
use Rattle.tl_recover.specs.Doing.{claimed, doing_of, lost_of}
use Rattle.tl_recover.specs.Follows.{Turn, EndsSo, GoesOnSo, IsStep, after, entries, entries_of, is_awaiting, is_odd, taken}
use Rattle.tl_recover.specs.Taken as code
use Rattle.tl_recover.specs.Taken.{Taken, duties_after, takes}
use Rattle.tl_recover.proofs.Rising.{after_next}

-- what follows of a step, where this is the node after the reply, with what it told, whether the reply was odd, and whether one
-- was awaited
abbrev pub FitsStep : Turn → Node → List Entry → Bool → Bool → Taken → Option TxnStep → Type 0
FitsStep t new said odd awaited outcome None = awaited ≡ true → (is_stopped new.doing || odd) ≡ true
FitsStep t new said odd awaited outcome (Some (step.Going told)) = GoesOnSo t new said outcome told × (is_awaiting outcome.phase ≡ true)
FitsStep t new said odd awaited outcome (Some (step.Ended told)) = EndsSo t new said told
FitsStep t new said odd awaited outcome (Some other) = ⊥

abbrev pub Fits : Turn → Node → List Entry → Bool → Bool → Taken → Type 0
Fits t new said odd awaited outcome = FitsStep t new said odd awaited outcome outcome.step

-- in this phase
abbrev FitsIn : Turn → Phase → Heard → Bool → Type 0
FitsIn t now heard awaited =
    Fits t (takes_doing t.settings t.catalog t.node t.statement (doing_of t.gone t.nodes now) heard t.told)
    (says_doing t.settings t.catalog t.commits t.node t.statement (doing_of t.gone t.nodes now) heard t.told)
    (is_odd_for (doing_of t.gone t.nodes now) heard) awaited (takes t.settings t.nodes now heard)

-- ---- the duties

-- those behind this node
abbrev duties : Turn → ℕ → Claimed
duties t d = claimed t.gone t.nodes d

duty_fits : (t : Turn) (odd awaited : Bool) (d : ℕ) (left : List ℕ) → duties_after d t.nodes ≡ left
    → Fits t (law.next_duty t.node (record { node = t.gone; all = t.nodes; left = left }))
    (says_recovered t.node (record { node = t.gone; all = t.nodes; left = left }) [] left) odd awaited (code.next_duty t.settings left)
duty_fits t odd awaited d [] e = (refl, refl, refl)
duty_fits t odd awaited d (n ∷ left) e = (
  (
    Recovering (record { node = t.gone; all = t.nodes; left = n ∷ left }),
    refl,
    ap (λ (ns : List ℕ). Recovering (record { node = t.gone; all = t.nodes; left = n ∷ ns })) (after_next t.nodes d n left e),
    refl,
    refl,
  ),
  refl,
)

next_fits : (t : Turn) (odd awaited : Bool) (d : ℕ) (tids : List ℕ)
    → Fits t (law.next_lost t.node (duties t d) d tids) (says_recovered t.node (duties t d) tids (duties_after d t.nodes)) odd awaited
    (code.next_lost t.settings t.nodes d tids)
next_fits t odd awaited d [] = duty_fits t odd awaited d (duties_after d t.nodes) refl
next_fits t odd awaited d (tid ∷ others) = ((ReadingLog (duties t d) (record { node = d; tid = tid; others = others }), refl, refl, refl, refl), refl)

finding_fits : (t : Turn) (d : ℕ) (heard : Heard) → FitsIn t (phase.Finding d) heard true
finding_fits t d (Told (manager.Orphaned tids)) = by (list_any (nat_lt (2 ^ 62)) tids) refl
  where
    by : (b : Bool) → list_any (nat_lt (2 ^ 62)) tids ≡ b
        → Fits t (law.next_lost t.node (duties t d) d tids) (says_recovered t.node (duties t d) tids (duties_after d t.nodes))
        (list_any (nat_lt (2 ^ 62)) tids) true (code.unless_odd b (code.next_lost t.settings t.nodes d tids))
    by true e = λ h. or_right (is_stopped (law.next_lost t.node (duties t d) d tids).doing) (list_any (nat_lt (2 ^ 62)) tids) e
    by false e = next_fits t (list_any (nat_lt (2 ^ 62)) tids) true d tids
finding_fits t d (Told reply) = λ h. refl
finding_fits t d heard = λ h. refl

-- ---- the transaction's records

none_left : (keys : List Key) (at : ℕ) → slice_get keys at ≡ None → drop at keys ≡ []
none_left [] zero e = refl
none_left [] (suc n) e = refl
none_left (key ∷ keys) zero e = cc
none_left (key ∷ keys) (suc n) e = none_left keys n e

next_left : (keys : List Key) (at : ℕ) (key : Key) → slice_get keys at ≡ Some key → drop at keys ≡ key ∷ drop (at + 1) keys
next_left [] at key e = cc
next_left (k ∷ keys) zero key e = ap (λ (x : Key). x ∷ keys) (same k key e)
  where
    same : (x y : Key) → Some x ≡ Some y → x ≡ y
    same x y e = cc
next_left (k ∷ keys) (suc n) key e = next_left keys n key e ∙ ap (λ i. key ∷ drop i (k ∷ keys)) (one_more n)
  where
    one_more : (n : ℕ) → suc (n + 1) ≡ suc n + 1
    one_more n = omega arith

asks_alike : (lost : Lost) (log : LogCell) (at : ℕ)
    → asks_stripping (lost_of lost) log (drop at log.entry.writes) None ≡ code.ask_strip log (slice_get log.entry.writes at)
asks_alike lost log at = by (slice_get log.entry.writes at) refl
  where
    by : (key : Option Key) → slice_get log.entry.writes at ≡ key
        → asks_stripping (lost_of lost) log (drop at log.entry.writes) None ≡ code.ask_strip log key
    by None e = ap (λ keys. asks_stripping (lost_of lost) log keys None) (none_left log.entry.writes at e)
    by (Some key) e = ap (λ keys. asks_stripping (lost_of lost) log keys None) (next_left log.entry.writes at key e)

-- the node, with these records left
abbrev strips : Turn → Lost → LogCell → List Key → Node
strips t lost log keys = with_doing t.node (Stripping (duties t lost.node) (lost_of lost) log keys None)

strip_fits : (t : Turn) (odd awaited : Bool) (lost : Lost) (log : LogCell) (at : ℕ)
    → Fits t (strips t lost log (drop at log.entry.writes)) [] odd awaited (code.stripping lost log at)
strip_fits t odd awaited lost log at = (
  (Stripping (duties t lost.node) (lost_of lost) log (drop at log.entry.writes) None, refl, refl, ap Some (asks_alike lost log at), refl),
  refl,
)

finish_fits : (t : Turn) (odd awaited : Bool) (lost : Lost) (committed : Bool)
    → Fits t (with_doing t.node (Finishing (duties t lost.node) (lost_of lost) committed None)) [] odd awaited (code.finishing lost committed mark.Quiet)
finish_fits t odd awaited lost committed = ((Finishing (duties t lost.node) (lost_of lost) committed None, refl, refl, refl, refl), refl)

flag_fits : (t : Turn) (odd awaited : Bool) (lost : Lost) (log : LogCell) (f : Flag)
    → Fits t (law.by_flag t.node (duties t lost.node) (lost_of lost) log f) [] odd awaited (code.by_flag lost log f)
flag_fits t odd awaited lost log flag.Trying = strip_fits t odd awaited lost log 0
flag_fits t odd awaited lost log flag.Decided = finish_fits t odd awaited lost true
flag_fits t odd awaited lost log flag.Undone = finish_fits t odd awaited lost false

log_fits : (t : Turn) (lost : Lost) (heard : Heard) → FitsIn t (phase.ReadingLog lost) heard true
log_fits t lost (Log None) = finish_fits t false true lost false
log_fits t lost (Log (Some log)) = by (code.is_odd_log lost.tid log) refl
  where
    by : (b : Bool) → code.is_odd_log lost.tid log ≡ b
        → Fits t (law.by_flag t.node (duties t lost.node) (lost_of lost) log log.entry.flag) [] (code.is_odd_log lost.tid log) true
        (code.unless_odd b (code.by_flag lost log log.entry.flag))
    by true e =
        λ h. or_right (is_stopped (law.by_flag t.node (duties t lost.node) (lost_of lost) log log.entry.flag).doing) (code.is_odd_log lost.tid log) e
    by false e = flag_fits t (code.is_odd_log lost.tid log) true lost log log.entry.flag
log_fits t lost heard = λ h. refl

-- these records are left, this one first
abbrev FitsStrip : Turn → Lost → LogCell → ℕ → Bool → Heard → Option Key → List Key → Type 0
FitsStrip t lost log at loaded heard key keys =
    Fits t (law.takes_stripping t.node (duties t lost.node) (lost_of lost) log keys (loaded_if loaded) heard) [] false (not loaded || is_some key)
    (code.takes_stripping lost log at loaded key heard)

none_fits : (t : Turn) (lost : Lost) (log : LogCell) (at : ℕ) (loaded : Bool) (heard : Heard) → FitsStrip t lost log at loaded heard None []
none_fits t lost log at false (Stored stamp) = finish_fits t false true lost false
none_fits t lost log at false heard = λ h. refl
none_fits t lost log at true heard = λ h. absurd cc

-- the record has the transaction's version
abbrev stores_strip : Turn → Lost → LogCell → Key → Cell → List Key → Doing
stores_strip t lost log key cell keys =
    Stripping (duties t lost.node) (lost_of lost) log keys (Some (record { key = key; stamp = cell.stamp; versions = cell.versions }))

record_fits : (t : Turn) (lost : Lost) (log : LogCell) (at : ℕ) (key : Key) (cell : Cell) → slice_get log.entry.writes at ≡ Some key
    → FitsStrip t lost log at false (Record cell) (Some key) (key ∷ drop (at + 1) log.entry.writes)
record_fits t lost log at key cell e = by (is_written lost.tid cell.versions)
  where
    by : (b : Bool)
        → Fits t
        (if b
        then with_doing t.node (stores_strip t lost log key cell (key ∷ drop (at + 1) log.entry.writes))
        else strips t lost log (drop (at + 1) log.entry.writes)) [] false true
        (if b
        then code.going (phase.Stripping lost log at true) (StoreRecord key cell.stamp (strip lost.tid cell.versions)) mark.Quiet
        else code.stripping lost log (at + 1))
    by true = (
      (
        stores_strip t lost log key cell (key ∷ drop (at + 1) log.entry.writes),
        refl,
        ap (λ keys. Stripping (duties t lost.node) (lost_of lost) log keys (loaded_if true)) (sym (next_left log.entry.writes at key e)),
        refl,
        refl,
      ),
      ap is_some e,
    )
    by false = strip_fits t false true lost log (at + 1)

key_fits : (t : Turn) (lost : Lost) (log : LogCell) (at : ℕ) (loaded : Bool) (key : Key) (heard : Heard) → slice_get log.entry.writes at ≡ Some key
    → FitsStrip t lost log at loaded heard (Some key) (key ∷ drop (at + 1) log.entry.writes)
key_fits t lost log at false key (Record cell) e = record_fits t lost log at key cell e
key_fits t lost log at true key (Stored stamp) e = strip_fits t false true lost log (at + 1)
key_fits t lost log at true key Moved e =
    subst (λ keys. Fits t (strips t lost log keys) [] false true (code.stripping lost log at)) (next_left log.entry.writes at key e)
    (strip_fits t false true lost log at)
key_fits t lost log at loaded key heard e = λ h. refl

stripping_fits : (t : Turn) (lost : Lost) (log : LogCell) (at : ℕ) (loaded : Bool) (heard : Heard)
    → FitsIn t (phase.Stripping lost log at loaded) heard (not loaded || is_some (slice_get log.entry.writes at))
stripping_fits t lost log at loaded heard = by (slice_get log.entry.writes at) refl
  where
    by : (key : Option Key) → slice_get log.entry.writes at ≡ key → FitsStrip t lost log at loaded heard key (drop at log.entry.writes)
    by None e = subst (FitsStrip t lost log at loaded heard None) (sym (none_left log.entry.writes at e)) (none_fits t lost log at loaded heard)
    by (Some key) e =
        subst (FitsStrip t lost log at loaded heard (Some key)) (sym (next_left log.entry.writes at key e)) (key_fits t lost log at loaded key heard e)

-- ---- the transaction's end

finishing_fits : (t : Turn) (lost : Lost) (committed loaded : Bool) (heard : Heard) → FitsIn t (phase.Finishing lost committed loaded) heard true
finishing_fits t lost committed false (Commits c) = by (has c.finished lost.tid)
  where
    by : (b : Bool)
        → Fits t
        (if b
        then with_doing t.node (EndingLost (duties t lost.node) (lost_of lost))
        else with_doing t.node (Finishing (duties t lost.node) (lost_of lost) committed (Some c))) [] false true
        (if b
        then code.ending t.settings lost mark.Quiet
        else code.going (phase.Finishing lost committed true) (StoreCommits c.stamp (inserted c.finished lost.tid)) mark.Quiet)
    by true = ((EndingLost (duties t lost.node) (lost_of lost), refl, refl, refl, refl), refl)
    by false = ((Finishing (duties t lost.node) (lost_of lost) committed (Some c), refl, refl, refl, refl), refl)
finishing_fits t lost committed true (Stored stamp) = ((EndingLost (duties t lost.node) (lost_of lost), refl, refl, refl, by committed), refl)
  where
    by : (b : Bool) → finished_so b lost.tid ∷ [] ≡ entries_of (code.finished_so b lost.tid)
    by true = refl
    by false = refl
finishing_fits t lost committed true Moved = finish_fits t false true lost committed
finishing_fits t lost committed loaded heard = λ h. refl

ending_fits : (t : Turn) (lost : Lost) (heard : Heard) → FitsIn t (phase.EndingLost lost) heard true
ending_fits t lost (Told manager.Ended) = next_fits t false true lost.node lost.others
ending_fits t lost (Told reply) = λ h. refl
ending_fits t lost heard = λ h. refl

-- ---- all phases

fits : (t : Turn) → FitsIn t t.now t.heard (is_awaiting t.now)
fits t = by t.now
  where
    by : (now : Phase) → FitsIn t now t.heard (is_awaiting now)
    by (phase.Finding d) = finding_fits t d t.heard
    by (phase.ReadingLog lost) = log_fits t lost t.heard
    by (phase.Stripping lost log at false) = stripping_fits t lost log at false t.heard
    by (phase.Stripping lost log at true) = stripping_fits t lost log at true t.heard
    by (phase.Finishing lost committed loaded) = finishing_fits t lost committed loaded t.heard
    by (phase.EndingLost lost) = ending_fits t lost t.heard
    by phase.Over = λ h. absurd cc
    by phase.Stopped = λ h. absurd cc

-- by the step that is told
pub fits_step : (t : Turn) (told : Option TxnStep) → (taken t).step ≡ told
    → FitsStep t (after t) (entries t) (is_odd t) (is_awaiting t.now) (taken t) told
fits_step t told e = subst (FitsStep t (after t) (entries t) (is_odd t) (is_awaiting t.now) (taken t)) e (fits t)

pub step_only : (t : Turn) (told : TxnStep) → (taken t).step ≡ Some told → IsStep told
step_only t told e = by told (fits_step t (Some told) e)
  where
    by : (told : TxnStep) → FitsStep t (after t) (entries t) (is_odd t) (is_awaiting t.now) (taken t) (Some told) → IsStep told
    by (step.Going told) h = tt
    by (step.Ended told) h = tt
    by (step.Ready told) h = h
    by (step.Leaf told) h = h
    by (step.NoMemory told) h = h
