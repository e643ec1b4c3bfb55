-- A transaction makes no step at an odd reply.
use Rattle.std.proofs.Common.{◌≡◌, ℕ, ◌+◌, ◌^◌, Bool, true, false, Option, Some, None, refl, sym, ap, ◌∙◌, subst, arith}
use Rattle.std.specs.Prelude.{not, ◌&&◌, ◌||◌, nat_le, nat_lt, slice_get}
use Rattle.std.proofs.lemmas.Bool.Decides.{nat_tests}
use Rattle.tl_base.specs.declared.place.Settings.{Settings}
use Rattle.tl_descriptor.specs.Tids.{TidSet, has, inserted}
use Rattle.tl_manager.specs.declared.mark.Mark.{Mark}
use Rattle.tl_manager.specs.declared.mark.Mark.TheVariants as mark
use Rattle.tl_manager.specs.declared.mark.TxnStep.{TxnStep}
use Rattle.tl_manager.specs.declared.request.ManagerReply.TheVariants as manager
use Rattle.tl_manager.specs.declared.request.ManagerRequest.TheVariants as request
use Rattle.tl_versions.specs.Versions.{is_written, stranger}
use Rattle.tl_write.specs.declared.write.Write.{Write}
use Rattle.tl_protocol.specs.Store.{CommitsCell}
use Rattle.tl_protocol.specs.World.{Stage}
use Rattle.tl_journal.specs.Ask.{StoreCommits, AskManager, Heard, Commits, Record, Numbers, Told}
use Rattle.tl_journal.specs.Bytes.{home_of}
use Rattle.tl_journal.specs.Node.{Doing, Stores, Closing}
use Rattle.tl_journal.specs.Strange.{is_odd_for}
use Rattle.tl_ask.specs.Thin.{loaded_if, thin}
use Rattle.tl_txn.specs.Doing.{doing_of, storing_of}
use Rattle.tl_txn.specs.Taken as code
use Rattle.tl_txn.specs.Taken.{Taken, takes, unless_odd}
use Rattle.tl_txn.specs.declared.phase.Decision.{Decision}
use Rattle.tl_txn.specs.declared.phase.Decision.TheVariants as decision
use Rattle.tl_txn.specs.declared.phase.Open.{Open}
use Rattle.tl_txn.specs.declared.phase.Phase.{Phase}
use Rattle.tl_txn.specs.declared.phase.Phase.TheVariants as phase
use Rattle.tl_txn.specs.declared.phase.Read.{Read}
use Rattle.tl_txn.specs.declared.phase.Read.TheVariants as read
use Rattle.tl_txn.specs.declared.phase.Storing.{Storing}

-- a step is made only where the reply is not odd
abbrev NoStepAt : Bool → Option TxnStep → Type 0
NoStepAt odd None = Unit {0}
NoStepAt odd (Some made) = odd ≡ false

whatever : (made : Option TxnStep) → NoStepAt false made
whatever None = tt
whatever (Some made) = refl

-- the code tests it
unless : (odd tested : Bool) (taken : Taken) → (tested ≡ false → odd ≡ false) → NoStepAt odd (unless_odd tested taken).step
unless odd true taken h = tt
unless odd false taken h = subst (λ (b : Bool). NoStepAt b taken.step) (sym (h refl)) (whatever taken.step)

even_begin : (most tid : ℕ) (shown : Bool) → not (nat_le tid most && not shown) ≡ false → (nat_lt most tid || shown) ≡ false
even_begin most tid true e = grind (arith, nat_tests)
even_begin most tid false e = grind (arith, nat_tests)

even_drawn : (most old : ℕ) → not (nat_le old most) ≡ false → nat_lt most old ≡ false
even_drawn most old e = grind (arith, nat_tests)

-- what the code doesn't keep makes no reply odd
odd_thin : (doing : Doing) (heard : Heard) → is_odd_for doing heard ≡ is_odd_for (thin doing) heard
odd_thin (Stores s None) heard = refl
odd_thin (Stores s (Some l)) heard = refl
odd_thin (Closing t d None) heard = refl
odd_thin (Closing t d (Some c)) heard = refl
odd_thin doing heard = refl

module _ (settings : Settings) (number : ℕ) (stage : Stage) where
  abbrev NoStepIn : Phase → Heard → Type 0
  NoStepIn now heard = NoStepAt (is_odd_for (doing_of stage now) heard) (takes settings number now heard).step

  noted : (seen : TidSet) (heard : Heard) → NoStepIn (phase.Noted seen) heard
  noted seen (Told (manager.Began tid snapshot floor)) =
      unless _ _ (code.ready (code.opened tid snapshot) (mark.Began tid)) (even_begin (2 ^ 62) tid (has snapshot tid))
  noted seen (Told manager.NeedRange) = refl
  noted seen heard = tt

  drawing : (seen : TidSet) (heard : Heard) → NoStepIn (phase.Drawing seen) heard
  drawing seen (Numbers old) =
      unless _ _ (code.going (phase.Bringing seen old) (AskManager (home_of settings number) (request.Range (old + 1) (old + 16))) mark.Quiet)
      (even_drawn (2 ^ 62) (old + 16))
  drawing seen heard = tt

  finishes : (tid : ℕ) (d : Decision) (c : CommitsCell) (told : Mark) → NoStepAt (has c.finished tid) (code.finishes tid d c told).step
  finishes tid d c told =
      unless (has c.finished tid) (has c.finished tid) (code.going (code.closing tid d true) (StoreCommits c.stamp (inserted c.finished tid)) told) (λ e. e)

  reading : (live : Open) (r : Read) (heard : Heard) → NoStepIn (phase.Reading live r) heard
  reading live (read.Point key) (Commits c) = tt
  reading live (read.Range r) (Commits c) = tt
  reading live r heard = whatever (code.takes_reading settings live r heard).step

  trying_nothing : (live : Open) (heard : Heard) → NoStepIn (phase.TryingNothing live) heard
  trying_nothing live (Commits c) = finishes live.tid decision.Commit c (mark.Tried live.tid)
  trying_nothing live heard = tt

  giving_up : (live : Open) (heard : Heard) → NoStepIn (phase.GivingUp live) heard
  giving_up live (Commits c) = finishes live.tid (decision.Undo None) c mark.Quiet
  giving_up live heard = tt

  closing : (tid : ℕ) (d : Decision) (loaded : Bool) (heard : Heard) → NoStepIn (phase.Closing tid d loaded) heard
  closing tid d false (Commits c) = finishes tid d c mark.Quiet
  closing tid d true heard = whatever (takes settings number (phase.Closing tid d true) heard).step
  closing tid d false heard = tt

  storing : (s : Storing) (loaded : Bool) (own : Option Write) (heard : Heard)
      → NoStepAt (is_odd_for (Stores (storing_of stage s) (loaded_if loaded)) heard) (code.takes_storing s loaded own heard).step
  storing s false (Some o) (Record cell) =
      unless (is_written s.attempt.tid cell.versions) (is_written s.attempt.tid cell.versions)
      (code.finds s o.key cell (stranger s.attempt.snapshot cell.versions)) (λ e. e)
  storing s false None (Record cell) = tt
  storing s false own heard = whatever (code.takes_storing s false own heard).step
  storing s true own heard = whatever (code.takes_storing s true own heard).step

  no_step : (now : Phase) (heard : Heard) → NoStepIn now heard
  no_step phase.Asking heard = whatever (takes settings number phase.Asking heard).step
  no_step (phase.Noted seen) heard = noted seen heard
  no_step (phase.Drawing seen) heard = drawing seen heard
  no_step (phase.Bringing seen low) heard = whatever (takes settings number (phase.Bringing seen low) heard).step
  no_step (phase.Ready live) heard = tt
  no_step (phase.Reading live r) heard = reading live r heard
  no_step (phase.TryingNothing live) heard = trying_nothing live heard
  no_step (phase.Trying a) heard = whatever (takes settings number (phase.Trying a) heard).step
  no_step (phase.Storing s) heard = storing s s.loaded (slice_get s.attempt.own s.stored) heard
  no_step (phase.Removing r) heard = whatever (takes settings number (phase.Removing r) heard).step
  no_step (phase.GivingUp live) heard = giving_up live heard
  no_step (phase.Closing tid d loaded) heard = closing tid d loaded heard
  no_step (phase.Ending tid d) heard = whatever (takes settings number (phase.Ending tid d) heard).step
  no_step phase.Over heard = tt
  no_step phase.Stopped heard = tt

  -- where the code keeps what it needs of what its node is doing
  pub not_odd : (now : Phase) (doing : Doing) (heard : Heard) (made : TxnStep) → thin doing ≡ doing_of stage now
      → (takes settings number now heard).step ≡ Some made → is_odd_for doing heard ≡ false
  not_odd now doing heard made e f =
      odd_thin doing heard ∙ (ap (λ (d : Doing). is_odd_for d heard) e ∙ subst (NoStepAt (is_odd_for (doing_of stage now) heard)) f (no_step now heard))
