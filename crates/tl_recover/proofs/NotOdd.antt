-- A recovery makes no step at an odd reply.
use Rattle.std.proofs.Common.{◌≡◌, ℕ, Bool, true, false, Option, Some, None, refl, subst}
use Rattle.std.specs.Prelude.{◌^◌, nat_lt}
use Rattle.std.specs.List.{list_any}
use Rattle.tl_base.specs.declared.node.NodeSet.{NodeSet}
use Rattle.tl_base.specs.declared.place.Settings.{Settings}
use Rattle.tl_manager.specs.declared.mark.TxnStep.{TxnStep}
use Rattle.tl_manager.specs.declared.request.ManagerReply.TheVariants as manager
use Rattle.tl_journal.specs.Ask.{Heard, Log, Told}
use Rattle.tl_journal.specs.Strange.{is_odd_for}
use Rattle.tl_recover.specs.declared.phase.Lost.{Lost}
use Rattle.tl_recover.specs.declared.phase.Phase.{Phase}
use Rattle.tl_recover.specs.declared.phase.Phase.TheVariants as phase
use Rattle.tl_recover.specs.Doing.{doing_of}
use Rattle.tl_recover.specs.Follows.{Turn, is_odd, taken}
use Rattle.tl_recover.specs.Taken.{Taken, by_flag, is_odd_log, next_lost, takes, unless_odd}

-- a step is made only where the reply is not odd
abbrev NoStepAt : Bool → Option TxnStep → Type 0
NoStepAt odd None = Unit {0}
NoStepAt odd (Some made) = odd ≡ false

whatever : (made : Option TxnStep) → NoStepAt false made
whatever None = tt
whatever (Some made) = refl

unless : (odd : Bool) (taken : Taken) → NoStepAt odd (unless_odd odd taken).step
unless true taken = tt
unless false taken = whatever taken.step

module _ (settings : Settings) (gone : ℕ) (all : NodeSet) where
  abbrev NoStepIn : Phase → Heard → Type 0
  NoStepIn now heard = NoStepAt (is_odd_for (doing_of gone all now) heard) (takes settings all now heard).step

  finding : (node : ℕ) (heard : Heard) → NoStepIn (phase.Finding node) heard
  finding node (Told (manager.Orphaned tids)) = unless (list_any (nat_lt (2 ^ 62)) tids) (next_lost settings all node tids)
  finding node heard = tt

  reading : (lost : Lost) (heard : Heard) → NoStepIn (phase.ReadingLog lost) heard
  reading lost (Log (Some log)) = unless (is_odd_log lost.tid log) (by_flag lost log log.entry.flag)
  reading lost (Log None) = refl
  reading lost heard = tt

  no_step : (now : Phase) (heard : Heard) → NoStepIn now heard
  no_step (phase.Finding node) heard = finding node heard
  no_step (phase.ReadingLog lost) heard = reading lost heard
  no_step (phase.Stripping lost log at loaded) heard = whatever (takes settings all (phase.Stripping lost log at loaded) heard).step
  no_step (phase.Finishing lost committed loaded) heard = whatever (takes settings all (phase.Finishing lost committed loaded) heard).step
  no_step (phase.EndingLost lost) heard = whatever (takes settings all (phase.EndingLost lost) heard).step
  no_step phase.Over heard = tt
  no_step phase.Stopped heard = tt

pub not_odd : (t : Turn) (told : TxnStep) → (taken t).step ≡ Some told → is_odd t ≡ false
not_odd t told e = subst (NoStepAt (is_odd t)) e (no_step t.settings t.gone t.nodes t.now t.heard)
