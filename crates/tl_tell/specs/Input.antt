-- Reading the input: what a script that was read stands on, and why none was.
use Rattle.std.specs.Prelude.{◌≡◌, ℕ, ◌<◌, ◌^◌, List, Option, length}
use Rattle.std.specs.declared.result.Result.TheVariants.{Ok}
use Rattle.tl_io.specs.Faults.{Rose}
use Rattle.tl_io.specs.declared.reading.ReadError.{ReadError}
use Rattle.tl_io.specs.declared.reading.ReadError.TheVariants as read
use Rattle.tl_isolation.specs.declared.script.Script.{Script}
use Rattle.tl_base.specs.declared.place.Settings.{Settings}
use Rattle.tl_journal.specs.Binding.{IsBound}
use Rattle.tl_script.specs.declared.fault.ScriptError.{ScriptError}
use Rattle.tl_script.specs.declared.fault.ScriptError.TheVariants as script
use Rattle.tl_script.specs.Script.{script_of}
use Rattle.tl_tell.specs.Promise.{IsWholeInput, IsFaulty, IsTooLong}
use Rattle.tl_tell.specs.declared.ended.Reason.{Reason}
use Rattle.tl_tell.specs.declared.ended.Reason.TheVariants as reason

abbrev pub reason_of_read : ReadError → Reason
reason_of_read read.Fault = reason.ReadFault
reason_of_read read.TooLong = reason.TooLong
reason_of_read read.NoMemory = reason.NoMemory

abbrev pub reason_of_script : ScriptError → Reason
reason_of_script (script.Fault line kind) = reason.Script line kind
reason_of_script script.NoMemory = reason.NoMemory

-- the input was read to its end, and stands for this script, which can be run
pub record IsInput (before after : Option (List ℕ)) (script : Script) : Type 0 where
  pub bytes : List ℕ
  pub input : IsWholeInput before after bytes
  pub stands_for : script_of bytes ≡ Ok script
  pub bound : (settings : Settings) → IsBound script settings
  pub few : length script.rows < 2 ^ 32

-- why there is no script
abbrev pub Refuses : Option (List ℕ) → Option (List ℕ) → ℕ → ℕ → Reason → Type 0
Refuses before after faults faults' reason.ReadFault = Rose faults faults'
Refuses before after faults faults' reason.TooLong = IsTooLong before after
Refuses before after faults faults' (reason.Script line kind) = IsFaulty before after line kind
Refuses before after faults faults' reason.NoMemory = Unit {0}
Refuses before after faults faults' reason.Done = ⊥
Refuses before after faults faults' reason.WriteFault = ⊥
Refuses before after faults faults' (reason.Words place) = ⊥
