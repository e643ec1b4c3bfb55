-- What the bytes of a script stand for, or its first fault.
use Rattle.std.specs.Prelude.{◌≡◌, ℕ, ◌+◌, List, [], ◌∷◌, Option}
use Rattle.std.specs.declared.option.Option.TheVariants.{Some, None}
use Rattle.std.specs.declared.result.Result.{Result}
use Rattle.std.specs.declared.result.Result.TheVariants.{Ok, Err}
use Rattle.tl_isolation.specs.declared.script.Script.{Script}
use Rattle.tl_script.specs.declared.fault.LineFault.{LineFault}
use Rattle.tl_script.specs.declared.fault.LineFault.TheVariants as line_fault
use Rattle.tl_script.specs.declared.fault.ScriptError.{ScriptError}
use Rattle.tl_script.specs.declared.fault.ScriptError.TheVariants as error
use Rattle.tl_script.specs.declared.fault.ScriptKind.{ScriptKind}
use Rattle.tl_script.specs.declared.fault.ScriptKind.TheVariants.{NoTable, NotBuilt}
use Rattle.tl_script.specs.Lines.{lines_of}
use Rattle.tl_script.specs.Parts.{Parts, no_parts, script_with, take_line}
use Rattle.tl_script.specs.Statement.{Names, table_in}

-- the line, from 1, and what is wrong with it
pub record Fault : Type 0 where
  pub line : ℕ
  pub kind : ScriptKind

-- the first fault ends the reading
infixl 10 ◌>>=◌
abbrev pub ◌>>=◌ : {A B : Type 0} → Result A Fault → (A → Result B Fault) → Result B Fault
(Ok x) >>= f = f x
(Err fault) >>= f = Err fault

-- the line of this number has no form that is built, or doesn't stand where it may
abbrev pub or_not_built : {A : Type 0} → ℕ → Option A → Result A Fault
or_not_built number None = Err (record { line = number; kind = NotBuilt })
or_not_built number (Some x) = Ok x

-- the parts after these lines, of which the first has this number
unfoldable pub parts_in : Names → ℕ → List (List ℕ) → Parts → Result Parts Fault
parts_in names number [] parts = Ok parts
parts_in names number (line ∷ lines) parts = do
  parts ← or_not_built number (take_line names line parts)
  parts_in names (number + 1) lines parts

-- the script in these lines: the first one makes its table
unfoldable pub script_in : List (List ℕ) → Result Script Fault
script_in [] = Err (record { line = 1; kind = NoTable })
script_in (table ∷ lines) = do
  names ← or_not_built 1 (table_in table)
  parts ← parts_in names 2 lines no_parts
  Ok (script_with names parts)

-- what the bytes of a script stand for, or its first fault
unfoldable pub script_of : List ℕ → Result Script Fault
script_of bytes = script_in (lines_of bytes)

-- the fault of the line of this number
abbrev pub numbered : ℕ → LineFault → ScriptError
numbered line (line_fault.Fault kind) = error.Fault line kind
numbered line line_fault.NoMemory = error.NoMemory

-- what is said of a reading that fails: want of memory says nothing of the script
abbrev pub Fails : {A : Type 0} → ScriptError → Result A Fault → Type 0
Fails error.NoMemory read = Unit {0}
Fails (error.Fault line kind) read = read ≡ Err (record { line = line; kind = kind })

-- what was answered is what the reading gives, unless memory ran out
abbrev pub Gives : {A : Type 0} → Result A ScriptError → Result A Fault → Type 0
Gives (Ok x) read = read ≡ Ok x
Gives (Err e) read = Fails e read

-- what was taken is what the parts become; where there is no such script it is a fault, and want of memory says nothing of it
abbrev pub Gets : Result (Unit {0}) LineFault → Option Parts → Parts → Type 0
Gets (Ok done) taken new = taken ≡ Some new
Gets (Err (line_fault.Fault kind)) taken new = (kind ≡ NotBuilt) × (taken ≡ None)
Gets (Err line_fault.NoMemory) taken new = Unit {0}

-- the line took the one to the other
abbrev pub Takes : Names → List ℕ → Parts → Result (Unit {0}) LineFault → Parts → Type 0
Takes names line old result new = Gets result (take_line names line old) new

-- so with many lines, of which the first fault is told
abbrev pub GetsAll : Result (Unit {0}) ScriptError → Result Parts Fault → Parts → Type 0
GetsAll (Ok done) read new = read ≡ Ok new
GetsAll (Err e) read new = Fails e read
