-- The lines that are read, one by one.
use Rattle.std.proofs.Common.{◌≡◌, ℕ, ◌+◌, List, [], ◌∷◌, Some, None, Result, Ok, Err, refl, sym, subst, ◌∙◌}
use Rattle.tl_script.specs.declared.fault.LineFault.{LineFault}
use Rattle.tl_script.specs.declared.fault.LineFault.TheVariants as line_fault
use Rattle.tl_script.specs.declared.fault.ScriptError.{ScriptError}
use Rattle.tl_script.specs.declared.fault.ScriptError.TheVariants as error
use Rattle.tl_script.specs.declared.fault.ScriptKind.TheVariants.{NoTable, NotBuilt}
use Rattle.tl_script.specs.Parts.{Parts, no_parts, script_with, take_line}
use Rattle.tl_script.specs.Script.{Fails, Fault, Gets, numbered, parts_in, script_in, script_of}
use Rattle.tl_script.specs.Statement.{Names, table_in}
use Rattle.tl_script.specs.Lines.{lines_of}

one_line : (names : Names) (number : ℕ) (line : List ℕ) (lines : List (List ℕ)) (parts next : Parts) → take_line names line parts ≡ Some next
    → parts_in names number (line ∷ lines) parts ≡ parts_in names (number + 1) lines next
unfolding parts_in
one_line names number line lines parts next e = rw e refl

no_line : (names : Names) (number : ℕ) (line : List ℕ) (lines : List (List ℕ)) (parts : Parts) → take_line names line parts ≡ None
    → parts_in names number (line ∷ lines) parts ≡ Err (record { line = number; kind = NotBuilt })
unfolding parts_in
no_line names number line lines parts e = rw e refl

all_read : (names : Names) (number : ℕ) (parts : Parts) → parts_in names number [] parts ≡ Ok parts
unfolding parts_in
all_read names number parts = refl

-- the next line is taken
pub next_line : (names : Names) (number : ℕ) (left : List (List ℕ)) (line : List ℕ) (lines : List (List ℕ)) (parts next : Parts) (whole : Result Parts Fault)
    → left ≡ line ∷ lines → parts_in names number left parts ≡ whole → take_line names line parts ≡ Some next
    → parts_in names (number + 1) lines next ≡ whole
next_line names number left line lines parts next whole e so taken =
    sym (one_line names number line lines parts next taken) ∙ subst (λ (ls : List (List ℕ)). parts_in names number ls parts ≡ whole) e so

-- the next line has a fault
pub line_fails : (fault : LineFault) (names : Names) (number : ℕ) (left : List (List ℕ)) (line : List ℕ) (lines : List (List ℕ)) (parts then : Parts) (whole : Result Parts Fault)
    → left ≡ line ∷ lines → parts_in names number left parts ≡ whole → Gets (Err fault) (take_line names line parts) then
    → Fails (numbered number fault) whole
line_fails line_fault.NoMemory names number left line lines parts then whole e so fails = tt
line_fails (line_fault.Fault kind) names number left line lines parts then whole e so fails =
    rw fails.0 (sym (subst (λ (ls : List (List ℕ)). parts_in names number ls parts ≡ whole) e so) ∙ no_line names number line lines parts fails.1)

-- no line is left
pub last_line : (names : Names) (number : ℕ) (left : List (List ℕ)) (parts : Parts) (whole : Result Parts Fault)
    → left ≡ [] → parts_in names number left parts ≡ whole → whole ≡ Ok parts
last_line names number left parts whole e so =
    sym (subst (λ (ls : List (List ℕ)). parts_in names number ls parts ≡ whole) e so) ∙ all_read names number parts

pub no_lines : (bytes : List ℕ) → lines_of bytes ≡ [] → script_of bytes ≡ Err (record { line = 1; kind = NoTable })
unfolding script_of script_in
no_lines bytes e = rw e refl

pub no_table : (bytes table : List ℕ) (lines : List (List ℕ)) → lines_of bytes ≡ table ∷ lines → table_in table ≡ None → script_of bytes ≡ Err (record { line = 1; kind = NotBuilt })
unfolding script_of script_in
no_table bytes table lines e none = rw (e, none) refl

-- the lines behind the table's are those of a script
pub all_lines : (bytes table : List ℕ) (lines : List (List ℕ)) (names : Names) (parts : Parts) → lines_of bytes ≡ table ∷ lines → table_in table ≡ Some names
    → parts_in names 2 lines no_parts ≡ Ok parts → script_of bytes ≡ Ok (script_with names parts)
unfolding script_of script_in
all_lines bytes table lines names parts e some read = rw (e, some, read) refl

-- one of them has a fault
pub lines_fail : (fault : ScriptError) (bytes table : List ℕ) (lines : List (List ℕ)) (names : Names) → lines_of bytes ≡ table ∷ lines → table_in table ≡ Some names
    → Fails fault (parts_in names 2 lines no_parts) → Fails fault (script_of bytes)
unfolding script_of script_in
lines_fail error.NoMemory bytes table lines names e some fails = tt
lines_fail (error.Fault line kind) bytes table lines names e some fails = rw (e, some, fails) refl
