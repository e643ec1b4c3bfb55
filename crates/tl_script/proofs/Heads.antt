-- A line is a directive, by its first field, or a statement.
use Rattle.std.proofs.Common.{◌≡◌, ℕ, Bool, true, false, cond, List, [], ◌∷◌, Option, Some, None, refl, subst}
use Rattle.std.specs.Prelude.{codes}
use Rattle.std.specs.Str.{bytes_eq}
use Rattle.tl_script.specs.declared.reader.Head.{Head}
use Rattle.tl_script.specs.declared.reader.Head.TheVariants as head
use Rattle.tl_script.specs.Fields.{fields_of}
use Rattle.tl_script.specs.Parts.{Parts, take_line, take_node, take_statement, take_turns, take_vanish}
use Rattle.tl_script.specs.Seen.{head_of, take_directive}
use Rattle.tl_script.specs.Statement.{Names}

abbrev pub head_by : Bool → Bool → Bool → Option Head
head_by node turns vanish = cond node (Some head.Node) (cond turns (Some head.Turns) (cond vanish (Some head.Vanish) None))

abbrev pub taken_by : Bool → Bool → Bool → List (List ℕ) → Parts → Option Parts → Option Parts
taken_by node turns vanish fields parts other =
    cond node (take_node fields parts) (cond turns (take_turns fields parts) (cond vanish (take_vanish fields parts) other))

same_head : (found h : Head) → ◌≡◌ {A = Option Head} (Some found) (Some h) → found ≡ h
same_head found h e = cc

taken_headed : (node turns vanish : Bool) (h : Head) (fields : List (List ℕ)) (parts : Parts) (other : Option Parts)
    → head_by node turns vanish ≡ Some h → taken_by node turns vanish fields parts other ≡ take_directive h fields parts
taken_headed true turns vanish h fields parts other e = subst (λ h. take_node fields parts ≡ take_directive h fields parts) (same_head head.Node h e) refl
taken_headed false true vanish h fields parts other e = subst (λ h. take_turns fields parts ≡ take_directive h fields parts) (same_head head.Turns h e) refl
taken_headed false false true h fields parts other e = subst (λ h. take_vanish fields parts ≡ take_directive h fields parts) (same_head head.Vanish h e) refl
taken_headed false false false h fields parts other e = absurd (cc)

taken_plain : (node turns vanish : Bool) (fields : List (List ℕ)) (parts : Parts) (other : Option Parts)
    → head_by node turns vanish ≡ None → taken_by node turns vanish fields parts other ≡ other
taken_plain true turns vanish fields parts other e = absurd (cc)
taken_plain false true vanish fields parts other e = absurd (cc)
taken_plain false false true fields parts other e = absurd (cc)
taken_plain false false false fields parts other e = refl

pub no_first : (line : List ℕ) → fields_of line ≡ [] → (parts : Parts) (names : Names) → take_line names line parts ≡ take_statement names line parts
unfolding take_line
no_first line e parts names = rw e refl

pub no_head : (line field : List ℕ) (fields : List (List ℕ)) → fields_of line ≡ field ∷ fields → head_of field ≡ None
    → (parts : Parts) (names : Names) → take_line names line parts ≡ take_statement names line parts
unfolding take_line
no_head line field fields e none parts names =
    rw e (taken_plain (bytes_eq field (codes "@node")) (bytes_eq field (codes "@turns")) (bytes_eq field (codes "@vanish")) fields parts (take_statement names line parts) none)

pub has_head : (line field : List ℕ) (fields : List (List ℕ)) (h : Head) → fields_of line ≡ field ∷ fields → head_of field ≡ Some h
    → (parts : Parts) (names : Names) → take_line names line parts ≡ take_directive h fields parts
unfolding take_line
has_head line field fields h e some parts names =
    rw e (taken_headed (bytes_eq field (codes "@node")) (bytes_eq field (codes "@turns")) (bytes_eq field (codes "@vanish")) h fields parts (take_statement names line parts) some)
