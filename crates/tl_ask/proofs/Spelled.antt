-- What is spelled is read, and nothing is read from what is no spelling.
use Rattle.std.proofs.Common.{◌≡◌, ℕ, List, Option, Some, None, refl, sym, ap, ◌∙◌, inl, inr}
use Rattle.tl_versions.specs.declared.version.Version.{Version}
use Rattle.tl_versions.specs.Cell.{IsSpelled, spelling}
use Rattle.tl_versions.specs.Reading.{read_cell}

pub none_read : {A : Type 0} → (read : Option A) → ((x : A) → read ≡ Some x → ⊥) → None ≡ read
none_read None never = refl
none_read (Some x) never = absurd (never x refl)

pub cell_is_read : (bytes : List ℕ) (versions : List Version) → read_cell (spelling versions) ≡ Some versions → IsSpelled bytes versions → Some versions ≡ read_cell bytes
unfolding read_cell
cell_is_read bytes versions again (inl e) = sym (ap read_cell e ∙ again)
cell_is_read bytes versions again (inr e) = rw (e.0, e.1) refl
