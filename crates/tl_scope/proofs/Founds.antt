-- What is found in several items.
use Rattle.std.proofs.Common.{◌≡◌, refl}
use Rattle.tl_scope.specs.declared.found.Found.{Found}
use Rattle.tl_scope.specs.declared.found.Found.TheVariants.{NoTable, NoColumn, One, Several}
use Rattle.tl_scope.specs.Scope.{also}

pub also_assoc : (a b c : Found) → also (also a b) c ≡ also a (also b c)
also_assoc NoTable b c = refl
also_assoc NoColumn NoTable NoTable = refl
also_assoc NoColumn NoTable NoColumn = refl
also_assoc NoColumn NoTable (One c) = refl
also_assoc NoColumn NoTable Several = refl
also_assoc NoColumn NoColumn NoTable = refl
also_assoc NoColumn NoColumn NoColumn = refl
also_assoc NoColumn NoColumn (One c) = refl
also_assoc NoColumn NoColumn Several = refl
also_assoc NoColumn (One b) NoTable = refl
also_assoc NoColumn (One b) NoColumn = refl
also_assoc NoColumn (One b) (One c) = refl
also_assoc NoColumn (One b) Several = refl
also_assoc NoColumn Several NoTable = refl
also_assoc NoColumn Several NoColumn = refl
also_assoc NoColumn Several (One c) = refl
also_assoc NoColumn Several Several = refl
also_assoc (One a) NoTable NoTable = refl
also_assoc (One a) NoTable NoColumn = refl
also_assoc (One a) NoTable (One c) = refl
also_assoc (One a) NoTable Several = refl
also_assoc (One a) NoColumn NoTable = refl
also_assoc (One a) NoColumn NoColumn = refl
also_assoc (One a) NoColumn (One c) = refl
also_assoc (One a) NoColumn Several = refl
also_assoc (One a) (One b) NoTable = refl
also_assoc (One a) (One b) NoColumn = refl
also_assoc (One a) (One b) (One c) = refl
also_assoc (One a) (One b) Several = refl
also_assoc (One a) Several NoTable = refl
also_assoc (One a) Several NoColumn = refl
also_assoc (One a) Several (One c) = refl
also_assoc (One a) Several Several = refl
also_assoc Several NoTable NoTable = refl
also_assoc Several NoTable NoColumn = refl
also_assoc Several NoTable (One c) = refl
also_assoc Several NoTable Several = refl
also_assoc Several NoColumn NoTable = refl
also_assoc Several NoColumn NoColumn = refl
also_assoc Several NoColumn (One c) = refl
also_assoc Several NoColumn Several = refl
also_assoc Several (One b) NoTable = refl
also_assoc Several (One b) NoColumn = refl
also_assoc Several (One b) (One c) = refl
also_assoc Several (One b) Several = refl
also_assoc Several Several NoTable = refl
also_assoc Several Several NoColumn = refl
also_assoc Several Several (One c) = refl
also_assoc Several Several Several = refl

pub also_none : (a : Found) → also a NoColumn ≡ a
also_none NoTable = refl
also_none NoColumn = refl
also_none (One a) = refl
also_none Several = refl
