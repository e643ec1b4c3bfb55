use Rattle.std.proofs.Common.{◌≡◌, ◌++◌, drop, map}
use Rattle.tl_names.specs.Define.{form_place}
use Rattle.tl_names.proofs.create.form_places.Given as goal

-- those so far and those that are left
abbrev pub invariant-loop-name : goal.invariant-loop-name
invariant-loop-name l = l.places ++ map (form_place l.columns) (drop l.name-index l.name-items) ≡ map (form_place l.columns) l.names
