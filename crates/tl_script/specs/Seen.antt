-- The parts of a script, as a reader keeps them, and the directive of a line.
use Rattle.std.specs.Prelude.{ℕ, List, Option, codes, if◌then◌else◌}
use Rattle.std.specs.declared.option.Option.TheVariants.{Some, None}
use Rattle.std.specs.Str.{bytes_eq}
use Rattle.tl_script.specs.declared.reader.Head.{Head}
use Rattle.tl_script.specs.declared.reader.Head.TheVariants as head
use Rattle.tl_script.specs.declared.reader.Reader.{Reader}
use Rattle.tl_script.specs.Parts.{Parts, take_node, take_turns, take_vanish}
use Rattle.tl_script.specs.Statement.{Names, names_seen}

abbrev pub parts_of : Reader → Parts
parts_of r = record { rows = r.opening; sessions = r.sessions.items; turns = r.turns; vanishes = r.vanishes }

abbrev pub names_of : Reader → Names
names_of r = names_seen r.names

abbrev pub head_of : List ℕ → Option Head
head_of field =
    if bytes_eq field (codes "@node") then Some head.Node
    else if bytes_eq field (codes "@turns") then Some head.Turns
    else if bytes_eq field (codes "@vanish") then Some head.Vanish
    else None

abbrev pub take_directive : Head → List (List ℕ) → Parts → Option Parts
take_directive head.Node fields parts = take_node fields parts
take_directive head.Turns fields parts = take_turns fields parts
take_directive head.Vanish fields parts = take_vanish fields parts
