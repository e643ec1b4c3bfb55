-- A node that wants memory at a reply at which it would answer, or see whether there is a rival: what else follows from the
-- event stands all the same.
use Rattle.std.specs.Prelude.{◌&&◌, Bool, true, false, not, List, [], filter, if◌then◌else◌}
use Rattle.std.specs.List.{list_any}
use Rattle.tl_base.specs.declared.place.Settings.{Settings}
use Rattle.tl_schema.specs.declared.catalog.Catalog.{Catalog}
use Rattle.tl_isolation.specs.declared.entry.Answer.{Answer}
use Rattle.tl_isolation.specs.declared.entry.Entry.{Entry}
use Rattle.tl_isolation.specs.declared.entry.Entry.TheVariants as entry
use Rattle.tl_journal.specs.Ask.{Heard}
use Rattle.tl_journal.specs.Node.{Doing, Ending, Node}
use Rattle.tl_journal.specs.Says.{says_at}
use Rattle.tl_journal.specs.Takes.{stopped, takes}

-- what a node says of its own: what a statement answers, and which rival it met. Either is known once the reply is read,
-- which takes memory
abbrev pub is_said : Entry → Bool
is_said (entry.Said node bound said) = true
is_said (entry.Clash tid rival at) = true
is_said e = false

-- whether an answer or a clash is among the entries
abbrev pub has_said : List Entry → Bool
has_said entries = list_any is_said entries

-- the entries but these
abbrev pub unsaid : List Entry → List Entry
unsaid entries = filter (λ (e : Entry). not (is_said e)) entries

-- room for the answer of a transaction is taken before its end is asked
abbrev pub is_ending : Doing → Bool
is_ending (Ending tid told) = true
is_ending doing = false

-- the node asks and says nothing more; what it was to recover stays so
abbrev pub cut_short : Settings → Catalog → Node → Heard → Answer → Node
cut_short settings catalog node heard told = record (stopped node) { floors = (takes settings catalog node heard told).floors }

-- an answer or a clash is to be told at this reply, and isn't told
abbrev pub is_cut : Settings → Catalog → Node → Heard → Answer → List Entry → Bool
is_cut settings catalog node heard told entries = has_said (says_at settings catalog [] node heard told) && not (has_said entries)

-- the node after a reply, of which these entries are told
abbrev pub node_then : Settings → Catalog → Node → Heard → Answer → List Entry → Node
node_then settings catalog node heard told entries =
    if is_cut settings catalog node heard told entries then cut_short settings catalog node heard told else takes settings catalog node heard told
