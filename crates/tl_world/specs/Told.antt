-- What the driver tells of an event, by the numbers of the commits so far.
use Rattle.std.specs.Prelude.{ℕ, ◌+◌, zero, suc, Bool, true, false, List, [], ◌∷◌}
use Rattle.tl_descriptor.specs.Tids.{TidSet, has}
use Rattle.tl_manager.specs.declared.mark.Mark.{Mark}
use Rattle.tl_manager.specs.declared.mark.Mark.TheVariants as mark
use Rattle.tl_manager.specs.declared.request.ManagerReply.TheVariants as manager
use Rattle.tl_manager.specs.declared.request.Reply.{Reply}
use Rattle.tl_manager.specs.declared.request.Reply.TheVariants as reply
use Rattle.tl_isolation.specs.declared.bound.Bound.{Bound}
use Rattle.tl_isolation.specs.declared.bound.Bound.TheVariants as bound
use Rattle.tl_isolation.specs.declared.entry.Entry.{Entry}
use Rattle.tl_isolation.specs.declared.entry.Entry.TheVariants as entry
use Rattle.tl_node.specs.After.{marked}

-- up to the last one that counts
abbrev pub counted_on : Bool → ℕ → ℕ
counted_on true count = count + 1
counted_on false zero = zero
counted_on false (suc count) = suc count + 1

-- how many of the commits there are up to the last one that the set has
abbrev pub first_in : TidSet → List ℕ → ℕ
first_in set [] = 0
first_in set (tid ∷ tids) = counted_on (has set tid) (first_in set tids)

abbrev pub began_in : List ℕ → ℕ → ℕ → Reply → List Entry
began_in tids node tid (reply.Manager (manager.Began number snapshot floor)) = entry.Began node tid (first_in snapshot tids) ∷ []
began_in tids node tid other = []

-- the entry of a mark
abbrev pub marked_in : List ℕ → ℕ → Reply → Mark → List Entry
marked_in tids node told (mark.Began tid) = began_in tids node tid told
marked_in tids node told other = marked [] node told other

-- a statement that takes memory to copy
abbrev pub takes_memory : Bound → Bool
takes_memory (bound.Select query) = true
takes_memory (bound.Change edit) = true
takes_memory statement = false

-- what was said before is answered
abbrev pub is_answered : Mark → Bool
is_answered mark.Answered = true
is_answered other = false
