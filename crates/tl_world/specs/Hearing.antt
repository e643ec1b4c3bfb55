-- What is served, heard and told of a request.
use Rattle.std.specs.Prelude.{◌≡◌, ◌⊎◌, ℕ, Bool, true, false, List, [], ◌∷◌, ◌++◌, Some}
use Rattle.tl_manager.specs.declared.mark.Mark.{Mark}
use Rattle.tl_manager.specs.declared.mark.Mark.TheVariants as mark
use Rattle.tl_manager.specs.declared.request.Reply.{Reply}
use Rattle.tl_isolation.specs.declared.bound.Bound.{Bound}
use Rattle.tl_isolation.specs.declared.entry.Entry.{Entry}
use Rattle.tl_isolation.specs.declared.entry.Said.{Said}
use Rattle.tl_journal.specs.Journal.{IsCall}
use Rattle.tl_places.specs.Places.{HaveServed, PlacesState}
use Rattle.tl_node.specs.After.{IsTold, said_so, statement_in}
use Rattle.tl_node.specs.View.{NodeValue}
use Rattle.tl_node.specs.declared.told.Rest.{Rest}
use Rattle.tl_node.specs.declared.told.Rest.TheVariants as rest
use Rattle.tl_world.specs.declared.request.Served.{Served}
use Rattle.tl_world.specs.Stands.{SlotValue}
use Rattle.tl_world.specs.Told.{is_answered, marked_in, takes_memory}

-- a place has served what this node asks
pub record IsServed (v : NodeValue) (p : PlacesState) (s : Served) (q : PlacesState) : Type 0 where
  pub asks_so : v.ask ≡ Some (record { place = s.place; request = s.request })
  pub call : IsCall s.place s.request s.reply
  pub served : HaveServed s.place s.request s.reply p q

abbrev pub SlotServed : SlotValue → PlacesState → Served → PlacesState → Type 0
SlotServed slot p s q = (v : NodeValue) × (slot.node ≡ Some v) × IsServed v p s q

-- what is committed by a mark
abbrev pub committed_so : Mark → List ℕ
committed_so (mark.Committed tid) = tid ∷ []
committed_so other = []

-- what is told of the statement, or there was no memory to tell it
abbrev pub SaysOrWants : ℕ → Bound → Mark → Said → List Entry → Bool → List Entry → Type 0
SaysOrWants number statement m said marks wants entries =
    ((wants ≡ false) × (entries ≡ marks ++ said_so number statement m said ∷ []))
    ⊎ ((wants ≡ true) × (takes_memory statement ≡ true) × (is_answered m ≡ false) × (entries ≡ marks))

-- what is told, and whether the node asks nothing more
abbrev pub Tells : ℕ → Bound → Mark → Rest → List Entry → Bool → List Entry → Type 0
Tells number statement m rest.Going marks wants entries = (wants ≡ false) × (entries ≡ marks)
Tells number statement m (rest.Said said) marks wants entries = SaysOrWants number statement m said marks wants entries
Tells number statement m rest.Strange marks wants entries = Unit {0}
Tells number statement m rest.NoMemory marks wants entries = (wants ≡ true) × (entries ≡ marks)

-- the node of the slot hears the reply, after these commits
pub record Hears (v : NodeValue) (old : SlotValue) (told : Reply) (commits : List ℕ) (new : SlotValue) (after_commits : List ℕ) (entries : List Entry) (wants : Bool) : Type 0 where
  pub after : NodeValue
  pub slot_is : new ≡ record old { node = Some after }
  pub mark : Mark
  pub said : Rest
  pub told_so : IsTold v told after mark said
  pub session : after.session ≡ v.session
  pub committed : after_commits ≡ commits ++ committed_so mark
  pub tells : Tells old.number (statement_in v.node.todo) mark said (marked_in commits old.number told mark) wants entries
