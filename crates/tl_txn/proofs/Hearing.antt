-- What follows once a reply is read.
use Rattle.std.proofs.Common.{◌≡◌, Bool, false, refl, sym, subst}
use Rattle.tl_base.specs.declared.place.Settings.{Settings}
use Rattle.tl_manager.specs.declared.mark.Mark.{Mark}
use Rattle.tl_journal.specs.Ask.{Heard}
use Rattle.tl_txn.specs.After.{IsTaken, IsTold, does, out}
use Rattle.tl_txn.specs.Taken.{Taken, strange, unless_odd}
use Rattle.tl_txn.specs.declared.after.After.{After}

-- what it is taken for where the reply says the one is what it is taken for where it says the other
pub taken_as : (settings : Settings) (takes : Heard → Taken) (h g : Heard) (after : After) → h ≡ g
    → IsTaken settings (takes g) after → IsTaken settings (takes h) after
taken_as settings takes h g after e t = subst (λ (x : Heard). IsTaken settings (takes x) after) (sym e) t

pub taken_so : (settings : Settings) (taken as_well : Taken) (after : After) → taken ≡ as_well
    → IsTaken settings as_well after → IsTaken settings taken after
taken_so settings taken as_well after e t = subst (λ (x : Taken). IsTaken settings x after) (sym e) t

-- memory was wanting
pub stopped : (settings : Settings) (taken : Taken) (after : After) (told : Mark) → after ≡ out told → IsTold taken.step told
    → IsTaken settings taken after
stopped settings taken after told e t = subst (λ (x : After). IsTaken settings taken x) (sym e) (refl, t)

-- it does so
pub done : (settings : Settings) (taken : Taken) (after : After) → after ≡ does settings strange → taken ≡ strange
    → IsTaken settings taken after
done settings taken after e t = subst (λ (x : After). IsTaken settings taken x) (sym e) (taken_so settings taken strange (does settings strange) t refl)

pub not_odd : (odd : Bool) (taken : Taken) → odd ≡ false → unless_odd odd taken ≡ taken
not_odd odd taken e = rw e refl
