-- What the crates below prove of runs.
use Rattle.std.proofs.Common.{◌≡◌, List, [], append-nil, refl, sym, subst}
use Rattle.std.specs.List.{AllByRecursion}
use Rattle.tl_write.specs.declared.write.Write.{Write}
use Rattle.tl_journal.specs.Journal.{node_after}
use Rattle.tl_journal.specs.Law.{IsRun, own_in}
use Rattle.tl_journal.specs.Node.{Doing, Inside, Reading}
use Rattle.tl_journal.proofs.OwnKeyed.{own_keyed}
use Rattle.tl_node.proofs.OwnSuits.{StandsUnderItsKey, own_suits, own_writes}
use Rattle.tl_world.specs.Premises.{OwnSuitsRuns}

own_same : (d : Doing) → own_in d ≡ own_writes d
own_same (Inside t) = refl
own_same (Reading t reads) = refl
own_same d = refl

-- the own writes of a running node stand under their own keys
pub own_suits_runs : OwnSuitsRuns
own_suits_runs script settings events run number session is runs =
    let n = node_after settings script events session in
    own_suits settings script.catalog n
    (subst (λ (own : List Write). AllByRecursion (StandsUnderItsKey script.catalog) own) (own_same n.doing)
    (own_keyed script settings events [] (subst (IsRun script settings) (sym (append-nil events)) run) number session is runs))
