use Rattle.std.proofs.Common.{◌≡◌, true, sym, subst}
use Rattle.std.specs.List.{AllByRecursion}
use Rattle.tl_collect.specs.Floors.{StandsIn}
use Rattle.tl_descriptor.specs.Tids.{begins}
use Rattle.tl_collect.proofs.Least.{begins_each, is_one}
use Rattle.tl_collect.proofs.floors.Floors.least.Goals as goal

pub returns-clause-is_one : goal.returns-clause-is_one
returns-clause-is_one c = subst (StandsIn c.args.self.now) (sym c.lowest.ensures.exact) (is_one c.args.self.now c.lowest.ensures.some)

pub returns-clause-begins_all : goal.returns-clause-begins_all
returns-clause-begins_all c canonical chain =
    subst (λ least. AllByRecursion (λ mark. begins least mark ≡ true) c.args.self.now) (sym c.lowest.ensures.exact)
    (begins_each c.args.self.now canonical chain)
