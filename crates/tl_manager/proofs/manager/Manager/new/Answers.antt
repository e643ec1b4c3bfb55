use Rattle.std.proofs.Common.{List, arith, ap, ◌∙◌}
use Rattle.std.specs.FinMap as map
use Rattle.std.specs.List.{list_all}
use Rattle.std.specs.Prelude.{flat_map}
use Rattle.tl_descriptor.specs.declared.run.Run.{Run}
use Rattle.tl_manager.specs.Notices.{Notices}
use Rattle.tl_manager.specs.Ranges.{has_number, numbers_of}
use Rattle.tl_manager.proofs.manager.Manager.new.Goals as goal

pub returns-clause-opens : goal.returns-clause-opens
returns-clause-opens c = record {
  copy = c.new.ensures;
  numbers = ap (λ (ranges : List Run). flat_map numbers_of ranges) c.new-2.ensures;
  ranges = ap (λ (ranges : List Run). list_all has_number ranges) c.new-2.ensures;
  enough = omega arith;
  active = c.new-3.ensures.items;
  notices = λ node. ap (λ (notices : Notices). map.get notices node) c.new-4.ensures ∙ map.get-empty _ node;
}
