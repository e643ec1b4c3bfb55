use Rattle.tl_versions.proofs.Lists.{prune_keeps}
use Rattle.tl_versions.proofs.laws.prune_keeps_the_visible.Goals as goal

pub returns : goal.returns
returns c = record {
  within = prune_keeps;
  begun = λ set floor versions canonical_floor canonical_set e. prune_keeps set floor versions ((c.begins_is_an_order.ensures.within floor set canonical_floor canonical_set).0 e);
}
