use Rattle.std.proofs.Common.{rules}
use Rattle.std.proofs.lemmas.List.Sorted.{IsPartitionPoint-from_clause}
use Rattle.tl_descriptor.proofs.Searches.{count_is, ends_below, partitioned}
use Rattle.tl_descriptor.proofs.runs.count_below.Goals as goal

pub returns : goal.returns
returns c =
    count_is c.args.tid c.args.runs.now c.partition_point.result c.partition_point.ensures.bound
    (IsPartitionPoint-from_clause (ends_below c.args.tid) c.args.runs.now c.partition_point.result c.partition_point.ensures.partitioned
    (partitioned c.args.base c.args.tid c.args.runs.now c.requires) (λ a r f called. search rules))
