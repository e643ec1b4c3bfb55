-- What stands in a reply that has no bytes.
use Rattle.tl_base.specs.declared.store.StoreReply.{StoreReply}
use Rattle.tl_base.specs.declared.store.StoreReply.TheVariants as reply
use Rattle.tl_cells.specs.declared.shard.Outcome.{Outcome}
use Rattle.tl_cells.specs.declared.shard.Outcome.TheVariants as outcome

abbrev pub reply_with : Outcome → StoreReply
reply_with (outcome.Stored stamp) = reply.Stored stamp
reply_with (outcome.Moved stamp) = reply.Moved stamp
reply_with (outcome.Count old) = reply.Count old
reply_with (outcome.Full old) = reply.Full old
