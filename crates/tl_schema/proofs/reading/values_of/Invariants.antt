use Rattle.std.proofs.Common.{◌≡◌, ◌-◌}
use Rattle.tl_codec.specs.Reading.{read_many}
use Rattle.tl_codec.proofs.Many.{with_front}
use Rattle.tl_schema.specs.Reading.{read_value}
use Rattle.tl_schema.proofs.reading.values_of.Given as goal

abbrev pub invariant-loop : goal.invariant-loop
invariant-loop l = with_front l.values (read_many read_value (l.count - l.counter) l.rest) ≡ read_many read_value l.count l.bytes
