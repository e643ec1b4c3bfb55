use Rattle.std.proofs.Common.{◌≡◌, ◌-◌}
use Rattle.tl_codec.specs.Reading.{read_many}
use Rattle.tl_codec.proofs.Many.{with_front}
use Rattle.tl_codec.proofs.spelled.read_many.Given as goal

abbrev pub invariant-loop : goal.invariant-loop
invariant-loop g l = with_front l.items (read_many g.T.Spelled.reading (l.count - l.counter) l.rest) ≡ read_many g.T.Spelled.reading l.count l.bytes
