use Rattle.std.proofs.Common.{ℕ, List, ◌++◌, ◌∙◌, ap, append_assoc}
use Rattle.std.specs.Int.{w64, to_be_bytes}
use Rattle.tl_descriptor.proofs.run.RunSpelled.write.Goals as goal

pub returns : goal.returns
returns c =
    c.in_ok-write_u64-2.ensures ∙ ap (λ (front : List ℕ). front ++ to_be_bytes w64 c.args.self.now.high) c.in_ok-write_u64.ensures
    ∙ append_assoc c.args.out.now (to_be_bytes w64 c.args.self.now.low) (to_be_bytes w64 c.args.self.now.high)
