use Rattle.std.proofs.Common.{ℕ, ◌-◌, ◌<◌, bit_or, ap, arith}
use Rattle.tl_base.specs.declared.node.NodeSet.{NodeSet}
use Rattle.tl_base.proofs.Shifts.{one_bit}
use Rattle.tl_base.proofs.node.NodeSet.insert.Goals as goal

pub returns : goal.returns
returns c =
    let small : c.number.result - 1 < 16 = omega arith in
    let set : ℕ → NodeSet = λ b. record { 0 = bit_or c.args.self.now.0 b } in
    rw c.number.ensures.value (ap set (one_bit (c.args.node - 1) (rw c.number.ensures.value at small)))
