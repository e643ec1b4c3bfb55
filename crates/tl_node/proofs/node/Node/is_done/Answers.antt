use Rattle.std.proofs.Common.{◌≡◌, arith, drop, length, nat_le, subst}
use Rattle.std.specs.Vec.{vec_len}
use Rattle.tl_protocol.specs.Move.{is_empty}
use Rattle.tl_node.proofs.Beginning.{all_answered}
use Rattle.tl_node.proofs.node.Node.is_done.Goals as goal

pub returns : goal.returns
returns c =
    let core = c.self.inside.core in
    let whole : length core.answers.items ≡ vec_len core.answers = omega (arith, core.answers.ok.0) in
    rw (c.len-2.ensures, c.len.ensures, ← c.self.view_is)
    (subst (λ n. nat_le (length core.statements) n ≡ is_empty (drop (length core.answers.items) core.statements)) whole
    (all_answered (length core.answers.items) core.statements))
