use Rattle.std.proofs.Common.{refl, vec_len, ◌-◌, arith}
use Rattle.tl_script.specs.Seen.{parts_of}
use Rattle.tl_script.proofs.Sessions.{gets_placed, placed_last}
use Rattle.tl_script.proofs.reader.Reader.place.Goals as goal

pub returns-in-Some-clause-takes : goal.returns-in-Some-clause-takes
returns-in-Some-clause-takes c =
    let sessions = c.args.self.now.sessions in
    let placed = placed_last c.args.statement (parts_of c.args.self.now) (vec_len sessions - 1) c.in-Some.session.now c.push_statement.new.session
    c.in-Some.ensures.value (omega (arith, c.in-Some.ensures.variant.0 refl, sessions.ok.0)) in
    gets_placed c.push_statement.result _ _ placed c.push_statement.ensures.pushed c.push_statement.ensures.never
