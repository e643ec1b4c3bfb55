use Rattle.std.proofs.Common.{rules, ◌≡◌, true, false, sym, ap, ◌∙◌, drop}
use Rattle.tl_isolation.specs.declared.bound.Bound.{Bound}
use Rattle.tl_isolation.specs.declared.entry.Entry.TheVariants as entry
use Rattle.tl_node.specs.After.{statement_in}
use Rattle.tl_world.specs.Told.{is_answered, takes_memory}
use Rattle.tl_world.proofs.Said.{said_whole, statement_at}
use Rattle.tl_world.proofs.request.say.Goals as goal

-- src/request.rt:142:17
pub returns-in_err-bound-clause-wants : goal.returns-in_err-bound-clause-wants
returns-in_err-bound-clause-wants c =
    let st : statement_in (drop c.args.present c.args.node.now.session) ≡ c.in-Some.statement.now =
    statement_at c.args.node.now.session c.args.present c.in-Some.statement.now (sym c.in-Some.ensures) in
    let p : takes_memory (statement_in (drop c.args.present c.args.node.now.session)) ≡ true = ap takes_memory st ∙ c.in_err-bound.ensures.wants in
    let q : is_answered c.args.mark ≡ false = sym c.is_answer.ensures ∙ c.if-is_answer.false in
    search (rules, p, q)

-- src/request.rt:120:1
pub returns-clause-ok : goal.returns-clause-ok
returns-clause-ok c =
    let st : statement_in (drop c.args.present c.args.node.now.session) ≡ c.in-Some.statement.now =
    statement_at c.args.node.now.session c.args.present c.in-Some.statement.now (sym c.in-Some.ensures) in
    let q : is_answered c.args.mark ≡ false = sym c.is_answer.ensures ∙ c.if-is_answer.false in
    ap (λ (b : Bound). entry.Said c.args.number b c.args.said) (c.in_ok-bound.ensures.ok ∙ sym st)
    ∙ sym (said_whole c.args.number (statement_in (drop c.args.present c.args.node.now.session)) c.args.mark c.args.said q)
