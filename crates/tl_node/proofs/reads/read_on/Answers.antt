use Rattle.std.proofs.Common.{◌≡◌, ◌+◌, ◌<◌, ◌++◌, List, [], ◌∷◌, length, length-append, refl, ap, ◌∙◌, arith}
use Rattle.tl_values.specs.declared.value.Value.{Value}
use Rattle.tl_txn.specs.Calls.{rows_in, rows_taken}
use Rattle.tl_node.specs.declared.work.Reading.{Reading as TheReading}
use Rattle.std.proofs.lemmas.Result.{err_from_is_err_and}
use Rattle.tl_node.proofs.Answered.{own_kept, ready_taken, stays_but}
use Rattle.tl_node.proofs.Presents.{read_said, reads_more}
use Rattle.tl_node.proofs.ReadsOn.{read_wants, reads_all, reads_next}
use Rattle.tl_node.proofs.reads.read_on.Goals as goal

-- the read behind this one, where these rows were found so far
abbrev at_next : TheReading → List (List (List Value)) → TheReading
at_next reading found = record { accesses = reading.accesses; at = reading.at + 1; found = found }

-- what is found so far, with the rows that the transaction gives
more_found : (reading : TheReading) (rows given : List (List Value)) (found : List (List (List Value))) → rows ≡ given → found ≡ reading.found ++ rows ∷ []
    → found ≡ reading.found ++ given ∷ []
more_found reading rows given found e f = f ∙ ap (λ (x : List (List Value)). reading.found ++ x ∷ []) e

pub overflow_add-at : goal.overflow_add-at
overflow_add-at c =
    let within : c.args.reading.at < length c.args.reading.accesses = c.requires.present.holds.within in
    omega arith

pub returns-in_err-push-clause-after : goal.returns-in_err-push-clause-after
returns-in_err-push-clause-after c =
    let p = err_from_is_err_and c.from_residual.result c.from_residual.ensures.1 in
    rw p.1 (λ n sound told so. read_wants c.args.core.now n sound told c.args.reading c.args.stage c.args.txn.phase so (record {}))

pub say-requires-clause-ready : goal.say-requires-clause-ready
say-requires-clause-ready c = ready_taken c.args.txn c.rows.new.self c.requires.ready c.rows.ensures.rest

pub say-requires-clause-own : goal.say-requires-clause-own
say-requires-clause-own c = own_kept c.args.core.now c.args.txn c.rows.new.self (rows_taken c.args.txn.phase) c.requires.own c.rows.ensures.rest

pub returns-then-at-count-clause-after : goal.returns-then-at-count-clause-after
returns-then-at-count-clause-after c =
    reads_all c.args.core.now c.args.reading c.args.txn c.args.stage c.requires.takes c.requires.present c.say.new.core c.rows.new.self c.push.new.self c.say.result (omega arith)
    c.rows.ensures.rest
    (more_found c.args.reading c.rows.result (rows_in c.args.txn.phase) c.push.new.self c.rows.ensures.rows c.in_ok-push.ensures.ok)
    c.say.ensures.after

pub returns-then-at-count-clause-stays : goal.returns-then-at-count-clause-stays
returns-then-at-count-clause-stays c = stays_but c.args.core.now c.say.new.core c.say.ensures.rest

pub say-requires-clause-present : goal.say-requires-clause-present
say-requires-clause-present c = read_said c.args.core.now c.args.reading c.requires.present

pub read_further-requires-clause-present : goal.read_further-requires-clause-present
read_further-requires-clause-present c =
    let found : length c.args.reading.found ≡ c.args.reading.at = c.requires.present.holds.found in
    let more : c.push.new.self ≡ c.args.reading.found ++ c.rows.result ∷ [] = c.in_ok-push.ensures.ok in
    reads_more c.args.core.now c.args.reading (at_next c.args.reading c.push.new.self) c.requires.present refl (omega arith)
    (ap length more ∙ length-append c.args.reading.found (c.rows.result ∷ []) ∙ ap (λ n. n + 1) found)

pub read_further-requires-clause-ready : goal.read_further-requires-clause-ready
read_further-requires-clause-ready c = ready_taken c.args.txn c.rows.new.self c.requires.ready c.rows.ensures.rest

pub returns-clause-after : goal.returns-clause-after
returns-clause-after c =
    reads_next c.args.core.now c.args.reading c.args.txn c.args.stage c.requires.takes c.requires.present c.rows.new.self (at_next c.args.reading c.push.new.self) c.read_further.result
    c.requires.own c.rows.ensures.rest
    (ap (at_next c.args.reading)
    (more_found c.args.reading c.rows.result (rows_in c.args.txn.phase) c.push.new.self c.rows.ensures.rows c.in_ok-push.ensures.ok))
    c.read_further.ensures
