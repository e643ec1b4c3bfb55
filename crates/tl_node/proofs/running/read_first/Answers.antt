use Rattle.std.proofs.Common.{◌<◌, List, length, ap, subst, ◌∙◌}
use Rattle.tl_values.specs.declared.value.Value.{Value}
use Rattle.tl_schema.specs.declared.access.Access.{Access}
use Rattle.tl_plan.specs.Plan.{accesses_in}
use Rattle.tl_node.proofs.LeadsReads.{leads_reading}
use Rattle.tl_node.proofs.Presents.{reads_within}
use Rattle.tl_node.proofs.running.read_first.Goals as goal

pub returns : goal.returns
returns c =
    let core = c.args.core.now in
    leads_reading core c.args.statement.now c.args.txn c.args.stage c.running.result c.requires.own c.requires.takes c.requires.to
    (record { accesses = c.args.accesses; at = 0; found = c.new-found.result }) c.read_next.new.txn
    (ap (λ (a : List Access). record { accesses = a; at = 0; found = c.new-found.result }) c.requires.accesses
    ∙ ap (λ (f : List (List (List Value))). record { accesses = accesses_in core.catalog c.args.statement.now; at = 0; found = f }) c.new-found.ensures)
    c.in_ok-read_next.ensures.ok c.running.ensures

pub read_next-requires-clause-within : goal.read_next-requires-clause-within
read_next-requires-clause-within c = c.requires.some

pub read_next-requires-clause-reads : goal.read_next-requires-clause-reads
read_next-requires-clause-reads c =
    reads_within c.args.core.now.catalog c.args.statement.now 0 (subst (λ (accesses : List Access). 0 < length accesses) c.requires.accesses c.requires.some)
