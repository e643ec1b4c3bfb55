-- A transaction goes on with the statements from a place on.
use Rattle.std.proofs.Common.{◌≡◌, ℕ, ◌+◌, List, ◌∷◌, drop, Some, None, refl, sym, subst}
use Rattle.std.specs.Prelude.{slice_get}
use Rattle.tl_schema.specs.declared.catalog.Catalog.{Catalog}
use Rattle.tl_isolation.specs.declared.bound.Bound.{Bound}
use Rattle.tl_isolation.specs.declared.bound.Bound.TheVariants as bound
use Rattle.tl_protocol.specs.World as protocol
use Rattle.tl_journal.specs.Asks.{course_in, reading_course, statement_course}
use Rattle.tl_journal.specs.Node.{Inside}
use Rattle.tl_journal.specs.Reads.{all_reads, begin_reads}
use Rattle.tl_txn.specs.Doing.{txn_in}
use Rattle.tl_txn.specs.declared.phase.Open.{Open}
use Rattle.tl_txn.specs.declared.phase.Phase.{Phase}
use Rattle.tl_node.specs.After.{IsOpened, Opens}
use Rattle.tl_node.specs.Fits.{TakesStatements}
use Rattle.tl_node.specs.Leads.{Leads, Led}
use Rattle.tl_node.specs.View.{stage_of}
use Rattle.tl_node.specs.declared.kept.Core.{Core}
use Rattle.tl_node.specs.declared.work.Outside.TheVariants as outside
use Rattle.tl_node.specs.declared.work.Stage.{Stage}
use Rattle.tl_node.specs.declared.work.Work.{Work}
use Rattle.tl_node.specs.declared.work.Work.TheVariants as work
use Rattle.tl_node.proofs.Readings.{all_dropped, one_dropped}

opened_on : (core : Core) (statement : Bound) (later : List Bound) (said : Stage) (live : Open) (w : Work) → Led core statement said live w
    → IsOpened core (statement ∷ later) (Inside (txn_in (stage_of said) live)) w
opened_on core statement later said live w led = record { doing_is = led.doing_is; ask_is = led.ask_is; fits = led.fits }

pub some_opens : (core : Core) (at : ℕ) (statement : Bound) (so_far : Phase) (said : Stage) (w : Work) → slice_get core.statements at ≡ Some statement
    → Leads core statement so_far said w → Opens core at so_far said w
some_opens core at statement so_far said w found leads = λ live after is same.
    subst (λ (todo : List Bound). IsOpened after todo (Inside (txn_in (stage_of said) live)) w) (sym (one_dropped at core.statements statement found))
    (opened_on after statement (drop (at + 1) core.statements) said live w (leads live after is same))

pub none_opens : (core : Core) (at : ℕ) (so_far : Phase) (said : Stage) → slice_get core.statements at ≡ None → Opens core at so_far said (work.Outside outside.Done)
none_opens core at so_far said none = λ live after is same.
    subst (λ (todo : List Bound). IsOpened after todo (Inside (txn_in (stage_of said) live)) (work.Outside outside.Done)) (sym (all_dropped at core.statements none))
    (record { doing_is = refl; ask_is = refl; fits = refl })

-- one that takes statements comes to what the statement itself comes to
pub taking : (catalog : Catalog) (said : protocol.Stage) (statement : Bound) → TakesStatements said → course_in catalog said statement ≡ statement_course catalog statement
taking catalog protocol.Fresh statement takes = refl
taking catalog protocol.Opened statement takes = refl
taking catalog (protocol.Answering told) statement takes = absurd takes

-- a statement that is no end goes on by its reads
pub by_reads : (catalog : Catalog) (statement : Bound) → (statement ≡ bound.Commit → ⊥) → (statement ≡ bound.Rollback → ⊥)
    → statement_course catalog statement ≡ reading_course (begin_reads (all_reads catalog statement))
by_reads catalog (bound.Select query) no_commit no_rollback = refl
by_reads catalog (bound.Change edit) no_commit no_rollback = refl
by_reads catalog bound.Commit no_commit no_rollback = absurd (no_commit refl)
by_reads catalog bound.Rollback no_commit no_rollback = absurd (no_rollback refl)
by_reads catalog bound.Begin no_commit no_rollback = refl
by_reads catalog (bound.Recover gone) no_commit no_rollback = refl
