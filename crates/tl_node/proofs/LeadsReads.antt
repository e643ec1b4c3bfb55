-- The first request of a statement that reads.
use Rattle.std.proofs.Common.{◌≡◌, ℕ, [], Some, refl, sym, ap, ◌∙◌, subst}
use Rattle.std.specs.Prelude.{slice_get}
use Rattle.std.proofs.lemmas.Option.{slice_get_within}
use Rattle.tl_schema.specs.declared.access.Access.{Access}
use Rattle.tl_isolation.specs.declared.bound.Bound.{Bound}
use Rattle.tl_isolation.specs.declared.bound.Bound.TheVariants as bound
use Rattle.tl_plan.specs.Plan.{accesses_in}
use Rattle.tl_protocol.specs.World.{Txn}
use Rattle.tl_journal.specs.Ask.{Ask}
use Rattle.tl_journal.specs.Asks.{ToRead, asks_read, course_in, reading_course}
use Rattle.tl_journal.specs.Node.{Reading}
use Rattle.tl_journal.specs.Reads as law
use Rattle.tl_journal.specs.Reads.{Reads, all_reads, begin_reads, read_of}
use Rattle.tl_ask.specs.Asked.{asked}
use Rattle.tl_txn.specs.Calls.{ask_read, reads}
use Rattle.tl_txn.specs.Doing.{txn_in}
use Rattle.tl_txn.specs.declared.phase.Open.{Open}
use Rattle.tl_txn.specs.declared.phase.Phase.{Phase}
use Rattle.tl_txn.specs.declared.phase.Phase.TheVariants as phase
use Rattle.tl_txn.specs.declared.txn.Txn.{Txn as TheTxn}
use Rattle.tl_node.specs.Fits.{IsOwn, TakesStatements}
use Rattle.tl_node.specs.Leads.{Leads, Led}
use Rattle.tl_node.specs.NextRead.{IsNextRead, table_number}
use Rattle.tl_node.specs.View.{stage_of}
use Rattle.tl_node.specs.declared.kept.Core.{Core}
use Rattle.tl_node.specs.declared.work.Course.TheVariants as way
use Rattle.tl_node.specs.declared.work.Reading.{Reading as TheReading}
use Rattle.tl_node.specs.declared.work.Stage.{Stage}
use Rattle.tl_node.specs.declared.work.Work.{Work}
use Rattle.tl_node.specs.declared.work.Work.TheVariants as work
use Rattle.tl_node.proofs.Leads.{asks_so, by_phase, leads_so, settles}
use Rattle.tl_node.proofs.Readings.{at_first, reads_at, reads_begin, reads_kept}

-- one that reads is at its first read
course_at : (statement : Bound) (reading : TheReading) (first : law.Read) → reading_course (reads_at statement reading first []) ≡ ToRead (reads_at statement reading first [])
course_at (bound.Select query) reading first = refl
course_at (bound.Change edit) reading first = refl
course_at statement reading first = refl

pub asks_at : (statement : Bound) (reading : TheReading) (first : law.Read) → asks_read (reads_at statement reading first []).left ≡ ask_read first
asks_at (bound.Select query) reading (law.Point key) = refl
asks_at (bound.Select query) reading (law.Range shard from first before) = refl
asks_at (bound.Change edit) reading (law.Point key) = refl
asks_at (bound.Change edit) reading (law.Range shard from first before) = refl
asks_at statement reading (law.Point key) = refl
asks_at statement reading (law.Range shard from first before) = refl

-- the transaction with this read begun
abbrev begun : TheTxn → Phase → law.Read → TheTxn
begun txn p first = record txn { phase = reads first p; next = Some (asked txn.layout (ask_read first)) }

module _ (core : Core) (statement : Bound) (said : Stage) (live : Open) where
  led_reading : (txn : TheTxn) → txn.layout ≡ core.layout → txn.node ≡ core.number → txn.phase ≡ phase.Ready live → TakesStatements (stage_of said)
      → course_in core.catalog (stage_of said) statement ≡ reading_course (begin_reads (all_reads core.catalog statement))
      → (number : ℕ) (access : Access) → table_number statement 0 ≡ Some number → slice_get (accesses_in core.catalog statement) 0 ≡ Some access
      → Led core statement said live (work.Runs (record { txn = begun txn txn.phase (read_of number access); stage = said; course = way.Reads (at_first core.catalog statement) }))
  led_reading txn layout node is takes to number access number_is access_is =
      let first : law.Read = read_of number access in
      let reading : TheReading = at_first core.catalog statement in
      let t : Txn = txn_in (stage_of said) live in
      let wanted : Reads = reads_at statement reading first [] in
      let meant : course_in core.catalog (stage_of said) statement ≡ ToRead wanted =
      to ∙ ap reading_course (reads_begin core.catalog statement number access number_is access_is) ∙ course_at statement reading first in
      by_phase core statement said live txn.phase (λ (p : Phase). work.Runs (record { txn = begun txn p first; stage = said; course = way.Reads reading })) is
      (record {
        doing_is =
            ap (λ (x : Reads). Reading t x) (reads_kept statement reading live first)
            ∙ settles core t (course_in core.catalog (stage_of said) statement) (ToRead wanted) meant;
        ask_is =
            ap (λ settings. Some (asked settings (ask_read first))) layout
            ∙ ap (λ (ask : Ask). Some (asked core.layout ask)) (sym (asks_at statement reading first))
            ∙ asks_so core t (course_in core.catalog (stage_of said) statement) (ToRead wanted) meant;
        fits = record {
          own = record { layout = layout; node = node };
          course = (tt, record { accesses = refl; within = slice_get_within (accesses_in core.catalog statement) 0 access access_is; found = refl }, takes);
        };
      })

pub leads_reading : (core : Core) (statement : Bound) (txn : TheTxn) (said : Stage) (w : Work) (own : IsOwn core txn) → TakesStatements (stage_of said)
    → course_in core.catalog (stage_of said) statement ≡ reading_course (begin_reads (all_reads core.catalog statement))
    → (reading : TheReading) (after : TheTxn) → reading ≡ at_first core.catalog statement → IsNextRead statement reading txn after
    → w ≡ work.Runs (record { txn = after; stage = said; course = way.Reads reading }) → Leads core statement txn.phase said w
leads_reading core statement txn said w own takes to reading after begins next same =
    leads_so core statement txn said w own (λ answered live is.
    subst (λ (x : Work). Led (record core { answers = answered.answers }) statement said live x)
    (sym
    (same
    ∙ ap (λ (x : TheTxn). work.Runs (record { txn = x; stage = said; course = way.Reads reading })) next.after_is
    ∙ ap (λ (x : TheReading). work.Runs (record { txn = begun txn txn.phase (read_of next.number next.access); stage = said; course = way.Reads x })) begins))
    (led_reading (record core { answers = answered.answers }) statement said live txn own.layout own.node is takes to next.number next.access
    (ap (λ (x : TheReading). table_number statement x.at) (sym begins) ∙ next.number_is)
    (ap (λ (x : TheReading). slice_get x.accesses x.at) (sym begins) ∙ next.access_is)))
