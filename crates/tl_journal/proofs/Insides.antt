-- What a node asks outside a transaction and inside one, by where its statement leads.
use Rattle.std.proofs.Common.{◌≡◌, ℕ, Bool, true, false, ◌⊎◌, inl, inr, List, [], ◌∷◌, refl, ⊎_elim}
use Rattle.std.specs.Prelude.{if◌then◌else◌}
use Rattle.tl_base.specs.declared.place.Settings.{Settings}
use Rattle.tl_schema.specs.declared.catalog.Catalog.{Catalog}
use Rattle.tl_schema.specs.declared.catalog.Setup.{Setup}
use Rattle.tl_isolation.specs.declared.bound.Bound.{Bound}
use Rattle.tl_isolation.specs.declared.bound.Bound.TheVariants as bound
use Rattle.tl_isolation.specs.State.{is_refusal}
use Rattle.tl_protocol.specs.World.{Stage, Fresh, Opened, Answering, Txn, Fact}
use Rattle.tl_protocol.specs.Move.{is_nested}
use Rattle.tl_protocol.specs.Run.{Layout}
use Rattle.tl_journal.specs.Reads.{Read, Reads}
use Rattle.tl_journal.specs.Node.{Outside, Inside, Node}
use Rattle.tl_journal.specs.Asks.{Course, ToBegin, ToRead, ToIdle, ToCommit, ToGiveUp, ToRecover, course_in, reading_course, statement_course}
use Rattle.tl_journal.proofs.Meets.{is_single}
use Rattle.tl_journal.proofs.Goings.{Steps}
use Rattle.tl_journal.proofs.Begins.{nested_goes, outside_begins, outside_refused, so_far}
use Rattle.tl_journal.proofs.Ends.{commit_goes, give_up_goes}

-- where a statement may lead inside a transaction
abbrev LeadsTo : Bound → Course → Type 0
LeadsTo statement ToBegin = ⊥
LeadsTo statement (ToRead reads) = is_single statement ≡ true
LeadsTo statement ToIdle = (is_single statement ≡ true) ⊎ (is_nested statement ≡ true)
LeadsTo statement ToCommit = Unit {0}
LeadsTo statement ToGiveUp = Unit {0}
LeadsTo statement (ToRecover gone) = ⊥

leads_reading : (statement : Bound) (reads : Reads) → is_single statement ≡ true → LeadsTo statement (reading_course reads)
leads_reading statement reads e = by reads.left
  where
    by : (left : List Read) → LeadsTo statement (reading_course (record reads { left = left }))
    by [] = inl e
    by (read ∷ left) = e

leads_statement : (catalog : Catalog) (statement : Bound) → LeadsTo statement (statement_course catalog statement)
leads_statement catalog bound.Begin = inr refl
leads_statement catalog (bound.Select query) = leads_reading (bound.Select query) _ refl
leads_statement catalog (bound.Change edit) = leads_reading (bound.Change edit) _ refl
leads_statement catalog bound.Commit = tt
leads_statement catalog bound.Rollback = tt
leads_statement catalog (bound.Recover gone) = inr refl

leads_to : (catalog : Catalog) (stage : Stage) (statement : Bound) → LeadsTo statement (course_in catalog stage statement)
leads_to catalog Fresh statement = leads_statement catalog statement
leads_to catalog Opened statement = leads_statement catalog statement
leads_to catalog (Answering told) statement = by (is_refusal told)
  where
    by : (b : Bool) → LeadsTo statement (if b then ToGiveUp else ToCommit)
    by true = tt
    by false = tt

module _ (R : Txn → List Fact → Reads → Type 0) (layout : Layout) (setup : Setup) (settings : Settings) where
  -- outside a transaction, where it is shown of RECOVER
  pub outside_goes : (node : Node) (statement : Bound) (later : List Bound)
      → ((gone : ℕ) → statement ≡ bound.Recover gone → Steps R layout setup settings (so_far node (bound.Recover gone ∷ later) Outside))
      → Steps R layout setup settings (so_far node (statement ∷ later) Outside)
  outside_goes node bound.Begin later recovers = outside_begins R layout setup settings node bound.Begin later refl
  outside_goes node (bound.Select query) later recovers = outside_begins R layout setup settings node (bound.Select query) later refl
  outside_goes node (bound.Change edit) later recovers = outside_begins R layout setup settings node (bound.Change edit) later refl
  outside_goes node bound.Commit later recovers = outside_refused R layout setup settings node bound.Commit later refl
  outside_goes node bound.Rollback later recovers = outside_refused R layout setup settings node bound.Rollback later refl
  outside_goes node (bound.Recover gone) later recovers = recovers gone refl

  -- inside one, where it is shown of a SELECT or a change, with reads and without
  pub inside_goes : (node : Node) (statement : Bound) (later : List Bound) (t : Txn)
      → ((reads : Reads) → course_in setup.catalog t.stage statement ≡ ToRead reads → is_single statement ≡ true
      → Steps R layout setup settings (so_far node (statement ∷ later) (Inside t)))
      → (course_in setup.catalog t.stage statement ≡ ToIdle → is_single statement ≡ true
      → Steps R layout setup settings (so_far node (statement ∷ later) (Inside t)))
      → Steps R layout setup settings (so_far node (statement ∷ later) (Inside t))
  inside_goes node statement later t reading idle =
      by (course_in setup.catalog t.stage statement) refl (leads_to setup.catalog t.stage statement)
    where
      by : (c : Course) → course_in setup.catalog t.stage statement ≡ c → LeadsTo statement c
          → Steps R layout setup settings (so_far node (statement ∷ later) (Inside t))
      by ToBegin e l = absurd l
      by (ToRecover gone) e l = absurd l
      by (ToRead reads) e l = reading reads e l
      by ToIdle e l = ⊎_elim (λ h. idle e h) (λ h. nested_goes R layout setup settings node statement later t e h) l
      by ToCommit e l = commit_goes R layout setup settings node statement later t e
      by ToGiveUp e l = give_up_goes R layout setup settings node statement later t e
