-- The present statement of a node: it is there, names tables of the catalog, and reads what is left to read.
use Rattle.std.proofs.Common.{◌≡◌, ℕ, zero, suc, ◌+◌, ◌<◌, cond, true, false, List, [], ◌∷◌, Option, Some, drop, length, map, refl, sym, ap, subst, ◌∙◌, arith}
use Rattle.std.specs.Prelude.{slice_get}
use Rattle.std.proofs.lemmas.Option.{same_Some}
use Rattle.tl_schema.specs.declared.access.Access.{Access}
use Rattle.tl_schema.specs.declared.catalog.Catalog.{Catalog}
use Rattle.tl_schema.specs.declared.catalog.Table.{Table}
use Rattle.tl_algebra.specs.declared.condition.Condition.{Condition}
use Rattle.tl_algebra.specs.declared.query.Join.{Join}
use Rattle.tl_algebra.specs.declared.query.Query.{Query}
use Rattle.tl_isolation.specs.declared.bound.Bound.{Bound}
use Rattle.tl_isolation.specs.declared.bound.Bound.TheVariants as bound
use Rattle.tl_isolation.specs.Tables.{table_of}
use Rattle.tl_plan.specs.Access.{accesses_of}
use Rattle.tl_plan.specs.Plan.{NamesTables, accesses_in, numbers_of}
use Rattle.tl_descriptor.specs.Tids.{TidSet}
use Rattle.tl_protocol.specs.World.{Stage, Fresh, Opened, Answering}
use Rattle.tl_journal.specs.Asks.{ToIdle, ToCommit, ToGiveUp, course_in, statement_course}
use Rattle.tl_node.specs.Fits.{FitsReading, HasPresent}
use Rattle.tl_node.specs.Leaves.{learns}
use Rattle.tl_node.specs.Named.{AreNamed}
use Rattle.tl_node.specs.NextRead.{ReadsAt}
use Rattle.tl_node.specs.Present.{IsNoEnd, IsSaid}
use Rattle.tl_node.specs.ReadOn.{is_nested}
use Rattle.tl_node.specs.declared.kept.Core.{Core}
use Rattle.tl_node.specs.declared.work.Reading.{Reading as TheReading}
use Rattle.tl_node.proofs.Found.{first_left}

-- ---- it is there

within : {X : Type 0} (n : ℕ) (xs : List X) (y : X) (ys : List X) → drop n xs ≡ y ∷ ys → n < length xs
within zero [] y ys e = absurd cc
within zero (x ∷ xs) y ys e = omega arith
within (suc n) [] y ys e = absurd cc
within (suc n) (x ∷ xs) y ys e = let rest : n < length xs = within n xs y ys e in omega arith

pub is_there : (core : Core) (P : Bound → Type 0) → HasPresent core P → length core.answers.items < length core.statements
is_there core P h = within (length core.answers.items) core.statements h.statement h.later h.todo_is

-- what is known of it holds of the one in hand
pub holds_of : (core : Core) (P : Bound → Type 0) → HasPresent core P → (statement : Bound) → slice_get core.statements (length core.answers.items) ≡ Some statement → P statement
holds_of core P h statement e =
    subst P (same_Some h.statement statement (sym (first_left (length core.answers.items) core.statements h.statement h.later h.todo_is) ∙ e)) h.holds

-- what follows from what is known of it
pub so_present : (core : Core) (P Q : Bound → Type 0) → ((statement : Bound) → P statement → Q statement) → HasPresent core P → HasPresent core Q
so_present core P Q f h = record { statement = h.statement; later = h.later; todo_is = h.todo_is; holds = f h.statement h.holds }

-- it stays where a low-water mark is learnt
pub learnt_present : (old mid : Core) (floor : TidSet) (P : Bound → Type 0) → mid ≡ learns old floor → HasPresent old P → HasPresent mid P
learnt_present old mid floor P e h = record {
  statement = h.statement;
  later = h.later;
  todo_is = ap (λ (c : Core). drop (length c.answers.items) c.statements) e ∙ h.todo_is;
  holds = h.holds;
}

-- ---- its tables

pub named_at : (catalog : Catalog) (statements : List Bound) (at : ℕ) (statement : Bound) → AreNamed catalog statements → slice_get statements at ≡ Some statement → NamesTables catalog statement
named_at catalog [] at statement h e = absurd cc
named_at catalog (first ∷ later) zero statement h e = subst (NamesTables catalog) (same_Some first statement e) h.0
named_at catalog (first ∷ later) (suc at) statement h e = named_at catalog later at statement h.1 e

-- ---- its reads

as_many : (tables : List Table) (offset : ℕ) (filter : Option Condition) → length (accesses_of tables offset filter) ≡ length tables
as_many [] offset filter = refl
as_many (table ∷ tables) offset filter = ap suc (as_many tables (offset + length table.columns) filter)

mapped : {X Y : Type 0} (f : X → Y) (xs : List X) → length (map f xs) ≡ length xs
mapped f [] = refl
mapped f (x ∷ xs) = ap suc (mapped f xs)

from_many : (catalog : Catalog) (query : Query) → length (accesses_in catalog (bound.Select query)) ≡ length query.from
from_many catalog query =
    as_many (map (table_of catalog) (numbers_of query)) 0 query.filter ∙ mapped (table_of catalog) (numbers_of query) ∙ mapped (λ (join : Join). join.table) query.from

pub reads_within : (catalog : Catalog) (statement : Bound) (at : ℕ) → at < length (accesses_in catalog statement) → ReadsAt statement at
reads_within catalog (bound.Select query) at h = let many : length (accesses_in catalog (bound.Select query)) ≡ length query.from = from_many catalog query in omega arith
reads_within catalog (bound.Change edit) at h = tt
reads_within catalog bound.Begin at h = absurd (omega arith)
reads_within catalog bound.Commit at h = absurd (omega arith)
reads_within catalog bound.Rollback at h = absurd (omega arith)
reads_within catalog (bound.Recover node) at h = absurd (omega arith)

pub reads_at : (core : Core) (statement : Bound) (reading : TheReading) → FitsReading core statement reading → ReadsAt statement reading.at
reads_at core statement reading h =
    reads_within core.catalog statement reading.at (subst (λ (accesses : List Access). reading.at < length accesses) h.accesses h.within)

said_by : (statement : Bound) (at : ℕ) → ReadsAt statement at → IsSaid statement
said_by (bound.Select query) at h = tt
said_by (bound.Change edit) at h = tt
said_by bound.Begin at h = absurd h
said_by bound.Commit at h = absurd h
said_by bound.Rollback at h = absurd h
said_by (bound.Recover node) at h = absurd h

-- a statement that reads is said
pub read_said : (core : Core) (reading : TheReading) → HasPresent core (λ statement. FitsReading core statement reading) → HasPresent core IsSaid
read_said core reading = so_present core (λ statement. FitsReading core statement reading) IsSaid (λ statement h. said_by statement reading.at (reads_at core statement reading h))

-- the next read is one of the same statement
pub reads_more : (core : Core) (reading following : TheReading) → HasPresent core (λ statement. FitsReading core statement reading) → following.accesses ≡ reading.accesses
    → following.at < length following.accesses → length following.found ≡ following.at → HasPresent core (λ statement. FitsReading core statement following)
reads_more core reading following h same further found =
    so_present core (λ statement. FitsReading core statement reading) (λ statement. FitsReading core statement following)
    (λ statement f. record { accesses = same ∙ f.accesses; within = further; found = found }) h

-- ---- a statement without reads

no_end_by : (catalog : Catalog) (statement : Bound) → statement_course catalog statement ≡ ToIdle → IsNoEnd statement
no_end_by catalog (bound.Select query) e = tt
no_end_by catalog (bound.Change edit) e = tt
no_end_by catalog bound.Begin e = tt
no_end_by catalog bound.Commit e = absurd cc
no_end_by catalog bound.Rollback e = absurd cc
no_end_by catalog (bound.Recover node) e = tt

no_end : (catalog : Catalog) (stage : Stage) (statement : Bound) → course_in catalog stage statement ≡ ToIdle → IsNoEnd statement
no_end catalog Fresh statement e = no_end_by catalog statement e
no_end catalog Opened statement e = no_end_by catalog statement e
no_end catalog (Answering told) statement e = absurd (by _ e)
  where
    by : (refused : _) → cond refused ToGiveUp ToCommit ≡ ToIdle → ⊥
    by true f = cc
    by false f = cc

pub idle_no_end : (core : Core) (stage : Stage) → HasPresent core (λ statement. course_in core.catalog stage statement ≡ ToIdle) → HasPresent core IsNoEnd
idle_no_end core stage = so_present core (λ statement. course_in core.catalog stage statement ≡ ToIdle) IsNoEnd (λ statement e. no_end core.catalog stage statement e)

said_else : (statement : Bound) → IsNoEnd statement → is_nested statement ≡ false → IsSaid statement
said_else (bound.Select query) h e = tt
said_else (bound.Change edit) h e = tt
said_else bound.Begin h e = absurd cc
said_else bound.Commit h e = absurd h
said_else bound.Rollback h e = absurd h
said_else (bound.Recover node) h e = absurd cc

-- one that isn't nested is said
pub idle_said : (core : Core) (statement : Bound) → HasPresent core IsNoEnd → slice_get core.statements (length core.answers.items) ≡ Some statement → is_nested statement ≡ false → HasPresent core IsSaid
idle_said core statement h e nested =
    record { statement = h.statement; later = h.later; todo_is = h.todo_is; holds = subst IsSaid (sym same) (said_else statement (subst IsNoEnd same h.holds) nested) }
  where
    same : h.statement ≡ statement
    same = same_Some h.statement statement (sym (first_left (length core.answers.items) core.statements h.statement h.later h.todo_is) ∙ e)
