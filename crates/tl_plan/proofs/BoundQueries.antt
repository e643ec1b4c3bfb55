-- Of a query that is bound, rows by its accesses suffice.
use Rattle.std.proofs.Common.{◌≡◌, List}
use Rattle.tl_values.specs.declared.value.Value.{Value}
use Rattle.tl_schema.specs.declared.access.Access.{Access}
use Rattle.tl_schema.specs.declared.catalog.Catalog.{Catalog}
use Rattle.tl_algebra.specs.declared.query.Query.{Query}
use Rattle.tl_isolation.specs.Queries.{SuitsQuery, columns_in}
use Rattle.tl_isolation.proofs.Grouped.{suits_groups}
use Rattle.tl_plan.specs.Law.{AreGiven, Suffice}
use Rattle.tl_plan.specs.Plan.{query_accesses, tables_of}
use Rattle.tl_plan.proofs.Alike.{compares_values}

pub bound_suffice : (catalog : Catalog) (query : Query) (accesses : List Access) (wholes givens : List (List (List Value))) → SuitsQuery catalog query
    → accesses ≡ query_accesses catalog query → AreGiven (tables_of catalog query) accesses wholes givens → Suffice catalog query accesses wholes givens
bound_suffice catalog query accesses wholes givens suits planned given =
    record { planned = planned; compares = compares_values (columns_in catalog query) query.filter suits.passes; groups = suits_groups catalog query suits; given = given }
