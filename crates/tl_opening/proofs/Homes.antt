-- Rows at home: under which keys they stand, and that INSERT and a further table leave them there.
use Rattle.std.proofs.Common.{◌≡◌, ℕ, zero, suc, ◌<◌, ◌==◌, true, List, [], ◌∷◌, ◌++◌, length, refl, sym, ap, subst, ◌∙◌, arith}
use Rattle.std.specs.Prelude.{slice_get, unwrap_or}
use Rattle.std.proofs.lemmas.Bool.{and_parts, eqb-true}
use Rattle.tl_values.specs.declared.value.Value.{Value}
use Rattle.tl_values.specs.Key.{key_bytes}
use Rattle.tl_schema.specs.declared.catalog.Table.{Table}
use Rattle.tl_schema.specs.Record.{key_values, record_key}
use Rattle.tl_write.specs.Tables.{is_in}
use Rattle.tl_isolation.specs.Tables.{FitsTable, IsAccepted, IsHome, no_table, table_of}
use Rattle.tl_algebra.specs.declared.edit.Edit.TheVariants.{Insert}
use Rattle.tl_protocol.proofs.Homes.{change_home, laid_home}
use Rattle.tl_opening.specs.Law.{HomeStandsUnderKeys, InsertsStayHome, TablesStayHome}

abbrev Row : Type 0
Row = List Value

-- a key of the table of this number is in no other
one_table : (number other : ℕ) (bytes key : List ℕ) → key ≡ 4 ∷ other ∷ bytes → is_in number key ≡ true → other ≡ number
one_table number other bytes key e i = sym (eqb-true number other (and_parts (number == other) true (ap (is_in number) (sym e) ∙ i)).0)

pub stands_under_keys : HomeStandsUnderKeys
stands_under_keys catalog number tables home key row has i =
    let h : IsHome catalog key row = home key row has in
    subst (λ (m : ℕ). key ≡ record_key m (table_of catalog m) row)
    (one_table number h.number (key_bytes (key_values (table_of catalog h.number) row)) key h.own_key i) h.own_key

-- the tables that are there keep their numbers
same_table : (tables : List Table) (table : Table) (number : ℕ) → number < length tables
    → unwrap_or (slice_get (tables ++ table ∷ []) number) no_table ≡ unwrap_or (slice_get tables number) no_table
same_table [] table number l = absurd (omega arith)
same_table (t ∷ tables) table zero l = refl
same_table (t ∷ tables) table (suc number) l = same_table tables table number (omega arith)

more_tables : (tables : List Table) (table : Table) (number : ℕ) → number < length tables → number < length (tables ++ table ∷ [])
more_tables [] table number l = absurd (omega arith)
more_tables (t ∷ tables) table zero l = omega arith
more_tables (t ∷ tables) table (suc number) l = let more = more_tables tables table number (omega arith) in omega arith

pub tables_stay : TablesStayHome
tables_stay catalog table tables home key row has =
    let h : IsHome catalog key row = home key row has in
    let same : table_of (record { tables = catalog.tables ++ table ∷ [] }) h.number ≡ table_of catalog h.number = same_table catalog.tables table h.number h.table in
    record {
      number = h.number;
      table = more_tables catalog.tables table h.number h.table;
      fits = subst (λ (t : Table). FitsTable t row) (sym same) h.fits;
      accepted = subst (λ (t : Table). IsAccepted t row) (sym same) h.accepted;
      own_key = h.own_key ∙ ap (λ (t : Table). record_key h.number t row) (sym same);
    }

pub inserts_stay : InsertsStayHome
inserts_stay catalog number rows tables effect home suits e =
    laid_home catalog tables effect.writes home (change_home catalog (Insert number rows) tables [] effect home suits e)
