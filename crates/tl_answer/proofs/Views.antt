-- What is seen of the tables that a SELECT reads.
use Rattle.std.proofs.Common.{◌≡◌, ℕ, List, [], ◌∷◌, ◌++◌, length, sym, ap, ◌∙◌, append-nil, arith}
use Rattle.tl_values.specs.declared.value.Value.{Value}
use Rattle.tl_schema.specs.declared.catalog.Catalog.{Catalog}
use Rattle.tl_schema.specs.declared.catalog.Table.{Table}
use Rattle.tl_write.specs.declared.write.Write.{Write}
use Rattle.tl_write.specs.Tables.{laid_rows}
use Rattle.tl_isolation.specs.Tables.{rows_in, table_of}
use Rattle.tl_journal.specs.Takes.{tables_seen, view_read}
use Rattle.tl_answer.proofs.Laid.{rows_laid}

-- rows with the own writes of their table over them are what is seen of it
pub seen_laid : (catalog : Catalog) (number : ℕ) (table : Table) (own : List Write) (rows laid : List (List Value)) → table ≡ table_of catalog number
    → laid ≡ laid_rows number table own rows → laid ≡ rows_in number (view_read catalog number own rows)
seen_laid catalog number table own rows laid e f =
    f ∙ ap (λ (t : Table). laid_rows number t own rows) e ∙ sym (rows_laid number (table_of catalog number) rows own)

-- what is seen is all where nothing more was read
pub all_seen : (catalog : Catalog) (numbers : List ℕ) (own : List Write) (seen all rest : List (List (List Value))) → length rest ≡ 0
    → seen ++ tables_seen catalog numbers own rest ≡ all → seen ≡ all
all_seen catalog [] own seen all rest e h = sym (append-nil seen) ∙ h
all_seen catalog (number ∷ numbers) own seen all [] e h = sym (append-nil seen) ∙ h
all_seen catalog (number ∷ numbers) own seen all (found ∷ rest) e h = absurd (omega arith)
