-- Own writes at home suit every change, as those of a running node do.
use Rattle.std.proofs.Common.{◌≡◌, ℕ, true, List, ◌∷◌, Option, Some, sym, ap, subst, ◌∙◌}
use Rattle.std.specs.Prelude.{◌==◌}
use Rattle.std.proofs.lemmas.Bool.{and_parts, eqb-true}
use Rattle.tl_lemmas.proofs.Lists.{weaker}
use Rattle.tl_values.specs.declared.value.Value.{Value}
use Rattle.tl_values.specs.Key.{key_bytes}
use Rattle.tl_schema.specs.declared.catalog.Catalog.{Catalog}
use Rattle.tl_schema.specs.Record.{key_values, record_key}
use Rattle.tl_algebra.specs.declared.edit.Edit.{Edit}
use Rattle.tl_write.specs.declared.write.Write.{Write}
use Rattle.tl_write.specs.Change.{number_of}
use Rattle.tl_write.specs.Tables.{is_in}
use Rattle.tl_isolation.specs.Tables.{IsHome, table_of}
use Rattle.tl_protocol.specs.Store.{Key}
use Rattle.tl_protocol.proofs.Shown.{AreHomeWrites}
use Rattle.tl_answer.specs.Own.{OwnSuits, StandsUnderKey}

-- a key of the table of this number is in no other
same_number : (number other : ℕ) (bytes key : Key) → key ≡ 4 ∷ other ∷ bytes → is_in number key ≡ true → other ≡ number
same_number number other bytes key e i = sym (eqb-true number other (and_parts (number == other) true (ap (is_in number) (sym e) ∙ i)).0)

home_key : (catalog : Catalog) (number : ℕ) (key : Key) (row : List Value) → IsHome catalog key row → is_in number key ≡ true
    → key ≡ record_key number (table_of catalog number) row
home_key catalog number key row h i =
    subst (λ (m : ℕ). key ≡ record_key m (table_of catalog m) row)
    (same_number number h.number (key_bytes (key_values (table_of catalog h.number) row)) key h.own_key i) h.own_key

pub home_suits : (catalog : Catalog) (edit : Edit) (own : List Write) → AreHomeWrites catalog own → OwnSuits catalog edit own
home_suits catalog edit own h = record {
  keyed = weaker (λ (w : Write). (row : List Value) → ◌≡◌ {A = Option (List Value)} w.row (Some row) → IsHome catalog w.key row)
      (StandsUnderKey (number_of edit) (table_of catalog (number_of edit)))
      (λ w home row i e. home_key catalog (number_of edit) w.key row (home row e) i) own h;
}
