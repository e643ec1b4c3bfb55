-- One join and one column more.
use Rattle.std.proofs.Common.{◌≡◌, ℕ, suc, ◌+◌, ◌-◌, ◌<◌, List, [], ◌∷◌, ◌++◌, length, get_or, drop, take, ap, sym, subst, ◌∙◌, arith, append_assoc}
use Rattle.std.specs.List.{AllByRecursion}
use Rattle.std.proofs.lemmas.List.{take_more}
use Rattle.tl_schema.specs.declared.catalog.Catalog.{Catalog}
use Rattle.tl_algebra.specs.declared.expression.Expression.TheVariants as bound
use Rattle.tl_algebra.specs.declared.query.Join.{Join}
use Rattle.tl_algebra.specs.declared.query.Output.{Output}
use Rattle.tl_algebra.specs.declared.query.Output.TheVariants as output
use Rattle.tl_grammar.specs.declared.select.FromItem.{FromItem}
use Rattle.tl_lemmas.proofs.Lists.{all_push, drop_read}
use Rattle.tl_scope.specs.Scope.{Source}
use Rattle.tl_bind.specs.Condition.{bound_filter}
use Rattle.tl_bind.specs.Select.{columns_from, joins_from, table_number}

pub joins_next : (catalog : Catalog) (whole here : List Source) (from : List FromItem) (before now : List Join) (i : ℕ) (item : FromItem) (join : Join) → i < length from → item ≡ get_or from i item →
    take (i + 1) whole ≡ here → join ≡ record { table = table_number catalog item.table.text; on = bound_filter here item.on } → now ≡ before ++ join ∷ [] →
    now ++ joins_from catalog whole (i + 1) (drop (i + 1) from) ≡ before ++ joins_from catalog whole i (drop i from)
joins_next catalog whole here from before now i item join h e there is was =
    let more = joins_from catalog whole (i + 1) (drop (i + 1) from) in
    let join_at : List Source → Join = λ (s : List Source). record { table = table_number catalog item.table.text; on = bound_filter s item.on } in
    ap (λ (js : List Join). js ++ more) was
    ∙ append_assoc before (join ∷ []) more
    ∙ ap (λ (j : Join). before ++ j ∷ more) (is ∙ ap join_at (sym there))
    ∙ ap (λ (l : List FromItem). before ++ joins_from catalog whole i l) (sym (drop_read from i item h e))

pub columns_next : (at count : ℕ) (before now : List Output) → at < count → now ≡ before ++ output.Expression (bound.Place at) ∷ [] →
    now ++ columns_from (at + 1) (count - (at + 1)) ≡ before ++ columns_from at (count - at)
columns_next at count before now h was =
    let one : count - at ≡ suc (count - (at + 1)) = omega arith in
    ap (λ (os : List Output). os ++ columns_from (at + 1) (count - (at + 1))) was
    ∙ append_assoc before (output.Expression (bound.Place at) ∷ []) (columns_from (at + 1) (count - (at + 1)))
    ∙ ap (λ (n : ℕ). before ++ columns_from at n) (sym one)

pub all_next : {X : Type 0} (P : X → Type 0) (xs : List X) (i : ℕ) (x : X) → i < length xs → x ≡ get_or xs i x → AllByRecursion P (take i xs) → P x → AllByRecursion P (take (i + 1) xs)
all_next P xs i x h e so_far p = subst (AllByRecursion P) (sym (take_more xs i x h ∙ ap (λ y. take i xs ++ y ∷ []) (sym e))) (all_push P (take i xs) x so_far p)
