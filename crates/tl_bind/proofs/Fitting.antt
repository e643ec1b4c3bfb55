-- A condition without faults is bound to one that compares only what is of one kind.
use Rattle.std.proofs.Common.{◌≡◌, ℕ, zero, suc, Bool, true, false, ◌&&◌, List, [], ◌∷◌, ◌++◌, map, Option, Some, None, refl, ap, sym, subst, ◌∙◌, rules}
use Rattle.std.specs.Prelude.{slice_get, flat_map}
use Rattle.std.specs.List.{list_all, list_any}
use Rattle.std.proofs.lemmas.Bool.{or_left, or_right}
use Rattle.std.proofs.lemmas.Str.{is_utf8-from_IsUtf8}
use Rattle.tl_values.specs.declared.value.Comparison.{Comparison}
use Rattle.tl_values.specs.declared.value.Kind.{Kind}
use Rattle.tl_values.specs.declared.value.Kind.TheVariants as type
use Rattle.tl_values.specs.declared.value.Value.{Value}
use Rattle.tl_values.specs.declared.value.Value.TheVariants as value
use Rattle.tl_values.specs.Key.{AreValues, IsValue}
use Rattle.tl_schema.specs.declared.catalog.Column.{Column}
use Rattle.tl_algebra.specs.declared.condition.Condition.{Condition}
use Rattle.tl_algebra.specs.declared.condition.Condition.TheOpen.{Condition-F}
use Rattle.tl_algebra.specs.declared.condition.Condition.TheFolds.{fold-Condition, fold_out-Condition, map-Condition}
use Rattle.tl_algebra.specs.declared.condition.Condition.TheVariants as bound
use Rattle.tl_algebra.specs.declared.condition.Condition.TheVariants.{outs-Test, outs-IsNull, outs-Not, outs-And, outs-Or}
use Rattle.tl_algebra.specs.declared.condition.Side.{Side}
use Rattle.tl_algebra.specs.declared.condition.Side.TheVariants as side
use Rattle.tl_isolation.specs.Kinds.{are_alike, compares_alike, every_kind, has_column, is_of_kind, is_value, side_gives}
use Rattle.tl_isolation.specs.Kinds as kinds
use Rattle.tl_grammar.specs.declared.condition.Cond.{Cond, roll-Cond}
use Rattle.tl_grammar.specs.declared.condition.Cond.TheOpen.{Cond-F}
use Rattle.tl_grammar.specs.declared.condition.Cond.TheOpen as layer
use Rattle.tl_grammar.specs.declared.condition.Cond.TheFolds.{fold-roll-Cond, ind-Cond, map-Cond}
use Rattle.tl_grammar.specs.declared.name.ColumnName.{ColumnName}
use Rattle.tl_grammar.specs.declared.operand.Operand.{Operand}
use Rattle.tl_grammar.specs.declared.operand.Operand.TheVariants as operand
use Rattle.tl_scope.specs.declared.fault.BindFault.{BindFault}
use Rattle.tl_scope.specs.declared.fault.BindKind.TheVariants as kind
use Rattle.tl_scope.specs.declared.found.Found.{Found}
use Rattle.tl_scope.specs.declared.found.Found.TheVariants.{NoTable, NoColumn, One, Several}
use Rattle.tl_scope.specs.Change.{column_kind}
use Rattle.tl_scope.specs.Condition.{all_of, condition_faults, condition_layer, differ, operand_at, operand_faults, operand_kind, test_faults, value_kind}
use Rattle.tl_scope.specs.Fault.{fault_if}
use Rattle.tl_scope.specs.Scope.{Source, column_found, found_faults, kind_of}
use Rattle.tl_scope.proofs.Firsts.{both_empty, no_fault}
use Rattle.tl_bind.specs.Condition.{bound_condition, bound_layer, operand_values, side_of, values_in, values_layer}
use Rattle.tl_bind.specs.Place.{columns_in, found_place, place_at}
use Rattle.tl_bind.proofs.Places.{place_has_kind}

-- of this kind, or of every kind
abbrev pub Admits : Option Kind → Kind → Type 0
Admits None k = Unit {0}
Admits (Some x) k = x ≡ k

pub same_self : (k : Kind) → kinds.same_kind k k ≡ true
same_self type.Int = refl
same_self type.Text = refl
same_self type.Bool = refl

pub column_there : (columns : List Column) (at : ℕ) (k : Kind) → column_kind (slice_get columns at) ≡ Some k → has_column (kinds.same_kind k) columns at ≡ true
column_there [] at k e = absurd cc
column_there (c ∷ cs) zero k e = let is : c.kind ≡ k = cc in rw is (same_self k)
column_there (c ∷ cs) (suc at) k e = column_there cs at k e

pub literal_gives : (v : Value) (k : Kind) → Admits (value_kind v) k → IsValue v → (is_of_kind k v && is_value v) ≡ true
literal_gives value.Null k a is = refl
literal_gives (value.Bool b) type.Bool a is = refl
literal_gives (value.Bool b) type.Int a is = absurd cc
literal_gives (value.Bool b) type.Text a is = absurd cc
literal_gives (value.Int n) type.Int a is = search rules
literal_gives (value.Int n) type.Bool a is = absurd cc
literal_gives (value.Int n) type.Text a is = absurd cc
literal_gives (value.Text t) type.Text a is = is_utf8-from_IsUtf8 t is
literal_gives (value.Text t) type.Bool a is = absurd cc
literal_gives (value.Text t) type.Int a is = absurd cc

pub column_gives : (scope : List Source) (c : ColumnName) (f : Found) (k : Kind) → column_found scope c ≡ f → found_faults c f ≡ [] → Admits (kind_of f) k →
    side_gives (columns_in scope) (side.Place (found_place scope f)) k ≡ true
column_gives scope c NoTable k is e a = absurd cc
column_gives scope c NoColumn k is e a = absurd cc
column_gives scope c Several k is e a = absurd cc
column_gives scope c (One s) k is e a =
    subst (λ (x : Kind). has_column (kinds.same_kind x) (columns_in scope) (place_at s.column scope s.item) ≡ true) a (column_there (columns_in scope) (place_at s.column scope s.item) s.kind (place_has_kind scope c s is))

pub operand_gives : (scope : List Source) (o : Operand) (k : Kind) → operand_faults scope o ≡ [] → AreValues (operand_values o) → Admits (operand_kind scope o) k →
    side_gives (columns_in scope) (side_of scope o) k ≡ true
operand_gives scope (operand.Column c) k e vs a = column_gives scope c (column_found scope c) k refl e a
operand_gives scope (operand.Literal l) k e vs a = literal_gives l.value k a vs.0

pub any_kind : (p : Kind → Bool) (k : Kind) → p k ≡ true → list_any p every_kind ≡ true
any_kind p type.Int e = or_left (p type.Int) (list_any p (type.Text ∷ type.Bool ∷ [])) e
any_kind p type.Text e = or_right (p type.Int) (list_any p (type.Text ∷ type.Bool ∷ [])) (or_left (p type.Text) (list_any p (type.Bool ∷ [])) e)
any_kind p type.Bool e = or_right (p type.Int) (list_any p (type.Text ∷ type.Bool ∷ [])) (or_right (p type.Text) (list_any p (type.Bool ∷ [])) (or_left (p type.Bool) false e))

alike_at : (cs : List Column) (l r : Side) (k : Kind) → side_gives cs l k ≡ true → side_gives cs r k ≡ true → are_alike cs l r ≡ true
alike_at cs l r k a b = any_kind (λ k. side_gives cs l k && side_gives cs r k) k (rw (a, b) refl)

alike_by : (cs : List Column) (l r : Side) (a b : Option Kind) → ((k : Kind) → Admits a k → side_gives cs l k ≡ true) → ((k : Kind) → Admits b k → side_gives cs r k ≡ true) → differ a b ≡ false →
    are_alike cs l r ≡ true
alike_by cs l r None None f g e = alike_at cs l r type.Int (f type.Int tt) (g type.Int tt)
alike_by cs l r None (Some y) f g e = alike_at cs l r y (f y tt) (g y refl)
alike_by cs l r (Some x) None f g e = alike_at cs l r x (f x refl) (g x tt)
alike_by cs l r (Some type.Int) (Some type.Int) f g e = alike_at cs l r type.Int (f type.Int refl) (g type.Int refl)
alike_by cs l r (Some type.Text) (Some type.Text) f g e = alike_at cs l r type.Text (f type.Text refl) (g type.Text refl)
alike_by cs l r (Some type.Bool) (Some type.Bool) f g e = alike_at cs l r type.Bool (f type.Bool refl) (g type.Bool refl)
alike_by cs l r (Some type.Int) (Some type.Text) f g e = absurd cc
alike_by cs l r (Some type.Int) (Some type.Bool) f g e = absurd cc
alike_by cs l r (Some type.Text) (Some type.Int) f g e = absurd cc
alike_by cs l r (Some type.Text) (Some type.Bool) f g e = absurd cc
alike_by cs l r (Some type.Bool) (Some type.Int) f g e = absurd cc
alike_by cs l r (Some type.Bool) (Some type.Text) f g e = absurd cc

never_differs : (a : Option Kind) → differ a a ≡ false
never_differs None = refl
never_differs (Some type.Int) = refl
never_differs (Some type.Text) = refl
never_differs (Some type.Bool) = refl

pub front : (xs ys : List Value) → AreValues (xs ++ ys) → AreValues xs
front [] ys h = tt
front (x ∷ xs) ys h = (h.0, front xs ys h.1)

pub back : (xs ys : List Value) → AreValues (xs ++ ys) → AreValues ys
back [] ys h = h
back (x ∷ xs) ys h = back xs ys h.1

test_alike : (scope : List Source) (a b : Operand) → test_faults scope a b ≡ [] → AreValues (operand_values a ++ operand_values b) → are_alike (columns_in scope) (side_of scope a) (side_of scope b) ≡ true
test_alike scope a b e vs =
    let d = differ (operand_kind scope a) (operand_kind scope b) in
    let outer = both_empty (operand_faults scope a ++ operand_faults scope b) (fault_if d (operand_at a) kind.WrongType) e in
    let inner = both_empty (operand_faults scope a) (operand_faults scope b) outer.0 in
    alike_by (columns_in scope) (side_of scope a) (side_of scope b) (operand_kind scope a) (operand_kind scope b)
    (λ k. operand_gives scope a k inner.0 (front (operand_values a) (operand_values b) vs)) (λ k. operand_gives scope b k inner.1 (back (operand_values a) (operand_values b) vs))
    (no_fault d (operand_at a) kind.WrongType outer.1)

fits_test : (cs : List Column) (a : Side) (by : Comparison) (b : Side) → compares_alike cs (bound.Test a by b) ≡ are_alike cs a b
unfolding compares_alike
fits_test cs a by b =
    fold_out-Condition Bool (kinds.condition_layer cs) (bound.Test a by b)
    ∙ ap (λ (l : Condition-F Condition). kinds.condition_layer cs (map-Condition Condition Bool (fold-Condition Bool (kinds.condition_layer cs)) l)) (outs-Test a by b)

fits_is_null : (cs : List Column) (a : Side) (negated : Bool) → compares_alike cs (bound.IsNull a negated) ≡ are_alike cs a a
unfolding compares_alike
fits_is_null cs a negated =
    fold_out-Condition Bool (kinds.condition_layer cs) (bound.IsNull a negated)
    ∙ ap (λ (l : Condition-F Condition). kinds.condition_layer cs (map-Condition Condition Bool (fold-Condition Bool (kinds.condition_layer cs)) l)) (outs-IsNull a negated)

fits_not : (cs : List Column) (c : Condition) → compares_alike cs (bound.Not c) ≡ compares_alike cs c
unfolding compares_alike
fits_not cs c =
    fold_out-Condition Bool (kinds.condition_layer cs) (bound.Not c)
    ∙ ap (λ (l : Condition-F Condition). kinds.condition_layer cs (map-Condition Condition Bool (fold-Condition Bool (kinds.condition_layer cs)) l)) (outs-Not c)

fits_and : (cs : List Column) (ds : List Condition) → compares_alike cs (bound.And ds) ≡ list_all (λ b. b) (map (compares_alike cs) ds)
unfolding compares_alike
fits_and cs ds =
    fold_out-Condition Bool (kinds.condition_layer cs) (bound.And ds)
    ∙ ap (λ (l : Condition-F Condition). kinds.condition_layer cs (map-Condition Condition Bool (fold-Condition Bool (kinds.condition_layer cs)) l)) (outs-And ds)

fits_or : (cs : List Column) (ds : List Condition) → compares_alike cs (bound.Or ds) ≡ list_all (λ b. b) (map (compares_alike cs) ds)
unfolding compares_alike
fits_or cs ds =
    fold_out-Condition Bool (kinds.condition_layer cs) (bound.Or ds)
    ∙ ap (λ (l : Condition-F Condition). kinds.condition_layer cs (map-Condition Condition Bool (fold-Condition Bool (kinds.condition_layer cs)) l)) (outs-Or ds)

faults_of : (scope : List Source) (x : Cond-F Cond) → condition_faults scope (roll-Cond x) ≡ condition_layer scope (map-Cond Cond (List BindFault) (condition_faults scope) x)
unfolding condition_faults
faults_of scope x = fold-roll-Cond (List BindFault) (condition_layer scope) x

bound_of : (scope : List Source) (x : Cond-F Cond) → bound_condition scope (roll-Cond x) ≡ bound_layer scope (map-Cond Cond Condition (bound_condition scope) x)
unfolding bound_condition
bound_of scope x = fold-roll-Cond Condition (bound_layer scope) x

values_of : (x : Cond-F Cond) → values_in (roll-Cond x) ≡ values_layer (map-Cond Cond (List Value) values_in x)
unfolding values_in
values_of x = fold-roll-Cond (List Value) values_layer x

abbrev Fits : List Source → Cond → Type 0
Fits scope c = condition_faults scope c ≡ [] → AreValues (values_in c) → compares_alike (columns_in scope) (bound_condition scope c) ≡ true

every_fits : (scope : List Source) (ys : List ((c : Cond) × Fits scope c)) → all_of (map (condition_faults scope) (map (λ e. e.0) ys)) ≡ [] → AreValues (flat_map (λ vs. vs) (map values_in (map (λ e. e.0) ys))) →
    list_all (λ b. b) (map (compares_alike (columns_in scope)) (map (bound_condition scope) (map (λ e. e.0) ys))) ≡ true
every_fits scope [] none vs = refl
every_fits scope (y ∷ ys) none vs =
    let parts = both_empty (condition_faults scope y.0) (all_of (map (condition_faults scope) (map (λ e. e.0) ys))) none in
    let more = flat_map (λ vs. vs) (map values_in (map (λ e. e.0) ys)) in
    rw (y.1 parts.0 (front (values_in y.0) more vs)) (every_fits scope ys parts.1 (back (values_in y.0) more vs))

layer_fits : (scope : List Source) (y : Cond-F ((c : Cond) × Fits scope c)) → Fits scope (roll-Cond (map-Cond ((c : Cond) × Fits scope c) Cond (λ e. e.0) y))
layer_fits scope (layer.Test a by b) none vs =
    ap (compares_alike (columns_in scope)) (bound_of scope (layer.Test a by b))
    ∙ fits_test (columns_in scope) (side_of scope a) by (side_of scope b)
    ∙ test_alike scope a b (sym (faults_of scope (layer.Test a by b)) ∙ none) (subst AreValues (values_of (layer.Test a by b)) vs)
layer_fits scope (layer.IsNull a negated) none vs =
    let gives = λ (k : Kind). operand_gives scope a k (sym (faults_of scope (layer.IsNull a negated)) ∙ none) (subst AreValues (values_of (layer.IsNull a negated)) vs) in
    ap (compares_alike (columns_in scope)) (bound_of scope (layer.IsNull a negated))
    ∙ fits_is_null (columns_in scope) (side_of scope a) negated
    ∙ alike_by (columns_in scope) (side_of scope a) (side_of scope a) (operand_kind scope a) (operand_kind scope a) gives gives (never_differs (operand_kind scope a))
layer_fits scope (layer.Not y) none vs =
    ap (compares_alike (columns_in scope)) (bound_of scope (layer.Not y.0))
    ∙ fits_not (columns_in scope) (bound_condition scope y.0)
    ∙ y.1 (sym (faults_of scope (layer.Not y.0)) ∙ none) (subst AreValues (values_of (layer.Not y.0)) vs)
layer_fits scope (layer.All ys) none vs =
    let cs = map (λ e. e.0) ys in
    ap (compares_alike (columns_in scope)) (bound_of scope (layer.All cs))
    ∙ fits_and (columns_in scope) (map (bound_condition scope) cs)
    ∙ every_fits scope ys (sym (faults_of scope (layer.All cs)) ∙ none) (subst AreValues (values_of (layer.All cs)) vs)
layer_fits scope (layer.Any ys) none vs =
    let cs = map (λ e. e.0) ys in
    ap (compares_alike (columns_in scope)) (bound_of scope (layer.Any cs))
    ∙ fits_or (columns_in scope) (map (bound_condition scope) cs)
    ∙ every_fits scope ys (sym (faults_of scope (layer.Any cs)) ∙ none) (subst AreValues (values_of (layer.Any cs)) vs)

pub condition_fits : (scope : List Source) (c : Cond) → condition_faults scope c ≡ [] → AreValues (values_in c) → compares_alike (columns_in scope) (bound_condition scope c) ≡ true
condition_fits scope = ind-Cond (Fits scope) (λ x y is. subst (λ (z : Cond-F Cond). Fits scope (roll-Cond z)) is (layer_fits scope y))
