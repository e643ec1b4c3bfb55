-- An expression without faults is bound to one of its kind.
use Rattle.std.proofs.Common.{◌≡◌, Bool, true, false, List, [], ◌∷◌, map, Option, Some, None, refl, ap, sym, subst, ◌∙◌}
use Rattle.std.specs.List.{list_all}
use Rattle.std.proofs.lemmas.Bool.{and_from, and_parts}
use Rattle.tl_values.specs.declared.value.Kind.{Kind}
use Rattle.tl_values.specs.declared.value.Kind.TheVariants as type
use Rattle.tl_values.specs.declared.value.Value.{Value}
use Rattle.tl_values.specs.Key.{AreValues}
use Rattle.tl_algebra.specs.declared.expression.Expression.{Expression}
use Rattle.tl_algebra.specs.declared.expression.Step as algebra
use Rattle.tl_isolation.specs.Kinds.{gives_kind, side_gives}
use Rattle.tl_isolation.proofs.Computed.{kind_of_chain, kind_of_literal, kind_of_place, step_kinds}
use Rattle.tl_grammar.specs.declared.expression.Expr.{Expr, out-Expr, roll-Expr}
use Rattle.tl_grammar.specs.declared.expression.Expr.TheOpen.{Expr-F}
use Rattle.tl_grammar.specs.declared.expression.Expr.TheOpen as layer
use Rattle.tl_grammar.specs.declared.expression.Expr.TheFolds.{fold-Expr, fold-roll-Expr, fold_out-Expr, ind-Expr, map-Expr}
use Rattle.tl_grammar.specs.declared.expression.Step.{Step}
use Rattle.tl_grammar.specs.declared.operand.Operand.{Operand}
use Rattle.tl_grammar.specs.declared.operand.Operand.TheVariants as operand
use Rattle.tl_grammar.specs.Whole.{expression_layer, whole_expression}
use Rattle.tl_scope.specs.declared.fault.BindFault.{BindFault}
use Rattle.tl_scope.specs.declared.fault.BindKind.TheVariants as kind
use Rattle.tl_scope.specs.Condition.{differ, operand_at, operand_faults, operand_kind}
use Rattle.tl_scope.specs.Expression.{expression_faults, expression_kind, number_faults, part_faults, part_kind, step_faults, sum_faults, sum_layer}
use Rattle.tl_scope.specs.Fault.{fault_if}
use Rattle.tl_scope.specs.Scope.{Source}
use Rattle.tl_scope.proofs.Firsts.{both_empty, no_fault}
use Rattle.tl_bind.specs.Condition.{operand_values, side_of}
use Rattle.tl_bind.specs.Expression.{bound_expression, bound_layer, bound_operand, step_of, step_values, values_in, values_layer}
use Rattle.tl_bind.specs.Place.{columns_in, place_of}
use Rattle.tl_bind.proofs.Fitting.{Admits, back, front, operand_gives}

-- what doesn't differ from a kind is of it
pub admitted : (a : Option Kind) (k : Kind) → differ a (Some k) ≡ false → Admits a k
admitted None k e = tt
admitted (Some type.Int) type.Int e = refl
admitted (Some type.Text) type.Text e = refl
admitted (Some type.Bool) type.Bool e = refl
admitted (Some type.Int) type.Text e = absurd cc
admitted (Some type.Int) type.Bool e = absurd cc
admitted (Some type.Text) type.Int e = absurd cc
admitted (Some type.Text) type.Bool e = absurd cc
admitted (Some type.Bool) type.Int e = absurd cc
admitted (Some type.Bool) type.Text e = absurd cc

operand_is_side : (scope : List Source) (o : Operand) (k : Kind) → gives_kind (columns_in scope) (bound_operand scope o) k ≡ side_gives (columns_in scope) (side_of scope o) k
operand_is_side scope (operand.Column c) k = ap (λ (f : Kind → Bool). f k) (kind_of_place (columns_in scope) (place_of scope c))
operand_is_side scope (operand.Literal l) k = ap (λ (f : Kind → Bool). f k) (kind_of_literal (columns_in scope) l.value)

operand_fits : (scope : List Source) (o : Operand) (k : Kind) → operand_faults scope o ≡ [] → AreValues (operand_values o) → Admits (operand_kind scope o) k → gives_kind (columns_in scope) (bound_operand scope o) k ≡ true
operand_fits scope o k none vs a = operand_is_side scope o k ∙ operand_gives scope o k none vs a

number_fits : (scope : List Source) (o : Operand) → number_faults scope o ≡ [] → AreValues (operand_values o) → gives_kind (columns_in scope) (bound_operand scope o) type.Int ≡ true
number_fits scope o none vs =
    let d = differ (operand_kind scope o) (Some type.Int) in
    let parts = both_empty (operand_faults scope o) (fault_if d (operand_at o) kind.WrongType) none in
    operand_fits scope o type.Int parts.0 vs (admitted (operand_kind scope o) type.Int (no_fault d (operand_at o) kind.WrongType parts.1))

-- layer by layer
faults_of : (scope : List Source) (x : Expr-F Expr) → sum_faults scope (roll-Expr x) ≡ sum_layer scope (map-Expr Expr (List BindFault) (sum_faults scope) x)
unfolding sum_faults
faults_of scope x = fold-roll-Expr (List BindFault) (sum_layer scope) x

bound_of : (scope : List Source) (x : Expr-F Expr) → bound_expression scope (roll-Expr x) ≡ bound_layer scope (map-Expr Expr Expression (bound_expression scope) x)
unfolding bound_expression
bound_of scope x = fold-roll-Expr Expression (bound_layer scope) x

values_of : (x : Expr-F Expr) → values_in (roll-Expr x) ≡ values_layer (map-Expr Expr (List Value) values_in x)
unfolding values_in
values_of x = fold-roll-Expr (List Value) values_layer x

whole_of : (x : Expr-F Expr) → whole_expression (roll-Expr x) ≡ expression_layer (map-Expr Expr Bool whole_expression x)
unfolding whole_expression
whole_of x = fold-roll-Expr Bool expression_layer x

abbrev IsNumber : List Source → Expr → Type 0
IsNumber scope e = sum_faults scope e ≡ [] → AreValues (values_in e) → whole_expression e ≡ true → gives_kind (columns_in scope) (bound_expression scope e) type.Int ≡ true

abbrev Number : List Source → Type 0
Number scope = (e : Expr) × IsNumber scope e

abbrev plain : (scope : List Source) → Step (Number scope) → Step Expr
plain scope s = record { by = s.by; of = s.of.0 }

abbrev faults_step : List Source → Step Expr → Step (List BindFault)
faults_step scope s = record { by = s.by; of = sum_faults scope s.of }

abbrev values_step : Step Expr → Step (List Value)
values_step s = record { by = s.by; of = values_in s.of }

abbrev whole_step : Step Expr → Step Bool
whole_step s = record { by = s.by; of = whole_expression s.of }

abbrev bound_step : List Source → Step Expr → Step Expression
bound_step scope s = record { by = s.by; of = bound_expression scope s.of }

steps_fit : (scope : List Source) (ss : List (Step (Number scope))) → step_faults (map (faults_step scope) (map (plain scope) ss)) ≡ [] → AreValues (step_values (map values_step (map (plain scope) ss)))
    → list_all (λ (s : Step Bool). s.of) (map whole_step (map (plain scope) ss)) ≡ true
    → list_all (λ (s : algebra.Step (Kind → Bool)). s.of type.Int) (map (step_kinds (columns_in scope)) (map step_of (map (bound_step scope) (map (plain scope) ss)))) ≡ true
steps_fit scope [] none vs w = refl
steps_fit scope (s ∷ ss) none vs w =
    let parts = both_empty (sum_faults scope s.of.0) (step_faults (map (faults_step scope) (map (plain scope) ss))) none in
    let more = step_values (map values_step (map (plain scope) ss)) in
    let ws = and_parts (whole_expression s.of.0) (list_all (λ (s : Step Bool). s.of) (map whole_step (map (plain scope) ss))) w in
    and_from (gives_kind (columns_in scope) (bound_expression scope s.of.0) type.Int)
    (list_all (λ (s : algebra.Step (Kind → Bool)). s.of type.Int) (map (step_kinds (columns_in scope)) (map step_of (map (bound_step scope) (map (plain scope) ss)))))
    (s.of.1 parts.0 (front (values_in s.of.0) more vs) ws.0) (steps_fit scope ss parts.1 (back (values_in s.of.0) more vs) ws.1)

layer_fits : (scope : List Source) (y : Expr-F (Number scope)) → IsNumber scope (roll-Expr (map-Expr (Number scope) Expr (λ e. e.0) y))
layer_fits scope (layer.Operand o) none vs w =
    ap (λ (e : Expression). gives_kind (columns_in scope) e type.Int) (bound_of scope (layer.Operand o))
    ∙ number_fits scope o (sym (faults_of scope (layer.Operand o)) ∙ none) (subst AreValues (values_of (layer.Operand o)) vs)
layer_fits scope (layer.Chain y []) none vs w = absurd (let e : false ≡ true = sym (whole_of (layer.Chain y.0 [])) ∙ w in cc)
layer_fits scope (layer.Chain y (s ∷ ss)) none vs w =
    let steps = map (plain scope) (s ∷ ss) in
    let x : Expr-F Expr = layer.Chain y.0 steps in
    let columns = columns_in scope in
    let parts = both_empty (sum_faults scope y.0) (step_faults (map (faults_step scope) steps)) (sym (faults_of scope x) ∙ none) in
    let more = step_values (map values_step steps) in
    let all_values = subst AreValues (values_of x) vs in
    let ws = and_parts (whole_expression y.0) (list_all (λ (s : Step Bool). s.of) (map whole_step steps)) (sym (whole_of x) ∙ w) in
    ap (λ (e : Expression). gives_kind columns e type.Int) (bound_of scope x)
    ∙ ap (λ (f : Kind → Bool). f type.Int) (kind_of_chain columns (bound_expression scope y.0) (map step_of (map (bound_step scope) steps)))
    ∙ and_from (gives_kind columns (bound_expression scope y.0) type.Int)
    (list_all (λ (s : algebra.Step (Kind → Bool)). s.of type.Int) (map (step_kinds columns) (map step_of (map (bound_step scope) steps))))
    (y.1 parts.0 (front (values_in y.0) more all_values) ws.0) (steps_fit scope (s ∷ ss) parts.1 (back (values_in y.0) more all_values) ws.1)

sum_fits : (scope : List Source) (e : Expr) → IsNumber scope e
sum_fits scope = ind-Expr (IsNumber scope) (λ x y is. subst (λ (z : Expr-F Expr). IsNumber scope (roll-Expr z)) is (layer_fits scope y))

bound_operand_of : (scope : List Source) (e : Expr) (o : Operand) → out-Expr e ≡ layer.Operand o → bound_expression scope e ≡ bound_operand scope o
unfolding bound_expression
bound_operand_of scope e o is = fold_out-Expr Expression (bound_layer scope) e ∙ ap (λ (l : Expr-F Expr). bound_layer scope (map-Expr Expr Expression (fold-Expr Expression (bound_layer scope)) l)) is

operand_values_of : (e : Expr) (o : Operand) → out-Expr e ≡ layer.Operand o → values_in e ≡ operand_values o
unfolding values_in
operand_values_of e o is = fold_out-Expr (List Value) values_layer e ∙ ap (λ (l : Expr-F Expr). values_layer (map-Expr Expr (List Value) (fold-Expr (List Value) values_layer) l)) is

part_fits : (scope : List Source) (e : Expr) (l : Expr-F Expr) (k : Kind) → out-Expr e ≡ l → part_faults scope e l ≡ [] → AreValues (values_in e) → whole_expression e ≡ true → Admits (part_kind scope l) k
    → gives_kind (columns_in scope) (bound_expression scope e) k ≡ true
part_fits scope e (layer.Operand o) k is none vs w a =
    ap (λ (b : Expression). gives_kind (columns_in scope) b k) (bound_operand_of scope e o is) ∙ operand_fits scope o k none (subst AreValues (operand_values_of e o is) vs) a
part_fits scope e (layer.Chain first rest) k is none vs w a =
    subst (λ (z : Kind). gives_kind (columns_in scope) (bound_expression scope e) z ≡ true) a (sum_fits scope e none vs w)

pub expression_fits : (scope : List Source) (e : Expr) (k : Kind) → expression_faults scope e ≡ [] → AreValues (values_in e) → whole_expression e ≡ true → Admits (expression_kind scope e) k
    → gives_kind (columns_in scope) (bound_expression scope e) k ≡ true
expression_fits scope e k none vs w a = part_fits scope e (out-Expr e) k refl none vs w a
