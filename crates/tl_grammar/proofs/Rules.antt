-- The laws of the grammar's rules. Each is put together from those of its parts; that the tokens that may go on with a
-- part don't begin what stands behind it is decided by `refl`.
use Rattle.std.proofs.Common.{◌≡◌, ℕ, zero, suc, Bool, true, false, ◌⊎◌, inl, inr, List, [], ◌∷◌, ◌++◌, Option, Some, None, refl, sym, subst}
use Rattle.tl_grammar.specs.declared.fault.Expected.{Expected}
use Rattle.tl_grammar.specs.declared.fault.Expected.TheVariants as want
use Rattle.tl_grammar.specs.declared.token.Word.{Word}
use Rattle.tl_grammar.specs.declared.token.Word.TheVariants as w
use Rattle.tl_grammar.specs.declared.token.Sign.TheVariants as s
use Rattle.tl_grammar.specs.declared.name.Name.{Name}
use Rattle.tl_grammar.specs.declared.name.ColumnName.{ColumnName}
use Rattle.tl_grammar.specs.declared.operand.Operand.{Operand}
use Rattle.tl_grammar.specs.declared.operand.Operand.TheVariants as operand
use Rattle.tl_grammar.specs.declared.expression.Operator.TheVariants as by
use Rattle.tl_grammar.specs.declared.expression.Expr.{Expr}
use Rattle.tl_grammar.specs.declared.expression.Expr.TheVariants as tree
use Rattle.tl_grammar.specs.declared.condition.Cond.{Cond}
use Rattle.tl_grammar.specs.declared.condition.Cond.TheVariants as cond
use Rattle.tl_grammar.specs.declared.select.SelectForm.{SelectForm}
use Rattle.tl_grammar.specs.declared.select.SelectForm.TheVariants as shown
use Rattle.tl_grammar.specs.declared.select.OrderBy.TheVariants as order
use Rattle.tl_grammar.specs.declared.statement.ColumnForm.{ColumnForm}
use Rattle.tl_grammar.specs.declared.statement.Statement.TheVariants as statement
use Rattle.tl_grammar.specs.Token.{Token}
use Rattle.tl_grammar.specs.Pick.{sign_kind, text_kind, word_kind}
use Rattle.tl_grammar.specs.Form.{Form, ◌>>=◌, either, pure, row_by, some, too_deep}
use Rattle.tl_grammar.specs.Grammar.{Column, Key, aggregate, all, all_columns, all_form, all_rows, and_part, any, as_name, ascending, begin, behind, bracketed, chain, column, column_entry, column_form, column_of, column_operand, comma, commit, compared, cond_form, constant, count, counted, create, create_index, create_table, delete, descending, direction, dot_name, ending, entries, entry, expr, factor, from_item, from_items, given, greatest, group_by, in_brackets, inner_join, insert, items, joined, key_entry, least, limit, list, list_or_none, literal, literal_operand, more_from, names, negated, negative, nested, not_form, not_null, null_test, operand_form, optional, or_part, order_by, order_column, order_item, plain, plus, primary_key, recover, rollback, select, select_form, select_item, sentence, set_item, shown_expr, sign, some_items, statement_form, sum, term, test, text, times, tuple, update, where_form, with_entry, word}
use Rattle.tl_grammar.specs.Classes.{among, apart, of_name, of_number, of_sign, of_text, of_word}
use Rattle.tl_grammar.proofs.Sets.{apart_none}
use Rattle.tl_grammar.proofs.Choose.{deep_exact, deep_opens}
use Rattle.tl_grammar.proofs.Alive.{Sample, bind_sample, deep_alive, row_sample}
use Rattle.tl_grammar.proofs.Deeper.{Deeper, either_deeper, too_deep_deeper}
use Rattle.tl_grammar.proofs.Asks.{too_deep_asks}
use Rattle.tl_grammar.proofs.Seeks.{BegunSeeks, Never, On, Seeks, as_begun, bind_seeks, either_seeks, nothing_seeks, on_first, on_left, on_right, one_begun_seeks, row_seeks, too_deep_seeks}
use Rattle.tl_grammar.proofs.Forms.{Alone, Asked, Begun, Deep, Full, Inner, Law, at_place, begun, begun_wider, done, full, inner_wider, last, many, many_by, next, none, or, or_first, or_inner, or_none, or_sure, pass, wider}
use Rattle.tl_grammar.proofs.Leaves.{comparison_law, comparisons, constant_law, constants, name_law, negative_number_law, node_law, number_law, order_number_law, plus_or_minus_law, positive_law, sign_begins, sign_law, sums, text_law, type_law, word_begins, word_law}

-- what rules are written with
pub optional_law : {X : Type 0} {k : Asked} {F G : Form X} {first more : List ℕ} → Begun k F G first more → Law k (optional F) (optional G) (first ++ []) (more ++ first) true
unfolding optional
optional_law {X} {k} {F} {G} {first} {more} p =
    let q = begun p (λ x. done (Some x)) (apart_none more) in
    or_none q.inner (done None) (apart_none first)

given_law : {X : Type 0} {k : Asked} {F G : Form X} {first more : List ℕ} → Begun k F G first more → Law k (given F) (given G) (first ++ []) (more ++ first) true
unfolding given
given_law {X} {k} {F} {G} {first} {more} p =
    let q = begun p (λ x. done true) (apart_none more) in
    or_none q.inner (done false) (apart_none first)

list_or_none_law : {X : Type 0} {k : Asked} {F G : Form (List X)} {first more : List ℕ} → Begun k F G first more → Law k (list_or_none F) (list_or_none G) (first ++ []) (more ++ first) true
unfolding list_or_none
list_or_none_law {X} {k} {F} {G} {first} {more} p = or_none p.inner (done []) (apart_none first)

pub comma_law : {X : Type 0} {k : Asked} {F G : Form X} {first more : List ℕ} → Begun k F G first more → Begun k (comma F) (comma G) (of_sign s.Comma ∷ []) more
unfolding comma
comma_law p = begun (sign_law s.Comma) (λ at. last p) refl

list_law : {X : Type 0} {k : Asked} {F G : Form X} {first more : List ℕ} → Begun k F G first more → apart more (of_sign s.Comma ∷ []) ≡ true
    → Begun k (list F) (list G) first ((of_sign s.Comma ∷ more) ++ more)
unfolding list
list_law p h = begun p (λ first. many behind (first ∷ []) (comma_law p) h) h

in_brackets_law : {X : Type 0} {k : Asked} {F G : Form X} {first more : List ℕ} → Begun k F G first more → apart more (of_sign s.Close ∷ []) ≡ true
    → Begun k (in_brackets F) (in_brackets G) (of_sign s.Open ∷ []) []
unfolding in_brackets
in_brackets_law p h = begun (sign_law s.Open) (λ at. next p (λ x. next (sign_law s.Close) (λ end. done x) refl) h) refl

-- columns and literals
dot_name_law : {k : Asked} → Begun k dot_name dot_name (of_sign s.Dot ∷ []) []
unfolding dot_name
dot_name_law = begun (sign_law s.Dot) (λ at. last name_law) refl

column_law : {k : Asked} → Begun k column column (of_name ∷ []) (of_sign s.Dot ∷ [])
unfolding column
column_law = begun name_law (λ first. pass (optional_law dot_name_law) (λ second. done (column_of first second)) refl) refl

negative_law : {k : Asked} → Begun k negative negative (of_sign s.Minus ∷ []) []
unfolding negative
negative_law = begun (sign_law s.Minus) (λ at. next negative_number_law (λ value. done (record { at = at; value = value })) refl) refl

abbrev literals : List ℕ
literals = of_sign s.Minus ∷ of_number ∷ of_text ∷ constants

text_or_constant_on : On (either text constant) [] want.Word
unfolding constant
text_or_constant_on = on_right text constant [] want.Word ((constant_law {k = Full}).inner.on refl)

-- a text is never looked for before a minus sign
text_or_constant_law : {k : Asked} → Begun k (either text constant) (either text constant) (of_text ∷ constants) []
unfolding text
text_or_constant_law {k} =
    full k (or text_law constant_law refl)
    (either_seeks text constant text constant (one_begun_seeks want.Word (λ t. text_kind t.start t.kind)) ((constant_law {k = Full}).inner.near.seeks refl) text_or_constant_on) text_or_constant_on

literal_law : {k : Asked} → Begun k literal literal literals []
unfolding literal
literal_law = or negative_law (or positive_law text_or_constant_law refl) refl

column_operand_law : {k : Asked} → Begun k column_operand column_operand (of_name ∷ []) (of_sign s.Dot ∷ [])
unfolding column_operand
column_operand_law = begun column_law (λ c. done (operand.Column c)) refl

literal_operand_law : {k : Asked} → Begun k literal_operand literal_operand literals []
unfolding literal_operand
literal_operand_law = begun literal_law (λ l. done (operand.Literal l)) refl

abbrev operands : List ℕ
operands = of_name ∷ literals

operand_law : {k : Asked} → Begun k operand_form operand_form operands (of_sign s.Dot ∷ [])
unfolding operand_form
operand_law = or column_operand_law literal_operand_law refl

-- expressions
plain_law : {k : Asked} → Begun k plain plain operands (of_sign s.Dot ∷ [])
unfolding plain
plain_law = begun operand_law (λ o. done (tree.Operand o)) refl

abbrev Brackets : Asked → Form Expr → Form Expr → Type 0
Brackets k b c = Inner k b c (of_sign s.Open ∷ []) []

abbrev factors : List ℕ
factors = operands ++ of_sign s.Open ∷ []

factor_law : {k : Asked} (b c : Form Expr) → Brackets k b c → Begun k (factor b) (factor c) factors (of_sign s.Dot ∷ [])
unfolding factor
factor_law b c h = or_first plain_law h refl

times_law : {k : Asked} (b c : Form Expr) → Brackets k b c → Begun k (times b) (times c) (of_sign s.Star ∷ []) (of_sign s.Dot ∷ [])
unfolding times
times_law b c h = begun (sign_law s.Star) (λ at. next (factor_law b c h) (λ of. done (record { by = by.Multiply; of = of })) refl) refl

abbrev term_more : List ℕ
term_more = of_sign s.Star ∷ of_sign s.Dot ∷ []

term_law : {k : Asked} (b c : Form Expr) → Brackets k b c → Begun k (term b) (term c) factors term_more
unfolding term
term_law b c h = begun_wider (begun (factor_law b c h) (λ first. pass (many behind [] (times_law b c h) refl) (λ rest. done (chain first rest)) refl) refl) refl

plus_law : {k : Asked} (b c : Form Expr) → Brackets k b c → Begun k (plus b) (plus c) sums term_more
unfolding plus
plus_law b c h = begun plus_or_minus_law (λ by. next (term_law b c h) (λ of. done (record { by = by; of = of })) refl) refl

abbrev expr_more : List ℕ
expr_more = sums ++ term_more

expr_law : {k : Asked} (b c : Form Expr) → Brackets k b c → Begun k (expr b) (expr c) factors expr_more
unfolding expr
expr_law b c h = begun_wider (begun (term_law b c h) (λ first. pass (many behind [] (plus_law b c h) refl) (λ rest. done (chain first rest)) refl) refl) refl

-- what would nest too deep, beside itself
too_deep_law : {X : Type 0} (begins : Token → Bool) (e : Expected) (first : List ℕ) → ((t : Token) → begins t ≡ true → among first t ≡ true) → Inner {X = X} Alone (too_deep begins e) (too_deep begins e) first []
too_deep_law begins e first f =
    record {
      low_opens = deep_opens begins e first f;
      high_opens = deep_opens begins e first f;
      near =
          record {
            low = deep_exact begins e first;
            high = deep_exact begins e first;
            low_lives = deep_alive begins e;
            high_lives = deep_alive begins e;
            low_asks = too_deep_asks begins e;
            deeper = λ deep. absurd (cc);
            seeks = λ all. absurd (cc);
          };
      on = λ all. absurd (cc);
      low_wants = (refl, refl);
    }

open_too_deep : {X : Type 0} → Inner {X = X} Alone (too_deep (λ t. some (sign_kind s.Open t.start t.kind)) want.Sign) (too_deep (λ t. some (sign_kind s.Open t.start t.kind)) want.Sign) (of_sign s.Open ∷ []) []
open_too_deep = too_deep_law (λ t. some (sign_kind s.Open t.start t.kind)) want.Sign (of_sign s.Open ∷ []) (λ t. sign_begins s.Open t.start t.kind)

not_too_deep : {X : Type 0} → Inner {X = X} Alone (too_deep (λ t. some (word_kind w.Not t.start t.kind)) want.Word) (too_deep (λ t. some (word_kind w.Not t.start t.kind)) want.Word) (of_word w.Not ∷ []) []
not_too_deep = too_deep_law (λ t. some (word_kind w.Not t.start t.kind)) want.Word (of_word w.Not ∷ []) (λ t. word_begins w.Not t.start t.kind)

-- the first that is too deep, beside the one that isn't
near_deep : {X : Type 0} {F G : Form X} {first more : List ℕ} (k : Asked) → Inner Alone F F first more → Inner Alone G G first more → Deeper F G → Seeks Never F G → On G [] F.wants → Inner k F G first more
near_deep k p q d seeks on =
    record {
      low_opens = p.low_opens;
      high_opens = q.high_opens;
      near =
          record {
            low = p.near.low;
            high = q.near.high;
            low_lives = p.near.low_lives;
            high_lives = q.near.high_lives;
            low_asks = p.near.low_asks;
            deeper = λ deep. d;
            seeks = λ all. seeks;
          };
      on = λ all. on;
      low_wants = p.low_wants;
    }

inside_law : {X : Type 0} {k : Asked} {F G : Form X} {first more : List ℕ} → Begun k F G first more → apart more (of_sign s.Close ∷ []) ≡ true
    → Law k (F >>= (λ x. sign s.Close >>= (λ end. pure x))) (G >>= (λ x. sign s.Close >>= (λ end. pure x))) first [] false
inside_law p h = next p (λ x. next (sign_law s.Close) (λ end. done x) refl) h

brackets_deeper : {X : Type 0} {F : Form X} {first more : List ℕ} → Begun Alone F F first more → apart more (of_sign s.Close ∷ []) ≡ true
    → Deeper (too_deep (λ t. some (sign_kind s.Open t.start t.kind)) want.Sign) (in_brackets F)
unfolding in_brackets sign
brackets_deeper {X} {F} p h =
    too_deep_deeper want.Sign (λ t. sign_kind s.Open t.start t.kind) (λ at. F >>= (λ x. sign s.Close >>= (λ end. pure x))) (λ at. let z = inside_law p h in z.low_sample)

brackets_on : {X : Type 0} {F : Form X} {first more : List ℕ} → Begun Alone F F first more → apart more (of_sign s.Close ∷ []) ≡ true → On (in_brackets F) [] want.Sign
unfolding in_brackets sign
brackets_on {X} {F} p h =
    on_first (sign s.Open) (λ at. F >>= (λ x. sign s.Close >>= (λ end. pure x))) (λ at. let z = inside_law p h in z.low_sample) [] want.Sign ((sign_law {k = Full} s.Open).inner.on refl)

bracketed_law : {k : Asked} (d : ℕ) → Brackets k (bracketed d) (bracketed (suc d))
unfolding bracketed
bracketed_law {k} zero =
    let p = expr_law (bracketed zero) (bracketed zero) open_too_deep in
    let q = in_brackets_law p refl in
    let on = brackets_on p refl in
    near_deep k open_too_deep q.inner (brackets_deeper p refl) (too_deep_seeks (λ t. some (sign_kind s.Open t.start t.kind)) want.Sign (in_brackets (expr (bracketed zero))) on) on
bracketed_law (suc d) = let q = in_brackets_law (expr_law (bracketed d) (bracketed (suc d)) (bracketed_law d)) refl in q.inner

-- conditions
compared_law : {k : Asked} (left : Operand) → Begun k (compared left) (compared left) comparisons (of_sign s.Dot ∷ [])
unfolding compared
compared_law left = begun comparison_law (λ by. next operand_law (λ right. done (cond.Test left by right)) refl) refl

null_test_law : {k : Asked} (of : Operand) → Begun k (null_test of) (null_test of) (of_word w.Is ∷ []) []
unfolding null_test
null_test_law of = begun (word_law w.Is) (λ at. pass (given_law (word_law w.Not)) (λ negated. next (word_law w.Null) (λ at. done (cond.IsNull of negated)) refl) refl) refl

test_law : {k : Asked} → Begun k test test operands (of_sign s.Dot ∷ [])
unfolding test
test_law = begun operand_law (λ left. last (or (compared_law left) (null_test_law left) refl)) refl

abbrev Nests : Asked → Form Cond → Form Cond → Type 0
Nests k b c = Inner k b c (of_word w.Not ∷ of_sign s.Open ∷ []) (of_sign s.Dot ∷ [])

abbrev conditions : List ℕ
conditions = of_word w.Not ∷ of_sign s.Open ∷ operands

not_law : {k : Asked} (b c : Form Cond) → Nests k b c → Begun k (not_form b) (not_form c) conditions (of_sign s.Dot ∷ [])
unfolding not_form
not_law b c h = begun_wider (or_sure h test_law refl) refl

and_law : {k : Asked} (b c : Form Cond) → Nests k b c → Begun k (and_part b) (and_part c) (of_word w.And ∷ []) (of_sign s.Dot ∷ [])
unfolding and_part
and_law b c h = begun (word_law w.And) (λ at. last (not_law b c h)) refl

abbrev all_more : List ℕ
all_more = of_word w.And ∷ of_sign s.Dot ∷ []

all_law : {k : Asked} (b c : Form Cond) → Nests k b c → Begun k (all_form b) (all_form c) conditions all_more
unfolding all_form
all_law b c h = begun_wider (begun (not_law b c h) (λ first. pass (many behind [] (and_law b c h) refl) (λ rest. done (all first rest)) refl) refl) refl

or_law : {k : Asked} (b c : Form Cond) → Nests k b c → Begun k (or_part b) (or_part c) (of_word w.Or ∷ []) all_more
unfolding or_part
or_law b c h = begun (word_law w.Or) (λ at. last (all_law b c h)) refl

abbrev cond_more : List ℕ
cond_more = of_word w.Or ∷ all_more

cond_law : {k : Asked} (b c : Form Cond) → Nests k b c → Begun k (cond_form b) (cond_form c) conditions cond_more
unfolding cond_form
cond_law b c h = begun_wider (begun (all_law b c h) (λ first. pass (many behind [] (or_law b c h) refl) (λ rest. done (any first rest)) refl) refl) refl

negated_law : {k : Asked} (b c : Form Cond) → Nests k b c → Begun k (negated b) (negated c) (of_word w.Not ∷ []) (of_sign s.Dot ∷ [])
unfolding negated
negated_law b c h = begun (word_law w.Not) (λ at. next (not_law b c h) (λ x. done (cond.Not x)) refl) refl

negated_deeper : (b : Form Cond) → Nests Alone b b → Deeper (too_deep (λ t. some (word_kind w.Not t.start t.kind)) want.Word) (negated b)
unfolding negated word
negated_deeper b h =
    too_deep_deeper want.Word (λ t. word_kind w.Not t.start t.kind) (λ at. not_form b >>= (λ c. pure (cond.Not c)))
    (λ at. let z = next (not_law b b h) (λ c. done (cond.Not c)) refl in z.low_sample)

negated_on : (b : Form Cond) → Nests Alone b b → On (negated b) [] want.Word
unfolding negated word
negated_on b h =
    on_first (word w.Not) (λ at. not_form b >>= (λ c. pure (cond.Not c))) (λ at. let z = next (not_law b b h) (λ c. done (cond.Not c)) refl in z.low_sample) [] want.Word ((word_law {k = Full} w.Not).inner.on refl)

nested_seeks : (b : Form Cond) → Nests Alone b b
    → Seeks Never (either (too_deep (λ t. some (word_kind w.Not t.start t.kind)) want.Word) (too_deep (λ t. some (sign_kind s.Open t.start t.kind)) want.Sign)) (either (negated b) (in_brackets (cond_form b)))
nested_seeks b h =
    let on = negated_on b h in
    either_seeks (too_deep (λ t. some (word_kind w.Not t.start t.kind)) want.Word) (too_deep (λ t. some (sign_kind s.Open t.start t.kind)) want.Sign) (negated b) (in_brackets (cond_form b))
    (as_begun (too_deep (λ t. some (word_kind w.Not t.start t.kind)) want.Word) (negated b) (too_deep_seeks (λ t. some (word_kind w.Not t.start t.kind)) want.Word (negated b) on))
    (too_deep_seeks (λ t. some (sign_kind s.Open t.start t.kind)) want.Sign (in_brackets (cond_form b)) (brackets_on (cond_law b b h) refl)) (on_left (negated b) (in_brackets (cond_form b)) [] want.Word on)

nests_more : {k : Asked} (b c : Form Cond) → Nests k b c → Nests k (either (negated b) (in_brackets (cond_form b))) (either (negated c) (in_brackets (cond_form c)))
nests_more b c h = let q = or (negated_law b c h) (in_brackets_law (cond_law b c h) refl) refl in q.inner

nested_law : {k : Asked} (d : ℕ) → Nests k (nested d) (nested (suc d))
unfolding nested
nested_law {k} zero =
    let h = inner_wider (or_inner not_too_deep open_too_deep refl) refl in
    near_deep k h (nests_more (nested zero) (nested zero) h)
    (either_deeper _ _ _ _ (negated_deeper (nested zero) h) (brackets_deeper (cond_law (nested zero) (nested zero) h) refl))
    (nested_seeks (nested zero) h) (on_left (negated (nested zero)) (in_brackets (cond_form (nested zero))) [] want.Word (negated_on (nested zero) h))
nested_law (suc d) = nests_more (nested d) (nested (suc d)) (nested_law d)

where_law : {k : Asked} (d : ℕ) → Begun k (where_form d) (where_form (suc d)) (of_word w.Where ∷ []) cond_more
unfolding where_form
where_law d = begun (word_law w.Where) (λ at. last (cond_law (nested d) (nested (suc d)) (nested_law d))) refl

-- CREATE
pub names_law : {k : Asked} → Begun k names names (of_sign s.Open ∷ []) []
unfolding names
names_law = in_brackets_law (list_law name_law refl) refl

not_null_law : {k : Asked} → Begun k not_null not_null (of_word w.Not ∷ []) []
unfolding not_null
not_null_law = begun (word_law w.Not) (λ at. last (word_law w.Null)) refl

primary_key_law : {k : Asked} → Begun k primary_key primary_key (of_word w.Primary ∷ []) []
unfolding primary_key
primary_key_law = begun (word_law w.Primary) (λ at. last (word_law w.Key)) refl

abbrev column_more : List ℕ
column_more = of_word w.Primary ∷ of_word w.Not ∷ []

column_form_law : {k : Asked} → Begun k column_form column_form (of_name ∷ []) column_more
unfolding column_form
column_form_law =
    begun name_law (λ name. next type_law (λ kind. pass (given_law not_null_law) (λ not_null. pass (given_law primary_key_law)
    (λ primary. done (record { name = name; kind = kind; not_null = not_null; primary = primary })) refl) refl) refl) refl

column_entry_law : {k : Asked} → Begun k column_entry column_entry (of_name ∷ []) column_more
unfolding column_entry
column_entry_law = begun column_form_law (λ c. done (Column c)) refl

key_entry_law : {k : Asked} → Begun k key_entry key_entry (of_word w.Primary ∷ []) []
unfolding key_entry
key_entry_law = begun primary_key_law (λ at. next names_law (λ key. done (Key key)) refl) refl

one_entry_law : {k : Asked} → Begun k (comma (either column_entry key_entry)) (comma (either column_entry key_entry)) (of_sign s.Comma ∷ []) column_more
one_entry_law = comma_law (or column_entry_law key_entry_law refl)

entry_law : (key : Option (List Name)) → Inner Deep (entry key) (entry key) (of_sign s.Comma ∷ []) column_more
unfolding entry
entry_law None = let q = one_entry_law in q.inner
entry_law (Some key) = inner_wider (none want.Sign (of_sign s.Comma ∷ [])) refl

entries_law : Begun Deep entries entries (of_name ∷ []) (of_sign s.Comma ∷ column_more)
unfolding entries
entries_law = begun_wider (begun column_form_law (λ first. many_by with_entry (first ∷ [], None) (λ so_far. entry_law so_far.1) refl) refl) refl

-- behind the primary key a comma is looked for, though none goes on: but the bracket does
IsSign : Expected → Type 0
IsSign e = e ≡ want.Sign

entry_seeks : (key : Option (List Name)) → BegunSeeks (entry key) (entry key)
unfolding entry
entry_seeks None = as_begun _ _ ((one_entry_law {k = Full}).inner.near.seeks refl)
entry_seeks (Some key) = nothing_seeks want.Sign

entry_on : (key : Option (List Name)) → On (entry key) [] (entry key).wants ⊎ IsSign (entry key).wants
unfolding entry IsSign
entry_on None = inl ((one_entry_law {k = Full}).inner.on refl)
entry_on (Some key) = inr refl

entries_from : ColumnForm → Form (List ColumnForm × Option (List Name))
entries_from first = row_by with_entry (λ so_far. entry so_far.1) (first ∷ [], None)

entries_seeks : Seeks IsSign entries entries
unfolding entries entries_from
entries_seeks =
    let c = column_form_law {k = Full} in
    bind_seeks Never IsSign column_form column_form entries_from entries_from (λ ts rest x h. h) c.inner.near.low.sound c.inner.near.high_lives
    (λ first. row_sample with_entry (λ so_far. entry so_far.1) (first ∷ [], None)) (c.inner.near.seeks refl)
    (λ first. row_seeks IsSign with_entry (λ so_far. entry so_far.1) (λ so_far. entry so_far.1) (first ∷ [], None) (λ so_far ts rest y h. h) (λ so_far. (entry_law so_far.1).near.low.sound)
    (λ so_far. (entry_law so_far.1).near.high_lives) (λ so_far. entry_seeks so_far.1) (λ so_far. entry_on so_far.1)) (λ x w h. absurd h)

closed : {X : Type 0} → X → Form X
closed x = sign s.Close >>= (λ end. pure x)

closed_law : {X : Type 0} {k : Asked} (x : X) → Begun k (closed x) (closed x) (of_sign s.Close ∷ []) []
unfolding closed
closed_law x = begun (sign_law s.Close) (λ end. done x) refl

closed_on : {X : Type 0} (x : X) (e : Expected) → IsSign e → On (closed x) [] e
unfolding IsSign closed sign
closed_on x e h = subst (λ (z : Expected). On (closed x) [] z) (sym h) ((closed_law {k = Full} x).inner.on refl)

entries_closed : Form (List ColumnForm × Option (List Name))
entries_closed = entries >>= (λ x. closed x)

entries_closed_seeks : Seeks Never entries_closed entries_closed
unfolding entries_closed
entries_closed_seeks =
    let e = entries_law in
    bind_seeks IsSign Never entries entries (λ x. closed x) (λ x. closed x) (λ ts rest x h. h) e.inner.near.low.sound e.inner.near.high_lives (λ x. (closed_law {k = Full} x).high_sample) entries_seeks
    (λ x. (closed_law {k = Full} x).inner.near.seeks refl) closed_on

entries_closed_sample : Sample entries_closed
unfolding entries_closed
entries_closed_sample = let e = entries_law in bind_sample entries (λ x. closed x) e.low_sample (λ x. (closed_law {k = Full} x).high_sample)

table_seeks : Seeks Never (in_brackets entries) (in_brackets entries)
unfolding in_brackets entries_closed closed
table_seeks =
    let o = sign_law {k = Full} s.Open in
    bind_seeks Never Never (sign s.Open) (sign s.Open) (λ at. entries_closed) (λ at. entries_closed) (λ ts rest x h. h) o.inner.near.low.sound o.inner.near.high_lives
    (λ at. entries_closed_sample) (o.inner.near.seeks refl) (λ at. entries_closed_seeks) (λ x w h. absurd h)

table_on : On (in_brackets entries) [] (in_brackets entries).wants
unfolding in_brackets entries_closed closed
table_on = let o = sign_law {k = Full} s.Open in on_first (sign s.Open) (λ at. entries_closed) (λ at. entries_closed_sample) [] (sign s.Open).wants (o.inner.on refl)

table_law : {k : Asked} → Begun k (in_brackets entries) (in_brackets entries) (of_sign s.Open ∷ []) []
table_law {k} = full k (in_brackets_law entries_law refl) table_seeks table_on

create_table_law : {k : Asked} → Begun k create_table create_table (of_word w.Table ∷ []) []
unfolding create_table
create_table_law = begun (word_law w.Table) (λ at. next name_law (λ name. next table_law (λ entries. done (statement.CreateTable name entries.0 entries.1)) refl) refl) refl

create_index_law : {k : Asked} → Begun k create_index create_index (of_word w.Index ∷ []) []
unfolding create_index
create_index_law =
    begun (word_law w.Index) (λ at. next name_law (λ index. next (word_law w.On) (λ at. next name_law (λ table. next names_law (λ columns. done (statement.CreateIndex index table columns)) refl) refl) refl) refl) refl

create_law : {k : Asked} → Begun k create create (of_word w.Create ∷ []) []
unfolding create
create_law = begun (word_law w.Create) (λ at. last (or create_table_law create_index_law refl)) refl

-- INSERT, UPDATE, DELETE
pub tuple_law : {k : Asked} → Begun k tuple tuple (of_sign s.Open ∷ []) []
unfolding tuple
tuple_law = begun (sign_law s.Open) (λ at. next (list_law literal_law refl) (λ values. next (sign_law s.Close) (λ end. done (record { at = at; values = values })) refl) refl) refl

insert_law : {k : Asked} → Begun k insert insert (of_word w.Insert ∷ []) (of_sign s.Comma ∷ [])
unfolding insert
insert_law =
    begun (word_law w.Insert) (λ at. next (word_law w.Into) (λ at. next name_law (λ table. pass (optional_law names_law) (λ columns. next (word_law w.Values)
    (λ at. next (list_law tuple_law refl) (λ tuples. done (statement.Insert table columns tuples)) refl) refl) refl) refl) refl) refl

set_item_law : {k : Asked} (d : ℕ) → Begun k (set_item d) (set_item (suc d)) (of_name ∷ []) expr_more
unfolding set_item
set_item_law d =
    begun name_law (λ column. next (sign_law s.Equal) (λ at. next (expr_law (bracketed d) (bracketed (suc d)) (bracketed_law d)) (λ value. done (record { column = column; value = value })) refl) refl) refl

update_law : {k : Asked} (d : ℕ) → Begun k (update d) (update (suc d)) (of_word w.Update ∷ []) (of_word w.Where ∷ of_sign s.Comma ∷ expr_more ++ cond_more)
unfolding update
update_law d =
    begun_wider (begun (word_law w.Update) (λ at. next name_law (λ table. next (word_law w.Set) (λ at. next (list_law (set_item_law d) refl)
    (λ sets. pass (optional_law (where_law d)) (λ filter. done (statement.Update table sets filter)) refl) refl) refl) refl) refl) refl

delete_law : {k : Asked} (d : ℕ) → Begun k (delete d) (delete (suc d)) (of_word w.Delete ∷ []) (of_word w.Where ∷ cond_more)
unfolding delete
delete_law d =
    begun_wider (begun (word_law w.Delete) (λ at. next (word_law w.From) (λ at. next name_law (λ table. pass (optional_law (where_law d)) (λ filter. done (statement.Delete table filter)) refl) refl) refl) refl) refl

-- SELECT
shown_expr_law : {k : Asked} (d : ℕ) → Begun k (shown_expr d) (shown_expr (suc d)) factors expr_more
unfolding shown_expr
shown_expr_law d = begun (expr_law (bracketed d) (bracketed (suc d)) (bracketed_law d)) (λ e. done (shown.Expr e)) refl

all_rows_law : {k : Asked} → Begun k all_rows all_rows (of_sign s.Star ∷ []) []
unfolding all_rows
all_rows_law = begun (sign_law s.Star) (λ at. done shown.CountRows) refl

counted_law : {k : Asked} → Begun k counted counted (of_name ∷ []) (of_sign s.Dot ∷ [])
unfolding counted
counted_law = begun column_law (λ c. done (shown.Count c)) refl

count_law : {k : Asked} → Begun k count count (of_word w.Count ∷ []) []
unfolding count
count_law = begun (word_law w.Count) (λ at. last (in_brackets_law (or all_rows_law counted_law refl) refl)) refl

aggregate_law : {k : Asked} (called : Word) (shows : ColumnName → SelectForm) → Begun k (aggregate called shows) (aggregate called shows) (of_word called ∷ []) []
unfolding aggregate
aggregate_law called shows = begun (word_law called) (λ at. next (in_brackets_law column_law refl) (λ c. done (shows c)) refl) refl

sum_law : {k : Asked} → Begun k sum sum (of_word w.Sum ∷ []) []
unfolding sum
sum_law = aggregate_law w.Sum (λ c. shown.Sum c)

least_law : {k : Asked} → Begun k least least (of_word w.Min ∷ []) []
unfolding least
least_law = aggregate_law w.Min (λ c. shown.Min c)

greatest_law : {k : Asked} → Begun k greatest greatest (of_word w.Max ∷ []) []
unfolding greatest
greatest_law = aggregate_law w.Max (λ c. shown.Max c)

abbrev shown_items : List ℕ
shown_items = factors ++ of_word w.Count ∷ of_word w.Sum ∷ of_word w.Min ∷ of_word w.Max ∷ []

select_form_law : {k : Asked} (d : ℕ) → Begun k (select_form d) (select_form (suc d)) shown_items expr_more
unfolding select_form
select_form_law d = begun_wider (or (shown_expr_law d) (or count_law (or sum_law (or least_law greatest_law refl) refl) refl) refl) refl

select_item_law : {k : Asked} (d : ℕ) → Begun k (select_item d) (select_item (suc d)) shown_items expr_more
unfolding select_item
select_item_law d = begun (at_place (select_form_law d)) (λ item. done (record { at = item.0; form = item.1 })) refl

all_columns_law : {k : Asked} → Begun k all_columns all_columns (of_sign s.Star ∷ []) []
unfolding all_columns
all_columns_law = begun (sign_law s.Star) (λ at. done None) refl

some_items_law : {k : Asked} (d : ℕ) → Begun k (some_items d) (some_items (suc d)) shown_items (of_sign s.Comma ∷ expr_more)
unfolding some_items
some_items_law d = begun_wider (begun (list_law (select_item_law d) refl) (λ items. done (Some items)) refl) refl

items_law : {k : Asked} (d : ℕ) → Begun k (items d) (items (suc d)) (of_sign s.Star ∷ shown_items) (of_sign s.Comma ∷ expr_more)
unfolding items
items_law d = begun_wider (or all_columns_law (some_items_law d) refl) refl

as_name_law : {k : Asked} → Begun k as_name as_name (of_word w.As ∷ []) []
unfolding as_name
as_name_law = begun (word_law w.As) (λ at. last name_law) refl

abbrev from_more : List ℕ
from_more = of_word w.As ∷ of_name ∷ []

from_item_law : {k : Asked} → Begun k from_item from_item (of_name ∷ []) from_more
unfolding from_item
from_item_law = begun name_law (λ table. pass (optional_law (or as_name_law name_law refl)) (λ called. done (record { table = table; called = called; on = None })) refl) refl

inner_join_law : {k : Asked} → Begun k inner_join inner_join (of_word w.Inner ∷ []) []
unfolding inner_join
inner_join_law = begun (word_law w.Inner) (λ at. last (word_law w.Join)) refl

joined_law : {k : Asked} (d : ℕ) → Begun k (joined d) (joined (suc d)) (of_word w.Inner ∷ of_word w.Join ∷ []) cond_more
unfolding joined
joined_law d =
    begun (or inner_join_law (word_law w.Join) refl) (λ at. next from_item_law (λ item. next (word_law w.On) (λ at. next (cond_law (nested d) (nested (suc d)) (nested_law d))
    (λ on. done (record { table = item.table; called = item.called; on = Some on })) refl) refl) refl) refl

abbrev joins : List ℕ
joins = of_sign s.Comma ∷ of_word w.Inner ∷ of_word w.Join ∷ []

more_from_law : {k : Asked} (d : ℕ) → Begun k (more_from d) (more_from (suc d)) joins (from_more ++ cond_more)
unfolding more_from
more_from_law d = begun_wider (or (comma_law from_item_law) (joined_law d) refl) refl

from_items_law : {k : Asked} (d : ℕ) → Begun k (from_items d) (from_items (suc d)) (of_name ∷ []) (joins ++ from_more ++ cond_more)
unfolding from_items
from_items_law d = begun_wider (begun from_item_law (λ first. many behind (first ∷ []) (more_from_law d) refl) refl) refl

group_by_law : {k : Asked} → Begun k group_by group_by (of_word w.Group ∷ []) (of_sign s.Comma ∷ of_sign s.Dot ∷ [])
unfolding group_by
group_by_law = begun_wider (begun (word_law w.Group) (λ at. next (word_law w.By) (λ at. last (list_law column_law refl)) refl) refl) refl

order_column_law : {k : Asked} → Begun k order_column order_column (of_name ∷ []) (of_sign s.Dot ∷ [])
unfolding order_column
order_column_law = begun column_law (λ c. done (order.Column c)) refl

ascending_law : {k : Asked} → Begun k ascending ascending (of_word w.Asc ∷ []) []
unfolding ascending
ascending_law = begun (word_law w.Asc) (λ at. done false) refl

descending_law : {k : Asked} → Begun k descending descending (of_word w.Desc ∷ []) []
unfolding descending
descending_law = begun (word_law w.Desc) (λ at. done true) refl

abbrev directions : List ℕ
directions = of_word w.Asc ∷ of_word w.Desc ∷ []

direction_law : {k : Asked} → Law k direction direction directions directions true
unfolding direction
direction_law =
    let p = ascending_law in
    let q = descending_law in
    wider (or_none p.inner (or_none q.inner (done false) refl) refl) refl

order_item_law : {k : Asked} → Begun k order_item order_item (of_name ∷ of_number ∷ []) (of_sign s.Dot ∷ directions)
unfolding order_item
order_item_law = begun_wider (begun (or order_column_law order_number_law refl) (λ by. pass direction_law (λ descending. done (record { by = by; descending = descending })) refl) refl) refl

order_by_law : {k : Asked} → Begun k order_by order_by (of_word w.Order ∷ []) (of_sign s.Comma ∷ of_sign s.Dot ∷ directions)
unfolding order_by
order_by_law = begun_wider (begun (word_law w.Order) (λ at. next (word_law w.By) (λ at. last (list_law order_item_law refl)) refl) refl) refl

limit_law : {k : Asked} → Begun k limit limit (of_word w.Limit ∷ []) []
unfolding limit
limit_law = begun (word_law w.Limit) (λ at. last number_law) refl

-- all tokens that may go on with a statement
abbrev pub statement_more : List ℕ
statement_more =
    of_word w.Where ∷ of_word w.Group ∷ of_word w.Order ∷ of_word w.Limit ∷ (joins ++ (from_more ++ (cond_more ++ (expr_more ++ directions))))

select_law : {k : Asked} (d : ℕ) → Begun k (select d) (select (suc d)) (of_word w.Select ∷ []) statement_more
unfolding select
select_law d =
    begun_wider (begun (word_law w.Select) (λ at. next (items_law d) (λ items. next (word_law w.From) (λ at. next (from_items_law d) (λ from. pass (optional_law (where_law d))
    (λ filter. pass (list_or_none_law group_by_law) (λ group. pass (list_or_none_law order_by_law) (λ order. pass (optional_law limit_law)
    (λ most. done (statement.Select items from filter group order most)) refl) refl) refl) refl) refl) refl) refl) refl) refl

-- the others
begin_law : {k : Asked} → Begun k begin begin (of_word w.Begin ∷ []) []
unfolding begin
begin_law = begun (word_law w.Begin) (λ at. done statement.Begin) refl

commit_law : {k : Asked} → Begun k commit commit (of_word w.Commit ∷ []) []
unfolding commit
commit_law = begun (word_law w.Commit) (λ at. done statement.Commit) refl

rollback_law : {k : Asked} → Begun k rollback rollback (of_word w.Rollback ∷ []) []
unfolding rollback
rollback_law = begun (word_law w.Rollback) (λ at. done statement.Rollback) refl

recover_law : {k : Asked} → Begun k recover recover (of_word w.Recover ∷ []) []
unfolding recover
recover_law = begun (word_law w.Recover) (λ at. next node_law (λ node. done (statement.Recover node)) refl) refl

abbrev pub statements : List ℕ
statements =
    of_word w.Create ∷ of_word w.Insert ∷ of_word w.Update ∷ of_word w.Delete ∷ of_word w.Select ∷ of_word w.Begin ∷ of_word w.Commit ∷ of_word w.Rollback ∷ of_word w.Recover ∷ []

pub statement_law : {k : Asked} (d : ℕ) → Begun k (statement_form d) (statement_form (suc d)) statements statement_more
unfolding statement_form
statement_law d =
    begun_wider (or create_law (or insert_law (or (update_law d) (or (delete_law d) (or (select_law d) (or begin_law (or commit_law (or rollback_law recover_law refl) refl) refl) refl) refl) refl) refl) refl) refl

ending_law : Law Deep ending ending (of_sign s.Semicolon ∷ []) (of_sign s.Semicolon ∷ []) true
unfolding ending
ending_law = wider (or_none (none want.End []) (given_law (sign_law s.Semicolon)) refl) refl

pub sentence_law : (d : ℕ) → Begun Deep (sentence d) (sentence (suc d)) statements (of_sign s.Semicolon ∷ statement_more)
unfolding sentence
sentence_law d = begun_wider (begun (statement_law d) (λ x. pass ending_law (λ end. done x) refl) refl) refl
