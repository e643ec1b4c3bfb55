-- What is picked from a token.
use Rattle.std.specs.Prelude.{ℕ, zero, suc, ◌+◌, ◌^◌, ◌==◌, ◌&&◌, ℤ, pos, negsuc, true, false, Option, Some, None, nat_lt, if◌then◌else◌}
use Rattle.tl_values.specs.declared.value.Comparison.{Comparison}
use Rattle.tl_values.specs.declared.value.Comparison.TheVariants as compare
use Rattle.tl_values.specs.declared.value.Kind as column
use Rattle.tl_values.specs.declared.value.Kind.TheVariants as type
use Rattle.tl_values.specs.declared.value.Value.{Value}
use Rattle.tl_values.specs.declared.value.Value.TheVariants as value
use Rattle.tl_grammar.specs.declared.token.Word.{Word}
use Rattle.tl_grammar.specs.declared.token.Word.TheVariants as w
use Rattle.tl_grammar.specs.declared.token.Sign.{Sign}
use Rattle.tl_grammar.specs.declared.token.Sign.TheVariants as s
use Rattle.tl_grammar.specs.declared.name.Name.{Name}
use Rattle.tl_grammar.specs.declared.operand.Literal.{Literal}
use Rattle.tl_grammar.specs.declared.expression.Operator.{Operator}
use Rattle.tl_grammar.specs.declared.expression.Operator.TheVariants as by
use Rattle.tl_grammar.specs.declared.select.OrderBy.{OrderBy}
use Rattle.tl_grammar.specs.declared.select.OrderBy.TheVariants as order
use Rattle.tl_grammar.specs.Spelling.{sign_number, word_number}
use Rattle.tl_grammar.specs.Token.{Kind}
use Rattle.tl_grammar.specs.Token as kind

-- where the token begins, if it is this word
abbrev pub word_kind : Word → ℕ → Kind → Option ℕ
word_kind x at (kind.Word y) = if word_number x == word_number y then Some at else None
word_kind x at k = None

abbrev pub sign_kind : Sign → ℕ → Kind → Option ℕ
sign_kind x at (kind.Sign y) = if sign_number x == sign_number y then Some at else None
sign_kind x at k = None

abbrev pub name_kind : ℕ → Kind → Option Name
name_kind at (kind.Name text) = Some (record { at = at; text = text })
name_kind at k = None

abbrev pub number_kind : Kind → Option ℕ
number_kind (kind.Number n) = Some n
number_kind k = None

-- a number that 64 bits hold; a larger one is no token of a text
abbrev pub positive_kind : ℕ → Kind → Option Literal
positive_kind at (kind.Number n) = if nat_lt n (2 ^ 63) then Some (record { at = at; value = value.Int (pos n) }) else None
positive_kind at k = None

abbrev pub minus : ℕ → ℤ
minus zero = pos 0
minus (suc n) = negsuc n

-- a number that 64 bits hold behind a minus sign
abbrev pub negative_kind : Kind → Option Value
negative_kind (kind.Number n) = if nat_lt n (2 ^ 63 + 1) then Some (value.Int (minus n)) else None
negative_kind k = None

abbrev pub text_kind : ℕ → Kind → Option Literal
text_kind at (kind.Text bytes) = Some (record { at = at; value = value.Text bytes })
text_kind at k = None

-- TRUE | FALSE | NULL
abbrev pub constant_kind : ℕ → Kind → Option Literal
constant_kind at (kind.Word w.True) = Some (record { at = at; value = value.Bool true })
constant_kind at (kind.Word w.False) = Some (record { at = at; value = value.Bool false })
constant_kind at (kind.Word w.Null) = Some (record { at = at; value = value.Null })
constant_kind at k = None

-- + | -
abbrev pub sum_kind : Kind → Option Operator
sum_kind (kind.Sign s.Plus) = Some by.Add
sum_kind (kind.Sign s.Minus) = Some by.Subtract
sum_kind k = None

-- = | <> | != | < | <= | > | >=
abbrev pub comparison_kind : Kind → Option Comparison
comparison_kind (kind.Sign s.Equal) = Some compare.Equal
comparison_kind (kind.Sign s.NotEqual) = Some compare.NotEqual
comparison_kind (kind.Sign s.Less) = Some compare.Less
comparison_kind (kind.Sign s.LessEqual) = Some compare.LessEqual
comparison_kind (kind.Sign s.Greater) = Some compare.Greater
comparison_kind (kind.Sign s.GreaterEqual) = Some compare.GreaterEqual
comparison_kind k = None

-- INT | INTEGER | TEXT | BOOL | BOOLEAN
abbrev pub type_kind : Kind → Option column.Kind
type_kind (kind.Word w.Int) = Some type.Int
type_kind (kind.Word w.Integer) = Some type.Int
type_kind (kind.Word w.Text) = Some type.Text
type_kind (kind.Word w.Bool) = Some type.Bool
type_kind (kind.Word w.Boolean) = Some type.Bool
type_kind k = None

-- the place of a printed column
abbrev pub printed_kind : ℕ → Kind → Option OrderBy
printed_kind at (kind.Number n) = Some (order.Number at n)
printed_kind at k = None

-- the number of a node, from 1 to 16
abbrev pub node_kind : Kind → Option ℕ
node_kind (kind.Number n) = if nat_lt 0 n && nat_lt n 17 then Some n else None
node_kind k = None
