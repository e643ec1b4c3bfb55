-- How the words and the signs of the grammar are written.
use Rattle.std.specs.Prelude.{ℕ, List, [], ◌∷◌, Option, codes}
use Rattle.std.specs.List.{find}
use Rattle.std.specs.Option.{option_map}
use Rattle.std.specs.Str.{bytes_eq}
use Rattle.tl_grammar.specs.declared.token.Word.{Word}
use Rattle.tl_grammar.specs.declared.token.Word.TheVariants as w
use Rattle.tl_grammar.specs.declared.token.Sign.{Sign}
use Rattle.tl_grammar.specs.declared.token.Sign.TheVariants as s

-- in lower case
abbrev pub word_spellings : List (List ℕ × Word)
word_spellings =
    (codes "and", w.And) ∷
    (codes "as", w.As) ∷
    (codes "asc", w.Asc) ∷
    (codes "begin", w.Begin) ∷
    (codes "bool", w.Bool) ∷
    (codes "boolean", w.Boolean) ∷
    (codes "by", w.By) ∷
    (codes "commit", w.Commit) ∷
    (codes "count", w.Count) ∷
    (codes "create", w.Create) ∷
    (codes "delete", w.Delete) ∷
    (codes "desc", w.Desc) ∷
    (codes "false", w.False) ∷
    (codes "from", w.From) ∷
    (codes "group", w.Group) ∷
    (codes "index", w.Index) ∷
    (codes "inner", w.Inner) ∷
    (codes "insert", w.Insert) ∷
    (codes "int", w.Int) ∷
    (codes "integer", w.Integer) ∷
    (codes "into", w.Into) ∷
    (codes "is", w.Is) ∷
    (codes "join", w.Join) ∷
    (codes "key", w.Key) ∷
    (codes "limit", w.Limit) ∷
    (codes "max", w.Max) ∷
    (codes "min", w.Min) ∷
    (codes "not", w.Not) ∷
    (codes "null", w.Null) ∷
    (codes "on", w.On) ∷
    (codes "or", w.Or) ∷
    (codes "order", w.Order) ∷
    (codes "primary", w.Primary) ∷
    (codes "recover", w.Recover) ∷
    (codes "rollback", w.Rollback) ∷
    (codes "select", w.Select) ∷
    (codes "set", w.Set) ∷
    (codes "sum", w.Sum) ∷
    (codes "table", w.Table) ∷
    (codes "text", w.Text) ∷
    (codes "true", w.True) ∷
    (codes "update", w.Update) ∷
    (codes "values", w.Values) ∷
    (codes "where", w.Where) ∷ []

abbrev pub sign_spellings : List (List ℕ × Sign)
sign_spellings =
    (codes "(", s.Open) ∷
    (codes ")", s.Close) ∷
    (codes ",", s.Comma) ∷
    (codes ".", s.Dot) ∷
    (codes ";", s.Semicolon) ∷
    (codes "*", s.Star) ∷
    (codes "+", s.Plus) ∷
    (codes "-", s.Minus) ∷
    (codes "=", s.Equal) ∷
    (codes "<>", s.NotEqual) ∷
    (codes "<", s.Less) ∷
    (codes "<=", s.LessEqual) ∷
    (codes ">", s.Greater) ∷
    (codes ">=", s.GreaterEqual) ∷
    (codes "!=", s.NotEqual) ∷ []

-- what is written so, if anything is
abbrev pub spelled : {A : Type 0} → List (List ℕ × A) → List ℕ → Option A
spelled spellings bytes = option_map (λ entry. entry.1) (find (λ entry. bytes_eq entry.0 bytes) spellings)

abbrev pub word_number : Word → ℕ
word_number w.And = 0
word_number w.As = 1
word_number w.Asc = 2
word_number w.Begin = 3
word_number w.Bool = 4
word_number w.Boolean = 5
word_number w.By = 6
word_number w.Commit = 7
word_number w.Count = 8
word_number w.Create = 9
word_number w.Delete = 10
word_number w.Desc = 11
word_number w.False = 12
word_number w.From = 13
word_number w.Group = 14
word_number w.Index = 15
word_number w.Inner = 16
word_number w.Insert = 17
word_number w.Int = 18
word_number w.Integer = 19
word_number w.Into = 20
word_number w.Is = 21
word_number w.Join = 22
word_number w.Key = 23
word_number w.Limit = 24
word_number w.Max = 25
word_number w.Min = 26
word_number w.Not = 27
word_number w.Null = 28
word_number w.On = 29
word_number w.Or = 30
word_number w.Order = 31
word_number w.Primary = 32
word_number w.Recover = 33
word_number w.Rollback = 34
word_number w.Select = 35
word_number w.Set = 36
word_number w.Sum = 37
word_number w.Table = 38
word_number w.Text = 39
word_number w.True = 40
word_number w.Update = 41
word_number w.Values = 42
word_number w.Where = 43

abbrev pub sign_number : Sign → ℕ
sign_number s.Open = 0
sign_number s.Close = 1
sign_number s.Comma = 2
sign_number s.Dot = 3
sign_number s.Semicolon = 4
sign_number s.Star = 5
sign_number s.Plus = 6
sign_number s.Minus = 7
sign_number s.Equal = 8
sign_number s.NotEqual = 9
sign_number s.Less = 10
sign_number s.LessEqual = 11
sign_number s.Greater = 12
sign_number s.GreaterEqual = 13
