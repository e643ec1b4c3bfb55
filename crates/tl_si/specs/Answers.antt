-- When two answers are the same.
use Rattle.std.specs.Prelude.{ℕ, ◌==◌, Bool, true, false, List}
use Rattle.tl_values.specs.declared.value.Value.{Value}
use Rattle.tl_isolation.specs.declared.entry.Answer.{Answer}
use Rattle.tl_isolation.specs.declared.entry.Answer.TheVariants as answer
use Rattle.std.specs.Cmp.Lexicographic.{slice_cmp}
use Rattle.std.specs.Ordering.{is_eq}
use Rattle.tl_values.specs.Value.{row_cmp}

abbrev pub same_rows : List (List Value) → List (List Value) → Bool
same_rows a b = is_eq (slice_cmp row_cmp a b)

abbrev pub tells_rows : Answer → List (List Value) → Bool
tells_rows (answer.Rows told) rows = same_rows told rows
tells_rows told rows = false

abbrev pub tells_count : Answer → ℕ → Bool
tells_count (answer.Changed told) count = told == count
tells_count told count = false

abbrev pub tells_rival : Answer → ℕ → Bool
tells_rival (answer.Conflict told) rival = told == rival
tells_rival told rival = false

abbrev pub tells_recovered : Answer → ℕ → Bool
tells_recovered (answer.Recovered told) node = told == node
tells_recovered told node = false

abbrev pub tells_there : Answer → ℕ → Bool
tells_there (answer.There told) node = told == node
tells_there told node = false

abbrev pub is_begun : Answer → Bool
is_begun answer.Begun = true
is_begun told = false

abbrev pub is_duplicate : Answer → Bool
is_duplicate answer.Duplicate = true
is_duplicate told = false

abbrev pub is_null : Answer → Bool
is_null answer.Null = true
is_null told = false

abbrev pub is_overflow : Answer → Bool
is_overflow answer.Overflow = true
is_overflow told = false

abbrev pub is_long : Answer → Bool
is_long answer.Long = true
is_long told = false

abbrev pub is_many : Answer → Bool
is_many answer.Many = true
is_many told = false

abbrev pub is_nested : Answer → Bool
is_nested answer.Nested = true
is_nested told = false

abbrev pub is_outside : Answer → Bool
is_outside answer.Outside = true
is_outside told = false

abbrev pub is_committed : Answer → Bool
is_committed answer.Committed = true
is_committed told = false

abbrev pub is_rolled_back : Answer → Bool
is_rolled_back answer.RolledBack = true
is_rolled_back told = false

abbrev pub same_answer : Answer → Answer → Bool
same_answer answer.Begun b = is_begun b
same_answer (answer.Rows rows) b = tells_rows b rows
same_answer (answer.Changed count) b = tells_count b count
same_answer answer.Duplicate b = is_duplicate b
same_answer answer.Null b = is_null b
same_answer answer.Overflow b = is_overflow b
same_answer answer.Long b = is_long b
same_answer answer.Many b = is_many b
same_answer answer.Nested b = is_nested b
same_answer answer.Outside b = is_outside b
same_answer (answer.Conflict rival) b = tells_rival b rival
same_answer answer.Committed b = is_committed b
same_answer answer.RolledBack b = is_rolled_back b
same_answer (answer.Recovered node) b = tells_recovered b node
same_answer (answer.There node) b = tells_there b node
