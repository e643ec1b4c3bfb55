-- A statement has no more rows of values than tokens: each row begins with a token of its own.
use Rattle.std.proofs.Common.{◌≡◌, ℕ, ◌+◌, ◌≤◌, ◌<◌, ◌⊎◌, inl, inr, List, [], ◌∷◌, ◌++◌, length, length-append, ap, sym, subst, arith}
use Rattle.tl_grammar.specs.declared.token.Word.TheVariants as w
use Rattle.tl_grammar.specs.declared.statement.Statement.{Statement}
use Rattle.tl_grammar.specs.declared.statement.Tuple.{Tuple}
use Rattle.tl_grammar.specs.Token.{Token}
use Rattle.tl_grammar.specs.Form.{Form, IsRow}
use Rattle.tl_grammar.specs.Few.{tuple_count}
use Rattle.tl_grammar.specs.Grammar.{IsStatement, behind, begin, comma, commit, create, create_index, create_table, delete, insert, list, recover, rollback, select, sentence, statement_form, tuple, update}
use Rattle.tl_grammar.proofs.Forms.{Deep}
use Rattle.tl_grammar.proofs.Leaves.{name_law, word_law}
use Rattle.tl_grammar.proofs.Rules.{comma_law, names_law, optional_law, tuple_law}

-- each of a row takes a token at least
row_few : {X : Type 0} (F : Form X) → ((ts rest : List Token) (x : X) → F.is ts x rest → length rest < length ts) → (ys acc xs : List X) (ts rest : List Token)
    → IsRow behind (λ so_far. F) acc ts ys xs rest → length xs + length rest ≤ length acc + length ts
row_few {X} F strict [] acc xs ts rest h =
    let e = ap (λ (l : List X). length l) h.0 in
    let f = ap (λ (l : List Token). length l) h.1 in
    omega arith
row_few {X} F strict (y ∷ ys) acc xs ts rest h =
    let s = strict ts h.0 y h.1 in
    let i = row_few F strict ys (acc ++ y ∷ []) xs h.0 rest h.2 in
    let l = length-append acc (y ∷ []) in
    omega arith

-- so does each of a list
list_few : {X : Type 0} (F : Form X) → ((ts rest : List Token) (x : X) → F.is ts x rest → length rest < length ts)
    → ((ts rest : List Token) (x : X) → (comma F).is ts x rest → length rest < length ts) → (ts rest : List Token) (xs : List X) → (list F).is ts xs rest → length xs + length rest ≤ length ts
unfolding list
list_few F strict comma_strict ts rest xs h =
    let s = strict ts h.1 h.0 h.2 in
    let r = row_few (comma F) comma_strict h.3.0 (h.0 ∷ []) xs h.1 rest h.3.1 in
    omega arith

tuples_few : (ts rest : List Token) (xs : List Tuple) → (list tuple).is ts xs rest → length xs + length rest ≤ length ts
tuples_few = list_few tuple (tuple_law {k = Deep}).inner.low_opens.strict (comma_law (tuple_law {k = Deep})).inner.low_opens.strict

insert_few : (ts rest : List Token) (x : Statement) → insert.is ts x rest → tuple_count x ≤ length ts
unfolding insert
insert_few ts rest x h =
    let a = (word_law {k = Deep} w.Insert).inner.near.low.shrinks ts h.1 h.0 h.2 in
    let b = (word_law {k = Deep} w.Into).inner.near.low.shrinks h.1 h.3.1 h.3.0 h.3.2 in
    let c = (name_law {k = Deep}).inner.near.low.shrinks h.3.1 h.3.3.1 h.3.3.0 h.3.3.2 in
    let d = (optional_law (names_law {k = Deep})).near.low.shrinks h.3.3.1 h.3.3.3.1 h.3.3.3.0 h.3.3.3.2 in
    let e = (word_law {k = Deep} w.Values).inner.near.low.shrinks h.3.3.3.1 h.3.3.3.3.1 h.3.3.3.3.0 h.3.3.3.3.2 in
    let f = tuples_few h.3.3.3.3.1 h.3.3.3.3.3.1 h.3.3.3.3.3.0 h.3.3.3.3.3.2 in
    let g = ap tuple_count h.3.3.3.3.3.3.0 in
    omega arith

-- no other statement has any
create_none : (ts rest : List Token) (x : Statement) → create_table.is ts x rest ⊎ create_index.is ts x rest → tuple_count x ≡ 0
unfolding create_table create_index
create_none ts rest x (inl h) = ap tuple_count h.3.3.3.0
create_none ts rest x (inr h) = ap tuple_count h.3.3.3.3.3.0

update_none : (d : ℕ) (ts rest : List Token) (x : Statement) → (update d).is ts x rest → tuple_count x ≡ 0
unfolding update
update_none d ts rest x h = ap tuple_count h.3.3.3.3.3.0

delete_none : (d : ℕ) (ts rest : List Token) (x : Statement) → (delete d).is ts x rest → tuple_count x ≡ 0
unfolding delete
delete_none d ts rest x h = ap tuple_count h.3.3.3.3.0

select_none : (d : ℕ) (ts rest : List Token) (x : Statement) → (select d).is ts x rest → tuple_count x ≡ 0
unfolding select
select_none d ts rest x h = ap tuple_count h.3.3.3.3.3.3.3.3.0

other_none : (ts rest : List Token) (x : Statement) → begin.is ts x rest ⊎ (commit.is ts x rest ⊎ (rollback.is ts x rest ⊎ recover.is ts x rest)) → tuple_count x ≡ 0
unfolding begin commit rollback recover
other_none ts rest x (inl h) = ap tuple_count h.3.0
other_none ts rest x (inr (inl h)) = ap tuple_count h.3.0
other_none ts rest x (inr (inr (inl h))) = ap tuple_count h.3.0
other_none ts rest x (inr (inr (inr h))) = ap tuple_count h.3.3.0

none : {m n : ℕ} → m ≡ 0 → m ≤ n
none e = omega arith

either_few : (d : ℕ) (ts rest : List Token) (x : Statement)
    → create.is ts x rest ⊎ (insert.is ts x rest ⊎ ((update d).is ts x rest ⊎ ((delete d).is ts x rest ⊎ ((select d).is ts x rest
    ⊎ (begin.is ts x rest ⊎ (commit.is ts x rest ⊎ (rollback.is ts x rest ⊎ recover.is ts x rest))))))) → tuple_count x ≤ length ts
unfolding create
either_few d ts rest x (inl h) = none (create_none h.1 rest x h.3)
either_few d ts rest x (inr (inl h)) = insert_few ts rest x h
either_few d ts rest x (inr (inr (inl h))) = none (update_none d ts rest x h)
either_few d ts rest x (inr (inr (inr (inl h)))) = none (delete_none d ts rest x h)
either_few d ts rest x (inr (inr (inr (inr (inl h))))) = none (select_none d ts rest x h)
either_few d ts rest x (inr (inr (inr (inr (inr h))))) = none (other_none ts rest x h)

statement_few : (d : ℕ) (ts rest : List Token) (x : Statement) → (statement_form d).is ts x rest → tuple_count x ≤ length ts
unfolding statement_form
statement_few d ts rest x h = either_few d ts rest x h

pub few_law : (d : ℕ) (ts : List Token) (x : Statement) → IsStatement d ts x → tuple_count x ≤ length ts
unfolding sentence
few_law d ts x h = subst (λ (y : Statement). tuple_count y ≤ length ts) (sym h.3.3.0) (statement_few d ts h.1 h.0 h.2)
