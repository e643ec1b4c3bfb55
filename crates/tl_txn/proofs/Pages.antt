-- The cells of a page.
use Rattle.std.proofs.Common.{◌≡◌, ℕ, zero, suc, ◌+◌, ◌<◌, List, [], ◌∷◌, ◌++◌, Option, Some, None, length, get_or, take, refl, sym, ap, ◌∙◌, append_assoc, append-nil, arith}
use Rattle.std.specs.Option.{option_to_list}
use Rattle.tl_values.specs.declared.value.Value.{Value}
use Rattle.tl_descriptor.specs.Tids.{TidSet}
use Rattle.tl_protocol.specs.Store.{row_shown}
use Rattle.tl_journal.specs.Ask.{Found}
use Rattle.tl_journal.specs.Reads.{key_behind, rows_found}

last_behind : (from : List ℕ) (front : List Found) (last : Found) → key_behind from (front ++ last ∷ []) ≡ last.key ++ 0 ∷ []
last_behind from [] last = refl
last_behind from (f ∷ fs) last = last_behind (f.key ++ 0 ∷ []) fs last

pub key_behind_last : (from : List ℕ) (found front : List Found) (last : Found) → found ≡ front ++ last ∷ [] → key_behind from found ≡ last.key ++ 0 ∷ []
key_behind_last from found front last e = ap (key_behind from) e ∙ last_behind from front last

shown_first : (set : TidSet) (f : Found) (fs : List Found) → rows_found set (f ∷ fs) ≡ option_to_list (row_shown set f.versions) ++ rows_found set fs
shown_first set f fs = by (row_shown set f.versions) refl
  where
    by : (row : Option (List Value)) → row_shown set f.versions ≡ row → rows_found set (f ∷ fs) ≡ option_to_list (row_shown set f.versions) ++ rows_found set fs
    by None e = rw e refl
    by (Some row) e = rw e refl

-- one cell more is looked at
pub shown_more : (set : TidSet) (found : List Found) (i : ℕ) (d : Found) → i < length found
    → rows_found set (take (i + 1) found) ≡ rows_found set (take i found) ++ option_to_list (row_shown set (get_or found i d).versions)
shown_more set [] i d h = absurd (omega arith)
shown_more set (f ∷ fs) zero d h = shown_first set f [] ∙ append-nil (option_to_list (row_shown set f.versions))
shown_more set (f ∷ fs) (suc i) d h =
    let e : suc i + 1 ≡ suc (i + 1) = omega arith in
    rw e (shown_first set f (take (i + 1) fs) ∙ ap (λ (rows : List (List Value)). option_to_list (row_shown set f.versions) ++ rows) (shown_more set fs i d (omega arith))
    ∙ sym (append_assoc (option_to_list (row_shown set f.versions)) (rows_found set (take i fs)) (option_to_list (row_shown set (get_or fs i d).versions)))
    ∙ ap (λ (rows : List (List Value)). rows ++ option_to_list (row_shown set (get_or fs i d).versions)) (sym (shown_first set f (take i fs))))
