-- Writing a list item by item.
use Rattle.std.proofs.Common.{◌≡◌, ℕ, ◌+◌, suc, ◌<◌, List, ◌∷◌, ◌++◌, length, drop, get_or, sym, ap, ◌∙◌, append_assoc, add-one, drop-cons}
use Rattle.std.specs.List.{flat_map, enumerate_from}
use Rattle.std.proofs.lemmas.Grind.{flat_map-append}
use Rattle.std.proofs.lemmas.List.Elements.{filter_map-append}
use Rattle.tl_lemmas.proofs.Lists.{drop_read}
use Rattle.tl_journal.specs.declared.event.Event.{Event}
use Rattle.tl_isolation.specs.Script.{answer_at, answers_by}
use Rattle.tl_journal.specs.Journal.{entries_told}
use Rattle.tl_render.specs.Printed.{answer_text, ending_at, ending_text, endings_of}

-- what is written and the text of what is left stay the text of all
pub writes_next : {X : Type 0} (f : X → List ℕ) (text : List X → List ℕ) → ((x : X) (xs : List X) → text (x ∷ xs) ≡ f x ++ text xs)
    → (out new whole : List ℕ) (xs : List X) (i : ℕ) (x : X) → i < length xs → x ≡ get_or xs i x → new ≡ out ++ f x
    → out ++ text (drop i xs) ≡ whole → new ++ text (drop (i + 1) xs) ≡ whole
writes_next f text step out new whole xs i x below is wrote so_far =
    ap (λ (o : List ℕ). o ++ text (drop (i + 1) xs)) wrote
    ∙ append_assoc out (f x) (text (drop (i + 1) xs))
    ∙ ap (λ (t : List ℕ). out ++ t) (sym (ap text (drop_read xs i x below is) ∙ step x (drop (i + 1) xs)))
    ∙ so_far

-- the answers of one event, and those of the events after it
pub answers-told : (node : ℕ) (e : Event) (es : List Event)
    → flat_map answer_text (answers_by node (entries_told (e ∷ es))) ≡ flat_map answer_text (answers_by node e.entries) ++ flat_map answer_text (answers_by node (entries_told es))
answers-told node e es =
    ap (flat_map answer_text) (filter_map-append (answer_at node) e.entries (entries_told es))
    ∙ flat_map-append answer_text (answers_by node e.entries) (answers_by node (entries_told es))

pub endings-told : (node : ℕ) (e : Event) (es : List Event)
    → flat_map ending_text (endings_of node (entries_told (e ∷ es))) ≡ flat_map ending_text (endings_of node e.entries) ++ flat_map ending_text (endings_of node (entries_told es))
endings-told node e es =
    ap (flat_map ending_text) (filter_map-append (ending_at node) e.entries (entries_told es))
    ∙ flat_map-append ending_text (endings_of node e.entries) (endings_of node (entries_told es))

-- the same of items that are numbered from 0
pub writes_numbered : {X : Type 0} (f : ℕ × X → List ℕ) (out new whole : List ℕ) (xs : List X) (i : ℕ) (x : X) → i < length xs → x ≡ get_or xs i x → new ≡ out ++ f (i, x)
    → out ++ flat_map f (enumerate_from i (drop i xs)) ≡ whole → new ++ flat_map f (enumerate_from (i + 1) (drop (i + 1) xs)) ≡ whole
writes_numbered f out new whole xs i x below is wrote so_far =
    ap (λ (o : List ℕ). o ++ flat_map f (enumerate_from (i + 1) (drop (i + 1) xs))) wrote
    ∙ append_assoc out (f (i, x)) (flat_map f (enumerate_from (i + 1) (drop (i + 1) xs)))
    ∙ ap (λ (ys : List _). out ++ flat_map f (enumerate_from i ys)) (sym (drop_read xs i x below is))
    ∙ so_far
