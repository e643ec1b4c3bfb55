use Rattle.std.proofs.Common.{◌≡◌, ◌++◌, List, [], ◌∷◌, ℕ, sym, ◌∙◌, ap}
use Rattle.tl_journal.specs.Ask.{Found}
use Rattle.tl_txn.proofs.Pages.{key_behind_last}
use Rattle.tl_txn.proofs.reading.key_behind.Goals as goal

pub returns-in_ok-push-in-Some : goal.returns-in_ok-push-in-Some
returns-in_ok-push-in-Some c =
    let whole = c.in-Some.ensures in
    let last : c.last.inside.key ≡ c.in-Some.last.key = ap (λ (f : Found). f.key) c.last.view_is in
    c.in_ok-push-in-Some.ensures.ok ∙ ap (λ (key : List ℕ). key ++ 0 ∷ []) last
    ∙ sym (key_behind_last c.args.from c.args.found c.pop.new.self c.in-Some.last whole)
