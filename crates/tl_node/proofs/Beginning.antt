-- A node at the first request of its session.
use Rattle.std.proofs.Common.{◌≡◌, ℕ, zero, suc, true, false, arith, List, [], ◌∷◌, length, drop, refl, sym, ap, ◌∙◌, subst}
use Rattle.std.specs.Prelude.{nat_le}
use Rattle.tl_base.specs.declared.place.Settings.{Settings}
use Rattle.tl_schema.specs.declared.catalog.Catalog.{Catalog}
use Rattle.std.proofs.lemmas.Bool.Decides.{nat_tests}
use Rattle.tl_protocol.specs.Move.{is_empty}
use Rattle.tl_isolation.specs.declared.bound.Bound.{Bound}
use Rattle.tl_isolation.specs.declared.script.Session.{Session}
use Rattle.tl_journal.specs.Asks.{asks}
use Rattle.tl_journal.specs.Node.{Doing, Outside, Node, opening_node}
use Rattle.tl_node.specs.Fits.{FitsTodo, IsFit, IsOpening}
use Rattle.tl_node.specs.New.{IsNew}
use Rattle.tl_node.specs.Seen.{seen}
use Rattle.tl_node.specs.View.{StandsFor, asked_by, node_at, node_so, value_of}
use Rattle.tl_node.specs.declared.kept.Core.{Core}
use Rattle.tl_node.specs.declared.work.Outside.{Outside as TheOutside}
use Rattle.tl_node.specs.declared.work.Work.TheVariants as work
use Rattle.tl_node.proofs.Opening.{asked_alike, fits_outside, outside_doing, same_node}

none_dropped : (xs : List Bound) → drop 0 xs ≡ xs
none_dropped [] = refl
none_dropped (x ∷ xs) = refl

seen_opening : (settings : Settings) (catalog : Catalog) (n : Node) → n.doing ≡ Outside → seen settings catalog n ≡ n
seen_opening settings catalog n e = by n.todo n.doing e
  where
    by : (todo : List Bound) (d : Doing) → d ≡ Outside → seen settings catalog (record n { todo = todo; doing = d }) ≡ record n { todo = todo; doing = d }
    by todo d e = subst (λ x. seen settings catalog (record n { todo = todo; doing = x }) ≡ record n { todo = todo; doing = x }) (sym e) (at todo)
      where
        at : (todo : List Bound) → seen settings catalog (record n { todo = todo; doing = Outside }) ≡ record n { todo = todo; doing = Outside }
        at [] = refl
        at (statement ∷ later) = refl

module _ (core : Core) (settings : Settings) (catalog : Catalog) (session : Session) (o : TheOutside) (new : IsNew core settings catalog session)
    (opening : IsOpening core 0 o) where
  first : drop (length core.answers.items) core.statements ≡ drop 0 core.statements
  first = ap (λ done. drop (length done) core.statements) new.answers

  todo_is : drop (length core.answers.items) core.statements ≡ session.statements
  todo_is = first ∙ none_dropped core.statements ∙ new.statements

  fits_todo : FitsTodo core (drop (length core.answers.items) core.statements) o
  fits_todo = subst (λ todo. FitsTodo core todo o) (sym first) opening.fits

  pub new_fits : IsFit core (work.Outside o)
  new_fits = fits_outside core (drop (length core.answers.items) core.statements) o fits_todo

  pub new_stands : StandsFor settings catalog (opening_node settings session) (value_of core (work.Outside o))
  new_stands = record {
    settings_are = new.layout;
    catalog_is = new.catalog_is;
    node_is = same_node (node_at core (work.Outside o)) (opening_node settings session) new.number todo_is new.answers new.floors new.asked_others
        (outside_doing core (drop (length core.answers.items) core.statements) o fits_todo)
        ∙ sym (seen_opening settings catalog (opening_node settings session) refl);
    ask_is = opening.ask
        ∙ ap (λ s. asked_by s (asks s core.catalog (record (node_so core Outside) { todo = drop 0 core.statements }))) new.layout
        ∙ ap (λ c. asked_by settings (asks settings c (record (node_so core Outside) { todo = drop 0 core.statements }))) new.catalog_is
        ∙ asked_alike settings catalog (record (node_so core Outside) { todo = drop 0 core.statements }) (opening_node settings session)
        new.number (none_dropped core.statements ∙ new.statements) refl refl;
  }

-- ---- whether all is answered

least : (n : ℕ) → nat_le 0 n ≡ true
least n = grind (arith, nat_tests)

none_below : (n : ℕ) → nat_le (suc n) 0 ≡ false
none_below n = grind (arith, nat_tests)

both_more : (m n : ℕ) → nat_le (suc m) (suc n) ≡ nat_le m n
both_more m n = grind (arith, nat_tests)

pub all_answered : (done : ℕ) (xs : List Bound) → nat_le (length xs) done ≡ is_empty (drop done xs)
all_answered zero [] = least 0
all_answered (suc n) [] = least (suc n)
all_answered zero (x ∷ xs) = none_below (length xs)
all_answered (suc n) (x ∷ xs) = both_more (length xs) n ∙ all_answered n xs
