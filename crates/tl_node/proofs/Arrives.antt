-- The parts of a node stand for the node of the law that goes on so.
use Rattle.std.proofs.Common.{◌≡◌, ℕ, zero, suc, ◌+◌, List, [], ◌∷◌, ◌++◌, length, drop, refl, sym, ap, ◌∙◌, subst, add-one, length-append}
use Rattle.tl_base.specs.declared.place.Settings.{Settings}
use Rattle.tl_schema.specs.declared.catalog.Catalog.{Catalog}
use Rattle.tl_isolation.specs.declared.bound.Bound.{Bound}
use Rattle.tl_isolation.specs.declared.entry.Answer.{Answer}
use Rattle.tl_journal.specs.Node.{Doing, Inside, Node}
use Rattle.tl_txn.specs.Doing.{txn_in}
use Rattle.tl_txn.specs.declared.phase.Open.{Open}
use Rattle.tl_txn.specs.declared.phase.Phase.{Phase}
use Rattle.tl_txn.specs.declared.phase.Phase.TheVariants as phase
use Rattle.tl_node.specs.After.{IsOpened, Opens, at_todo}
use Rattle.tl_node.specs.Fits.{IsFit}
use Rattle.tl_node.specs.Seen.{seen}
use Rattle.tl_node.specs.View.{StandsFor, node_so, stage_of, value_of}
use Rattle.tl_node.specs.declared.kept.Core.{Core}
use Rattle.tl_node.specs.declared.work.Stage.{Stage}
use Rattle.tl_node.specs.declared.work.Work.{Work}

seen_is : (settings : Settings) (catalog : Catalog) (node : Node) (todo : List Bound)
    → seen settings catalog (record node { todo = todo }) ≡ record node { todo = todo; doing = (seen settings catalog (record node { todo = todo })).doing }
seen_is settings catalog node [] = refl
seen_is settings catalog node (statement ∷ later) = refl

-- by these settings it fits, and stands for that node
pub record Arrives (settings : Settings) (catalog : Catalog) (core : Core) (w : Work) (after : Node) : Type 0 where
  pub fits : IsFit core w
  pub stands : StandsFor settings catalog after (value_of core w)

pub arrives : (core : Core) (w : Work) (doing : Doing) → IsOpened core (drop (length core.answers.items) core.statements) doing w → Arrives core.layout core.catalog core w (node_so core doing)
arrives core w doing o =
    record {
      fits = o.fits;
      stands = record {
        settings_are = refl;
        catalog_is = refl;
        node_is = ap (λ (d : Doing). node_so core d) o.doing_is ∙ sym (seen_is core.layout core.catalog (node_so core doing) (drop (length core.answers.items) core.statements));
        ask_is = o.ask_is;
      };
    }

-- with these statements left
pub arrives_at : (core : Core) (todo : List Bound) (w : Work) (doing : Doing) → drop (length core.answers.items) core.statements ≡ todo → IsOpened core todo doing w
    → Arrives core.layout core.catalog core w (at_todo core todo doing)
arrives_at core todo w doing e o =
    subst (λ (left : List Bound). Arrives core.layout core.catalog core w (at_todo core left doing)) e
    (arrives core w doing (subst (λ (left : List Bound). IsOpened core left doing w) (sym e) o))

module _ {A : Type 0} where
  drop_behind : (k : ℕ) (xs : List A) (x : A) (ys : List A) → drop k xs ≡ x ∷ ys → drop (suc k) xs ≡ ys
  drop_behind zero [] x ys e = cc
  drop_behind zero (z ∷ zs) x ys e = drop_none zs ∙ tail
    where
      drop_none : (xs : List A) → drop zero xs ≡ xs
      drop_none [] = refl
      drop_none (x ∷ xs) = refl

      tail : zs ≡ ys
      tail = cc
  drop_behind (suc k) [] x ys e = cc
  drop_behind (suc k) (z ∷ zs) x ys e = drop_behind k zs x ys e

  pub drop_next : (k : ℕ) (xs : List A) (x : A) (ys : List A) → drop k xs ≡ x ∷ ys → drop (k + 1) xs ≡ ys
  drop_next k xs x ys e = ap (λ (n : ℕ). drop n xs) (add-one k) ∙ drop_behind k xs x ys e

module _ {A B : Type 0} where
  -- one more is answered
  pub drop_more : (done now : List B) (b : B) (xs : List A) → now ≡ done ++ b ∷ [] → drop (length now) xs ≡ drop (length done + 1) xs
  drop_more done now b xs same = ap (λ (bs : List B). drop (length bs) xs) same ∙ ap (λ (n : ℕ). drop n xs) (length-append done (b ∷ []))

-- the present statement is answered, and these are left
abbrev pub answered_at : Core → List Bound → Answer → Doing → Node
answered_at core later told doing = record (at_todo core later doing) { answers = core.answers.items ++ told ∷ [] }

pub answers_on : (old new : Core) (told : Answer) (statement : Bound) (later : List Bound) (said : Stage) (live : Open) (so_far : Phase) (w : Work)
    → drop (length old.answers.items) old.statements ≡ statement ∷ later → new ≡ record old { answers = new.answers }
    → new.answers.items ≡ old.answers.items ++ told ∷ [] → so_far ≡ phase.Ready live → Opens old (length old.answers.items + 1) so_far said w
    → Arrives old.layout old.catalog new w (answered_at old later told (Inside (txn_in (stage_of said) live)))
answers_on old new told statement later said live so_far w todo_is rest answers is opens =
    subst (λ (c : Core). Arrives old.layout old.catalog c w (answered_at old later told (Inside (txn_in (stage_of said) live)))) (sym rest)
    (subst (λ (n : Node). Arrives old.layout old.catalog (record old { answers = new.answers }) w n)
    (ap (λ (told_so : List Answer). record (at_todo old later (Inside (txn_in (stage_of said) live))) { answers = told_so }) answers)
    (arrives_at (record old { answers = new.answers }) later w (Inside (txn_in (stage_of said) live))
    (left ∙ behind)
    (subst (λ (todo : List Bound). IsOpened (record old { answers = new.answers }) todo (Inside (txn_in (stage_of said) live)) w) behind
    (opens live (record old { answers = new.answers }) is refl))))
  where
    left : drop (length new.answers.items) old.statements ≡ drop (length old.answers.items + 1) old.statements
    left = drop_more old.answers.items new.answers.items told old.statements answers

    behind : drop (length old.answers.items + 1) old.statements ≡ later
    behind = drop_next (length old.answers.items) old.statements statement later todo_is
