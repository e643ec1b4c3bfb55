-- A node outside a transaction: its statement begins, and one that is answered gives way to the next.
use Rattle.std.proofs.Common.{◌≡◌, ℕ, ◌+◌, zero, suc, List, [], ◌∷◌, ◌++◌, length, drop, Some, None, Result, Ok, Err, refl, sym, ap, ◌∙◌, subst, add-one, length-append}
use Rattle.std.specs.Prelude.{IfOk, slice_get}
use Rattle.tl_base.specs.declared.memory.NoMemory.{NoMemory}
use Rattle.tl_base.specs.declared.place.Settings.{Settings}
use Rattle.tl_schema.specs.declared.catalog.Catalog.{Catalog}
use Rattle.tl_manager.specs.State.{opening_copy}
use Rattle.tl_manager.specs.declared.request.ManagerRequest.TheVariants as manager
use Rattle.tl_isolation.specs.declared.bound.Bound.{Bound}
use Rattle.tl_isolation.specs.declared.entry.Answer.{Answer}
use Rattle.tl_isolation.specs.declared.entry.Said.{Said}
use Rattle.tl_protocol.specs.World.{Fresh}
use Rattle.tl_journal.specs.Ask.{AskManager}
use Rattle.tl_journal.specs.Asks.{Course, ToIdle, ToRecover, asks, asks_outside, course_outside}
use Rattle.tl_journal.specs.Bytes.{home_of}
use Rattle.tl_journal.specs.Node.{Doing, Outside, Node}
use Rattle.tl_ask.specs.Asked.{asked}
use Rattle.tl_txn.specs.Doing.{doing_of}
use Rattle.tl_txn.specs.declared.phase.Phase.{Phase}
use Rattle.tl_node.specs.Fits.{FitsAll, FitsTodo, IsFirst, IsFit, IsOpening}
use Rattle.tl_node.specs.Leaves.{LeavesSo}
use Rattle.tl_node.specs.Seen.{seen}
use Rattle.tl_node.specs.View.{StandsFor, asked_by, doing_so, node_at, node_so, outside_asks, value_of}
use Rattle.tl_node.specs.declared.kept.Core.{Core}
use Rattle.tl_node.specs.declared.work.Outside.{Outside as TheOutside}
use Rattle.tl_node.specs.declared.work.Outside.TheVariants as outside
use Rattle.tl_node.specs.declared.work.Work.TheVariants as work

-- the node with these statements left, doing this
abbrev pub node_with : Core → List Bound → Doing → Node
node_with core todo doing =
    record {
      number = core.number;
      todo = todo;
      answers = core.answers.items;
      floors = core.floors;
      asked_others = core.asked_others;
      doing = doing;
    }

pub same_node : (a b : Node) → a.number ≡ b.number → a.todo ≡ b.todo → a.answers ≡ b.answers → a.floors ≡ b.floors
    → a.asked_others ≡ b.asked_others → a.doing ≡ b.doing → a ≡ b
same_node a b e f g h i j =
    ap (λ x. record { number = x; todo = a.todo; answers = a.answers; floors = a.floors; asked_others = a.asked_others; doing = a.doing }) e
    ∙ ap (λ x. record { number = b.number; todo = x; answers = a.answers; floors = a.floors; asked_others = a.asked_others; doing = a.doing }) f
    ∙ ap (λ x. record { number = b.number; todo = b.todo; answers = x; floors = a.floors; asked_others = a.asked_others; doing = a.doing }) g
    ∙ ap (λ x. record { number = b.number; todo = b.todo; answers = b.answers; floors = x; asked_others = a.asked_others; doing = a.doing }) h
    ∙ ap (λ x. record { number = b.number; todo = b.todo; answers = b.answers; floors = b.floors; asked_others = x; doing = a.doing }) i
    ∙ ap (λ x. record { number = b.number; todo = b.todo; answers = b.answers; floors = b.floors; asked_others = b.asked_others; doing = x }) j

-- ---- what is left of a list

module _ {A : Type 0} where
  drop_suc : (n : ℕ) (xs : List A) (x : A) (left : List A) → drop n xs ≡ x ∷ left → drop (suc n) xs ≡ left
  drop_suc zero [] x left e = cc
  drop_suc zero (y ∷ ys) x left e = cc
  drop_suc (suc n) [] x left e = cc
  drop_suc (suc n) (y ∷ ys) x left e = drop_suc n ys x left e

  pub drop_next : (n : ℕ) (xs : List A) (x : A) (left : List A) → drop n xs ≡ x ∷ left → drop (n + 1) xs ≡ left
  drop_next n xs x left e = ap (λ m. drop m xs) (add-one n) ∙ drop_suc n xs x left e

  pub drop_after : (done : List A) (x : A) → length (done ++ x ∷ []) ≡ length done + 1
  drop_after done x = length-append done (x ∷ [])

  pub none_left : (n : ℕ) (xs : List A) → slice_get xs n ≡ None → drop n xs ≡ []
  none_left zero [] e = refl
  none_left (suc n) [] e = refl
  none_left zero (x ∷ xs) e = cc
  none_left (suc n) (x ∷ xs) e = none_left n xs e

  pub some_left : (n : ℕ) (xs : List A) (x : A) → slice_get xs n ≡ Some x → drop n xs ≡ x ∷ drop (suc n) xs
  some_left zero [] x e = cc
  some_left zero (y ∷ ys) x e = let f : y ≡ x = cc in ap (λ (z : A). z ∷ ys) f
  some_left (suc n) [] x e = cc
  some_left (suc n) (y ∷ ys) x e = some_left n ys x e

pub if_ok : {A : Type 0} (result : Result A NoMemory) (P Q : A → Type 0) → ((x : A) → P x → Q x) → IfOk result P → IfOk result Q
if_ok (Ok x) P Q h p = h x p
if_ok (Err e) P Q h p = tt

-- ---- a statement begins

asks_alike : (settings : Settings) (n m : Node) (statement : Bound) (course : Course) → n.number ≡ m.number
    → asks_outside settings n statement course ≡ asks_outside settings m statement course
asks_alike settings n m statement (ToRecover gone) e = refl
asks_alike settings n m statement ToIdle e = ap (λ number. AskManager (home_of settings number) (manager.Floor opening_copy)) e
asks_alike settings n m statement course e = refl

-- of two nodes outside a transaction with one number and the same statements
pub asked_alike : (settings : Settings) (catalog : Catalog) (n m : Node) → n.number ≡ m.number → n.todo ≡ m.todo → n.doing ≡ Outside → m.doing ≡ Outside
    → asked_by settings (asks settings catalog n) ≡ asked_by settings (asks settings catalog m)
asked_alike settings catalog n m e f g h = by n.todo m.todo f n.doing m.doing g h
  where
    by : (a b : List Bound) → a ≡ b → (x y : Doing) → x ≡ Outside → y ≡ Outside
        → asked_by settings (asks settings catalog (record n { todo = a; doing = x })) ≡ asked_by settings (asks settings catalog (record m { todo = b; doing = y }))
    by a b f x y g h =
        ap (λ d. asked_by settings (asks settings catalog (record n { todo = a; doing = d }))) g
        ∙ ap (λ t. asked_by settings (asks settings catalog (record n { todo = t; doing = Outside }))) f
        ∙ at b
        ∙ ap (λ d. asked_by settings (asks settings catalog (record m { todo = b; doing = d }))) (sym h)
      where
        at : (b : List Bound) → asked_by settings (asks settings catalog (record n { todo = b; doing = Outside }))
            ≡ asked_by settings (asks settings catalog (record m { todo = b; doing = Outside }))
        at [] = refl
        at (statement ∷ later) = ap (λ a. Some (asked settings a))
            (asks_alike settings (record n { todo = statement ∷ later; doing = Outside }) (record m { todo = statement ∷ later; doing = Outside })
            statement (course_outside statement) e)

pub done_opening : (core : Core) (at : ℕ) → drop at core.statements ≡ [] → IsOpening core at outside.Done
done_opening core at e = record {
  fits = subst (λ todo. FitsTodo core todo outside.Done) (sym e) refl;
  ask = subst (λ todo. outside_asks outside.Done ≡ asked_by core.layout (asks core.layout core.catalog (record (node_so core Outside) { todo = todo }))) (sym e) refl;
}

pub first_opening : (core : Core) (at : ℕ) (statement : Bound) (later : List Bound) (o : TheOutside) → drop at core.statements ≡ statement ∷ later
    → IsFirst core statement o → IsOpening core at o
first_opening core at statement later o e first = record {
  fits = subst (λ todo. FitsTodo core todo o) (sym e) first.fits;
  ask = subst (λ todo. outside_asks o ≡ asked_by core.layout (asks core.layout core.catalog (record (node_so core Outside) { todo = todo }))) (sym e)
      (first.ask ∙ ap (λ a. Some (asked core.layout a))
      (asks_alike core.layout (node_so core Outside) (record (node_so core Outside) { todo = statement ∷ later }) statement (course_outside statement) refl));
}

-- ---- the parts of the node once a statement is answered

pub fits_todo : (a b : Core) (todo : List Bound) (o : TheOutside) → b.layout ≡ a.layout → b.number ≡ a.number → FitsTodo a todo o → FitsTodo b todo o
fits_todo a b [] o e f h = h
fits_todo a b (statement ∷ later) outside.Done e f h = h
fits_todo a b (statement ∷ later) (outside.Begins txn) e f h =
    (h.0, record { layout = h.1.layout ∙ sym e; node = h.1.node ∙ sym f }, h.2)
fits_todo a b (statement ∷ later) (outside.Idles x) e f h = h
fits_todo a b (statement ∷ later) (outside.Claims gone x) e f h = h

pub fits_outside : (core : Core) (todo : List Bound) (o : TheOutside) → FitsTodo core todo o → FitsAll core todo (work.Outside o)
fits_outside core [] o h = h
fits_outside core (statement ∷ later) o h = h

pub todo_outside : (core : Core) (todo : List Bound) (o : TheOutside) → FitsAll core todo (work.Outside o) → FitsTodo core todo o
todo_outside core [] o h = h
todo_outside core (statement ∷ later) o h = h

pub outside_doing : (core : Core) (todo : List Bound) (o : TheOutside) → FitsTodo core todo o → doing_so todo (work.Outside o) ≡ Outside
outside_doing core [] o h = refl
outside_doing core (statement ∷ later) outside.Done h = refl
outside_doing core (statement ∷ later) (outside.Begins txn) h = ap (λ (p : Phase). doing_of Fresh p) h.2
outside_doing core (statement ∷ later) (outside.Idles x) h = refl
outside_doing core (statement ∷ later) (outside.Claims gone x) h = refl

pub seen_outside : (settings : Settings) (catalog : Catalog) (core : Core) (todo : List Bound) (answers : List Answer)
    → seen settings catalog (record (node_with core todo Outside) { answers = answers }) ≡ record (node_with core todo Outside) { answers = answers }
seen_outside settings catalog core [] answers = refl
seen_outside settings catalog core (statement ∷ later) answers = refl

-- the node goes on outside a transaction, with this answer behind the others
abbrev pub node_left : Core → List Bound → Answer → Node
node_left core later told = record (node_with core later Outside) { answers = core.answers.items ++ told ∷ [] }

module _ (mid new : Core) (statement : Bound) (later : List Bound) (told : Answer) (o : TheOutside) (said : Said)
    (todo_is : drop (length mid.answers.items) mid.statements ≡ statement ∷ later) (left : LeavesSo mid told new o said) where
  behind : drop (length mid.answers.items + 1) mid.statements ≡ later
  behind = drop_next (length mid.answers.items) mid.statements statement later todo_is

  pub left_todo : drop (length new.answers.items) new.statements ≡ later
  left_todo = ap (λ done. drop (length done) new.statements) left.answers
      ∙ ap (λ all. drop (length (mid.answers.items ++ told ∷ [])) all) (ap (λ (c : Core). c.statements) left.rest)
      ∙ ap (λ n. drop n mid.statements) (drop_after mid.answers.items told) ∙ behind

  next_fits : FitsTodo mid later o
  next_fits = subst (λ todo. FitsTodo mid todo o) behind left.following.fits

  pub left_fits : IsFit new (work.Outside o)
  left_fits = subst (λ todo. FitsAll new todo (work.Outside o)) (sym left_todo)
      (fits_outside new later o (fits_todo mid new later o (ap (λ (c : Core). c.layout) left.rest) (ap (λ (c : Core). c.number) left.rest) next_fits))

  pub left_stands : StandsFor mid.layout mid.catalog (node_left mid later told) (value_of new (work.Outside o))
  left_stands = record {
    settings_are = ap (λ (c : Core). c.layout) left.rest;
    catalog_is = ap (λ (c : Core). c.catalog) left.rest;
    node_is = same_node (node_at new (work.Outside o)) (node_left mid later told) (ap (λ (c : Core). c.number) left.rest) left_todo left.answers
        (ap (λ (c : Core). c.floors) left.rest) (ap (λ (c : Core). c.asked_others) left.rest)
        (ap (λ todo. doing_so todo (work.Outside o)) left_todo ∙ outside_doing mid later o next_fits)
        ∙ sym (seen_outside mid.layout mid.catalog mid later (mid.answers.items ++ told ∷ []));
    ask_is = left.following.ask
        ∙ asked_alike mid.layout mid.catalog (record (node_so mid Outside) { todo = drop (length mid.answers.items + 1) mid.statements })
        (node_left mid later told) refl behind refl refl;
  }
