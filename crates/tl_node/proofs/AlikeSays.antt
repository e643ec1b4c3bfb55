-- What a node tells at a reply, and whether the reply is strange, as the law has it and as code sees it.
use Rattle.std.proofs.Common.{◌≡◌, Bool, false, List, Option, Some, None, refl, sym, ap, subst}
use Rattle.tl_base.specs.declared.place.Settings.{Settings}
use Rattle.tl_schema.specs.declared.catalog.Catalog.{Catalog}
use Rattle.tl_isolation.specs.declared.bound.Bound.{Bound}
use Rattle.tl_isolation.specs.declared.entry.Answer.{Answer}
use Rattle.tl_isolation.specs.declared.state.Commit.{Commit as Committed}
use Rattle.tl_protocol.specs.Store.{CommitsCell}
use Rattle.tl_protocol.specs.World.{Txn, Loaded, Decision}
use Rattle.tl_write.specs.declared.write.Write.{Write}
use Rattle.tl_journal.specs.Ask.{Heard, Commits, Stored}
use Rattle.tl_journal.specs.Asks.{Course, course_in}
use Rattle.tl_journal.specs.Memory.{is_ending}
use Rattle.tl_journal.specs.Node.{Storing, Lost, Doing, Inside, Reading, Stores, Closing, Finishing, Node, owed_by}
use Rattle.tl_journal.specs.Says.{says_closing, says_doing, says_finishing, says_inside, says_storing}
use Rattle.tl_journal.specs.Strange.{is_odd_for}
use Rattle.tl_journal.specs.Takes.{MeansDoing, MeansInside}
use Rattle.tl_ask.specs.Thin.{bare, thin, thin_commits, thin_loaded}
use Rattle.tl_node.specs.Seen.{settled, settled_by}
use Rattle.tl_node.proofs.Alike.{settled_elim}

storing_says : (s : Storing) (l : Option Loaded) (left : List Write) (h : Heard) → says_storing s (thin_loaded l) left h ≡ says_storing s l left h
storing_says s None left h = refl
storing_says s (Some l) left h = refl

closing_says : (t : Txn) (d : Decision) (c : Option CommitsCell) (h : Heard) → says_closing (bare t) d (thin_commits c) h ≡ says_closing t d c h
closing_says t d None h = refl
closing_says t d (Some c) (Stored stamp) = refl
closing_says t d (Some c) h = refl

finishing_says : (o : Lost) (committed : Bool) (x : Option CommitsCell) (h : Heard) → says_finishing o committed (thin_commits x) h ≡ says_finishing o committed x h
finishing_says o committed None h = refl
finishing_says o committed (Some x) (Stored stamp) = refl
finishing_says o committed (Some x) h = refl

module _ (settings : Settings) (catalog : Catalog) (statement : Bound) (h : Heard) where
  -- ---- what it tells

  inside_says : (commits : List Committed) (n : Node) (t : Txn) (course : Course) (told : Answer) → course_in catalog t.stage statement ≡ course
      → says_doing settings catalog commits n statement (thin (settled_by settings t course)) h told ≡ says_inside settings n statement t course h told
  inside_says commits n t course told e =
      settled_elim (λ d. says_doing settings catalog commits n statement (thin d) h told ≡ says_inside settings n statement t course h told) settings t course
      (ap (λ c. says_inside settings n statement t c h told) e)
      (λ reads f. ap (λ c. says_inside settings n statement t c h told) (sym f))
      (λ f empty one. ap (λ c. says_inside settings n statement t c h told) (sym f))

  pub doing_says : (commits : List Committed) (n : Node) (d : Doing) (told : Answer)
      → says_doing settings catalog commits n statement (thin (settled settings catalog statement d)) h told ≡ says_doing settings catalog commits n statement d h told
  doing_says commits n (Inside t) told = inside_says commits n t (course_in catalog t.stage statement) told refl
  doing_says commits n (Stores s l) told = storing_says s l s.left h
  doing_says commits n (Closing t d c) told = closing_says t d c h
  doing_says commits n (Finishing c o committed x) told = finishing_says o committed x h
  doing_says commits n d told = refl

  -- ---- what it may mean

  inside_means : (t : Txn) (course : Course) (told : Answer) → course_in catalog t.stage statement ≡ course
      → MeansDoing settings catalog statement (thin (settled_by settings t course)) h told → MeansInside settings catalog statement t course h told
  inside_means t course told e =
      settled_elim (λ d. MeansDoing settings catalog statement (thin d) h told → MeansInside settings catalog statement t course h told) settings t course
      (λ m. subst (λ c. MeansInside settings catalog statement t c h told) e m)
      (λ reads f m. subst (λ c. MeansInside settings catalog statement t c h told) (sym f) m)
      (λ f empty one m. subst (λ c. MeansInside settings catalog statement t c h told) (sym f) tt)

  pub doing_means : (d : Doing) (told : Answer) → MeansDoing settings catalog statement (thin (settled settings catalog statement d)) h told
      → MeansDoing settings catalog statement d h told
  doing_means (Inside t) told m = inside_means t (course_in catalog t.stage statement) told refl m
  doing_means d told m = m

  -- ---- whether the reply is strange

  inside_odd : (t : Txn) (course : Course) → is_odd_for (Inside t) h ≡ false → is_odd_for (thin (settled_by settings t course)) h ≡ false
  inside_odd t course e =
      settled_elim (λ d. is_odd_for (thin d) h ≡ false) settings t course e (λ reads f. refl) (λ f empty one. refl)

  storing_odd : (s : Storing) (l : Option Loaded) (h : Heard) → is_odd_for (Stores s l) h ≡ false → is_odd_for (Stores s (thin_loaded l)) h ≡ false
  storing_odd s None h e = e
  storing_odd s (Some l) h e = refl

  closing_odd : (t : Txn) (d : Decision) (c : Option CommitsCell) (h : Heard) → is_odd_for (Closing t d c) h ≡ false
      → is_odd_for (Closing (bare t) d (thin_commits c)) h ≡ false
  closing_odd t d None (Commits c) e = e
  closing_odd t d None h e = refl
  closing_odd t d (Some c) h e = refl

  pub doing_odd : (d : Doing) → is_odd_for d h ≡ false → is_odd_for (thin (settled settings catalog statement d)) h ≡ false
  doing_odd (Inside t) e = inside_odd t (course_in catalog t.stage statement) e
  doing_odd (Reading t reads) e = refl
  doing_odd (Stores s l) e = storing_odd s l h e
  doing_odd (Closing t d c) e = closing_odd t d c h e
  doing_odd d e = e

-- ---- whether it is to end, and whom it is to recover

pub doing_ending : (settings : Settings) (catalog : Catalog) (statement : Bound) (d : Doing)
    → is_ending (thin (settled settings catalog statement d)) ≡ is_ending d
doing_ending settings catalog statement (Inside t) =
    settled_elim (λ d. is_ending (thin d) ≡ false) settings t (course_in catalog t.stage statement) refl (λ reads f. refl) (λ f empty one. refl)
doing_ending settings catalog statement d = refl

pub doing_owed : (settings : Settings) (catalog : Catalog) (statement : Bound) (d : Doing)
    → owed_by (thin (settled settings catalog statement d)) ≡ owed_by d
doing_owed settings catalog statement (Inside t) =
    settled_elim (λ d. owed_by (thin d) ≡ owed_by (Inside t)) settings t (course_in catalog t.stage statement) refl (λ reads f. refl) (λ f empty one. refl)
doing_owed settings catalog statement d = refl
