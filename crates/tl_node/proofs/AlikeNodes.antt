-- A node of the law and what code sees of it: they hear, do, mean and tell the same.
use Rattle.std.proofs.Common.{◌≡◌, Bool, true, false, refl, sym, ap, ◌∙◌, subst}
use Rattle.std.specs.Prelude.{nat_le, if◌then◌else◌}
use Rattle.tl_base.specs.declared.place.Settings.{Settings}
use Rattle.tl_schema.specs.declared.catalog.Catalog.{Catalog}
use Rattle.tl_logrec.specs.declared.entry.Flag.TheVariants as flag
use Rattle.tl_manager.specs.declared.request.ManagerRequest.TheVariants as manager
use Rattle.tl_manager.specs.declared.request.Reply.{Reply}
use Rattle.tl_isolation.specs.declared.bound.Bound.{Bound}
use Rattle.tl_isolation.specs.declared.entry.Answer.{Answer}
use Rattle.tl_protocol.specs.Move.{is_empty}
use Rattle.tl_protocol.specs.Next.{log_cell}
use Rattle.tl_protocol.specs.World.{Txn}
use Rattle.tl_journal.specs.Ask.{LoadCommits, AskManager, Heard}
use Rattle.tl_journal.specs.Asks.{Course, ToRead, ToCommit, asks_doing, asks_finish, asks_inside, asks_read, asks_removing, asks_storing, asks_stripping, course_in, other_manager, store_trying}
use Rattle.tl_ask.specs.Given.{shown_heard}
use Rattle.tl_journal.specs.Node.{Doing, Inside, Reading, Trying, Stores, Removes, Closing, Stripping, Finishing, Node}
use Rattle.tl_journal.specs.Reads.{Reads}
use Rattle.tl_journal.specs.Takes.{takes_commit, takes_doing, takes_inside, with_doing}
use Rattle.tl_ask.specs.Thin.{thin, thin_commits, thin_loaded}
use Rattle.tl_node.specs.After.{heard_by}
use Rattle.tl_node.specs.Seen.{settled, settled_by}
use Rattle.tl_node.proofs.Alike.{AreAlike, closes_alike, finish_kind, finishes_same, reads_same, removes_same, removing_kind, same_alike, same_kind, settled_elim, stores_same, storing_kind, stripping_kind, strips_same, tries_same}

module _ (settings : Settings) (catalog : Catalog) (n : Node) (statement : Bound) where
  -- ---- what it hears

  inside_hears : (t : Txn) (course : Course) (p : Reply) → course_in catalog t.stage statement ≡ course
      → heard_by catalog (asks_doing settings catalog n statement (thin (settled_by settings t course))) p ≡ shown_heard catalog (asks_inside settings n t course) p
  inside_hears t course p e =
      settled_elim (λ d. heard_by catalog (asks_doing settings catalog n statement (thin d)) p ≡ shown_heard catalog (asks_inside settings n t course) p) settings t course
      (ap (λ c. shown_heard catalog (asks_inside settings n t c) p) e)
      (λ reads f. ap (λ c. shown_heard catalog (asks_inside settings n t c) p) (sym f))
      (λ f empty one. sym (to_try t (is_empty t.own) (nat_le settings.managers 1) empty one p) ∙ ap (λ c. shown_heard catalog (asks_inside settings n t c) p) (sym f))
    where
      to_try : (t : Txn) (empty one : Bool) → empty ≡ false → one ≡ true → (p : Reply)
          → shown_heard catalog (if empty then LoadCommits else (if one then store_trying n t else AskManager (other_manager settings n) (manager.Floor t.snapshot))) p ≡ shown_heard catalog (store_trying n t) p
      to_try t false true e f p = refl
      to_try t true one e f p = cc
      to_try t false false e f p = cc

  pub doing_hears : (d : Doing) (p : Reply)
      → heard_by catalog (asks_doing settings catalog n statement (thin (settled settings catalog statement d))) p ≡ heard_by catalog (asks_doing settings catalog n statement d) p
  doing_hears (Inside t) p = inside_hears t (course_in catalog t.stage statement) p refl
  doing_hears (Stores s l) p = same_kind catalog (asks_storing n s (thin_loaded l)) (asks_storing n s l) p (storing_kind n s l)
  doing_hears (Removes r l) p = same_kind catalog (asks_removing n r (thin_loaded l)) (asks_removing n r l) p (removing_kind n r l)
  doing_hears (Closing t d c) p = same_kind catalog (asks_finish t.tid (thin_commits c)) (asks_finish t.tid c) p (finish_kind t.tid c)
  doing_hears (Stripping c o log keys l) p = same_kind catalog (asks_stripping o log keys (thin_loaded l)) (asks_stripping o log keys l) p (stripping_kind o log keys l)
  doing_hears (Finishing c o committed x) p = same_kind catalog (asks_finish o.tid (thin_commits x)) (asks_finish o.tid x) p (finish_kind o.tid x)
  doing_hears d p = refl

  -- ---- what it does

  inside_alike : (t : Txn) (course : Course) (p : Reply) (told : Answer) → course_in catalog t.stage statement ≡ course
      → AreAlike settings catalog
      (takes_doing settings catalog (with_doing n (thin (settled_by settings t course))) statement (thin (settled_by settings t course)) (shown_heard catalog (asks_inside settings n t course) p) told)
      (takes_inside settings catalog (with_doing n (Inside t)) statement t course (shown_heard catalog (asks_inside settings n t course) p) told)
  inside_alike t course p told e =
      settled_elim
      (λ d. AreAlike settings catalog (takes_doing settings catalog (with_doing n (thin d)) statement (thin d) (shown_heard catalog (asks_inside settings n t course) p) told)
      (takes_inside settings catalog (with_doing n (Inside t)) statement t course (shown_heard catalog (asks_inside settings n t course) p) told))
      settings t course
      (same_alike settings catalog
      (takes_inside settings catalog (with_doing n (Inside t)) statement t (course_in catalog t.stage statement) (shown_heard catalog (asks_inside settings n t course) p) told)
      (takes_inside settings catalog (with_doing n (Inside t)) statement t course (shown_heard catalog (asks_inside settings n t course) p) told)
      (ap (λ c. takes_inside settings catalog (with_doing n (Inside t)) statement t c (shown_heard catalog (asks_inside settings n t course) p) told) e))
      (λ reads f. reading t course reads (shown_heard catalog (asks_inside settings n t course) p) f)
      (λ f empty one. trying t course (shown_heard catalog (asks_inside settings n t course) p) f
      (ap (λ c. shown_heard catalog (asks_inside settings n t c) p) f ∙ to_try t (is_empty t.own) (nat_le settings.managers 1) empty one p))
    where
      to_try : (t : Txn) (empty one : Bool) → empty ≡ false → one ≡ true → (p : Reply)
          → shown_heard catalog (if empty then LoadCommits else (if one then store_trying n t else AskManager (other_manager settings n) (manager.Floor t.snapshot))) p ≡ shown_heard catalog (store_trying n t) p
      to_try t false true e f p = refl
      to_try t true one e f p = cc
      to_try t false false e f p = cc

      reading : (t : Txn) (course : Course) (reads : Reads) (h : Heard) → course ≡ ToRead reads
          → AreAlike settings catalog (takes_doing settings catalog (with_doing n (thin (Reading t reads))) statement (thin (Reading t reads)) h told)
          (takes_inside settings catalog (with_doing n (Inside t)) statement t course h told)
      reading t course reads h f =
          subst
          (λ c. AreAlike settings catalog (takes_doing settings catalog (with_doing n (thin (Reading t reads))) statement (thin (Reading t reads)) h told)
          (takes_inside settings catalog (with_doing n (Inside t)) statement t c h told))
          (sym f)
          (same_alike settings catalog (takes_doing settings catalog (with_doing n (thin (Reading t reads))) statement (thin (Reading t reads)) h told)
          (takes_inside settings catalog (with_doing n (Inside t)) statement t (ToRead reads) h told)
          (reads_same settings catalog n (thin (Reading t reads)) (Inside t) statement t reads h told refl))

      trying : (t : Txn) (course : Course) (h : Heard) → course ≡ ToCommit → h ≡ shown_heard catalog (store_trying n t) p
          → AreAlike settings catalog (takes_doing settings catalog (with_doing n (Trying t)) statement (Trying t) h told)
          (takes_inside settings catalog (with_doing n (Inside t)) statement t course h told)
      trying t course h f g =
          subst
          (λ c. AreAlike settings catalog (takes_doing settings catalog (with_doing n (Trying t)) statement (Trying t) h told)
          (takes_inside settings catalog (with_doing n (Inside t)) statement t c h told))
          (sym f)
          (subst
          (λ x. AreAlike settings catalog (takes_doing settings catalog (with_doing n (Trying t)) statement (Trying t) x told)
          (takes_inside settings catalog (with_doing n (Inside t)) statement t ToCommit x told))
          (sym g)
          (same_alike settings catalog (takes_doing settings catalog (with_doing n (Trying t)) statement (Trying t) (shown_heard catalog (store_trying n t) p) told)
          (takes_commit settings (with_doing n (Inside t)) t (shown_heard catalog (store_trying n t) p))
          (tries_same settings n t (log_cell 0 n.number flag.Trying t).entry p)))

  pub doing_alike : (d : Doing) (p : Reply) (told : Answer)
      → AreAlike settings catalog
      (takes_doing settings catalog (with_doing n (thin (settled settings catalog statement d))) statement (thin (settled settings catalog statement d)) (heard_by catalog (asks_doing settings catalog n statement d) p) told)
      (takes_doing settings catalog (with_doing n d) statement d (heard_by catalog (asks_doing settings catalog n statement d) p) told)
  doing_alike (Inside t) p told = inside_alike t (course_in catalog t.stage statement) p told refl
  doing_alike (Reading t reads) p told =
      same_alike settings catalog
      (takes_doing settings catalog (with_doing n (thin (Reading t reads))) statement (thin (Reading t reads)) (shown_heard catalog (asks_read reads.left) p) told)
      (takes_doing settings catalog (with_doing n (Reading t reads)) statement (Reading t reads) (shown_heard catalog (asks_read reads.left) p) told)
      (reads_same settings catalog n (thin (Reading t reads)) (Reading t reads) statement t reads (shown_heard catalog (asks_read reads.left) p) told refl)
  doing_alike (Stores s l) p told = same_alike settings catalog
      (takes_doing settings catalog (with_doing n (Stores s (thin_loaded l))) statement (Stores s (thin_loaded l)) (shown_heard catalog (asks_storing n s l) p) told)
      (takes_doing settings catalog (with_doing n (Stores s l)) statement (Stores s l) (shown_heard catalog (asks_storing n s l) p) told)
      (stores_same n s l s.left (shown_heard catalog (asks_storing n s l) p))
  doing_alike (Removes r l) p told = same_alike settings catalog
      (takes_doing settings catalog (with_doing n (Removes r (thin_loaded l))) statement (Removes r (thin_loaded l)) (shown_heard catalog (asks_removing n r l) p) told)
      (takes_doing settings catalog (with_doing n (Removes r l)) statement (Removes r l) (shown_heard catalog (asks_removing n r l) p) told)
      (removes_same n r l r.left (shown_heard catalog (asks_removing n r l) p))
  doing_alike (Closing t d c) p told = closes_alike settings catalog n t d c (shown_heard catalog (asks_finish t.tid c) p)
  doing_alike (Stripping c o log keys l) p told = same_alike settings catalog
      (takes_doing settings catalog (with_doing n (Stripping c o log keys (thin_loaded l))) statement (Stripping c o log keys (thin_loaded l)) (shown_heard catalog (asks_stripping o log keys l) p) told)
      (takes_doing settings catalog (with_doing n (Stripping c o log keys l)) statement (Stripping c o log keys l) (shown_heard catalog (asks_stripping o log keys l) p) told)
      (strips_same n c o log keys l (shown_heard catalog (asks_stripping o log keys l) p))
  doing_alike (Finishing c o committed x) p told = same_alike settings catalog
      (takes_doing settings catalog (with_doing n (Finishing c o committed (thin_commits x))) statement (Finishing c o committed (thin_commits x)) (shown_heard catalog (asks_finish o.tid x) p) told)
      (takes_doing settings catalog (with_doing n (Finishing c o committed x)) statement (Finishing c o committed x) (shown_heard catalog (asks_finish o.tid x) p) told)
      (finishes_same n c o committed x (shown_heard catalog (asks_finish o.tid x) p))
  doing_alike d p told = same_alike settings catalog
      (takes_doing settings catalog (with_doing n d) statement d (heard_by catalog (asks_doing settings catalog n statement d) p) told)
      (takes_doing settings catalog (with_doing n d) statement d (heard_by catalog (asks_doing settings catalog n statement d) p) told) refl
