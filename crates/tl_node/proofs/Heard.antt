-- What is heard of a reply depends on the kind of the request, and on little more.
use Rattle.std.proofs.Common.{◌≡◌, ℕ, Bool, true, false, List, Some, refl, sym, ap, ◌∙◌, subst, arith}
use Rattle.std.specs.Prelude.{◌&&◌, ◌||◌, not, if◌then◌else◌}
use Rattle.tl_base.specs.declared.place.Settings.{Settings}
use Rattle.tl_base.specs.declared.store.StoreReply.TheVariants as answered
use Rattle.tl_schema.specs.declared.catalog.Catalog.{Catalog}
use Rattle.tl_descriptor.specs.Tids.{TidSet}
use Rattle.tl_logrec.specs.declared.entry.LogEntry.{LogEntry}
use Rattle.tl_manager.specs.declared.request.ManagerReply.{ManagerReply}
use Rattle.tl_manager.specs.declared.request.ManagerRequest.{ManagerRequest}
use Rattle.tl_manager.specs.declared.request.ManagerRequest.TheVariants as asked
use Rattle.tl_manager.specs.declared.request.Reply.{Reply}
use Rattle.tl_manager.specs.declared.request.Reply.TheVariants as reply
use Rattle.tl_versions.specs.declared.version.Version.{Version}
use Rattle.tl_protocol.specs.Store.{Key}
use Rattle.tl_journal.specs.Ask.{Ask, LoadCommits, StoreCommits, LoadLog, StoreLog, LoadRecord, StoreRecord, ReadPage, DrawNumbers, AskManager, Heard, Told, Strange}
use Rattle.tl_journal.specs.Asks.{asks}
use Rattle.tl_journal.specs.Bytes.{heard, store_heard, written}
use Rattle.tl_journal.specs.Node.{Node}
use Rattle.tl_journal.specs.Strange.{has_great, is_odd_for, is_outcome, is_strange, is_strange_to, may_answer, sound_heard, stops_at}
use Rattle.tl_journal.proofs.StrangeHeard.{heard_as_said, stops_at_strange}
use Rattle.tl_ask.specs.Given.{is_outcome_of, shown_heard}
use Rattle.tl_ask.specs.Hears.{hears_begin, hears_commits, hears_log, hears_manager, hears_numbers, hears_page, hears_record, hears_store, manager_shown}
use Rattle.tl_node.specs.Hears.{manager_says}

pub commits_shown : (catalog : Catalog) (told : Reply) → shown_heard catalog LoadCommits told ≡ hears_commits told
commits_shown catalog (reply.Store (answered.Cell stamp value)) = refl
commits_shown catalog (reply.Store r) = refl
commits_shown catalog (reply.Manager r) = refl

pub numbers_shown : (catalog : Catalog) (told : Reply) → shown_heard catalog DrawNumbers told ≡ hears_numbers told
numbers_shown catalog (reply.Store (answered.Count old)) = refl
numbers_shown catalog (reply.Store r) = refl
numbers_shown catalog (reply.Manager r) = refl

pub log_shown : (catalog : Catalog) (tid : ℕ) (told : Reply) → shown_heard catalog (LoadLog tid) told ≡ hears_log catalog told
log_shown catalog tid (reply.Store (answered.Cell stamp value)) = refl
log_shown catalog tid (reply.Store r) = refl
log_shown catalog tid (reply.Manager r) = refl

pub record_shown : (catalog : Catalog) (key : Key) (told : Reply) → shown_heard catalog (LoadRecord key) told ≡ hears_record catalog key told
record_shown catalog key told = refl

pub page_shown : (catalog : Catalog) (shard : ℕ) (from before : Key) (told : Reply) → shown_heard catalog (ReadPage shard from before) told ≡ hears_page catalog from before told
page_shown catalog shard from before (reply.Store (answered.Items list more)) = refl
page_shown catalog shard from before (reply.Store r) = refl
page_shown catalog shard from before (reply.Manager r) = refl

pub stored_commits : (catalog : Catalog) (stamp : ℕ) (set : TidSet) (told : Reply) → shown_heard catalog (StoreCommits stamp set) told ≡ hears_store told
stored_commits catalog stamp set (reply.Store r) = refl
stored_commits catalog stamp set (reply.Manager r) = refl

pub stored_log : (catalog : Catalog) (stamp : ℕ) (log : LogEntry) (told : Reply) → shown_heard catalog (StoreLog stamp log) told ≡ hears_store told
stored_log catalog stamp log (reply.Store r) = refl
stored_log catalog stamp log (reply.Manager r) = refl

pub stored_record : (catalog : Catalog) (key : Key) (stamp : ℕ) (versions : List Version) (told : Reply)
    → shown_heard catalog (StoreRecord key stamp versions) told ≡ hears_store told
stored_record catalog key stamp versions (reply.Store r) = refl
stored_record catalog key stamp versions (reply.Manager r) = refl

pub manager_alike : (catalog : Catalog) (number : ℕ) (request : ManagerRequest) (told : Reply) → shown_heard catalog (AskManager number request) told ≡ manager_shown request told
manager_alike catalog number (asked.Begin node seen) (reply.Store r) = refl
manager_alike catalog number (asked.Begin node seen) (reply.Manager r) = refl
manager_alike catalog number (asked.Range low high) (reply.Store r) = refl
manager_alike catalog number (asked.Range low high) (reply.Manager r) = refl
manager_alike catalog number (asked.End tid) (reply.Store r) = refl
manager_alike catalog number (asked.End tid) (reply.Manager r) = refl
manager_alike catalog number (asked.Orphans node) (reply.Store r) = refl
manager_alike catalog number (asked.Orphans node) (reply.Manager r) = refl
manager_alike catalog number (asked.Floor seen) (reply.Store r) = refl
manager_alike catalog number (asked.Floor seen) (reply.Manager r) = refl
manager_alike catalog number (asked.Post node also) (reply.Store r) = refl
manager_alike catalog number (asked.Post node also) (reply.Manager r) = refl
manager_alike catalog number (asked.Claim node) (reply.Store r) = refl
manager_alike catalog number (asked.Claim node) (reply.Manager r) = refl

-- ---- what a manager says

-- nothing is heard of its reply but what it says
abbrev pub IsOfManager : Heard → Type 0
IsOfManager (Told r) = Unit {0}
IsOfManager Strange = Unit {0}
IsOfManager heard = ⊥

where_so : (b : Bool) (r : ManagerReply) → IsOfManager (if b then Told r else Strange)
where_so true r = tt
where_so false r = tt

pub of_manager : (told : Reply) → IsOfManager (hears_manager told)
of_manager (reply.Store r) = tt
of_manager (reply.Manager r) = where_so (not (has_great r)) r

said_if : (b : Bool) (x r : ManagerReply) → (if b then Told x else Strange) ≡ Told r → Told x ≡ Told r
said_if true x r e = e
said_if false x r e = cc

-- a manager that is heard says so
pub begin_says : (seen : TidSet) (told : Reply) (r : ManagerReply) → hears_begin seen told ≡ Told r → manager_says told ≡ Told r
begin_says seen (reply.Store x) r e = cc
begin_says seen (reply.Manager x) r e = said_if (may_answer (asked.Begin 1 seen) x && not (has_great x)) x r e

-- ---- the stamp apart

both_true : (b : Bool) (x y : Heard) → (if b && true then x else y) ≡ (if b then x else y)
both_true true x y = refl
both_true false x y = refl

-- what is heard is what is shown where the stamp may be
pub sound_shown : (catalog : Catalog) (ask : Ask) (told : Reply)
    → sound_heard catalog ask told ≡ (if is_outcome_of (written ask) told then shown_heard catalog ask told else Strange)
sound_shown catalog LoadCommits told = refl
sound_shown catalog (StoreCommits stamp set) (reply.Store r) = both_true (is_outcome stamp r) (store_heard r) Strange
sound_shown catalog (StoreCommits stamp set) (reply.Manager r) = refl
sound_shown catalog (LoadLog tid) told = refl
sound_shown catalog (StoreLog stamp log) (reply.Store r) = both_true (is_outcome stamp r) (store_heard r) Strange
sound_shown catalog (StoreLog stamp log) (reply.Manager r) = refl
sound_shown catalog (LoadRecord key) told = refl
sound_shown catalog (StoreRecord key stamp versions) (reply.Store r) = both_true (is_outcome stamp r) (store_heard r) Strange
sound_shown catalog (StoreRecord key stamp versions) (reply.Manager r) = refl
sound_shown catalog (ReadPage shard from before) told = refl
sound_shown catalog DrawNumbers told = refl
sound_shown catalog (AskManager m request) told = refl

-- where it isn't strange to the node that asked, the stamp may be, and what is shown is all that the reply says
pub record IsShown (catalog : Catalog) (ask : Ask) (told : Reply) : Type 0 where
  pub given : is_outcome_of (written ask) told ≡ true
  pub shown : shown_heard catalog ask told ≡ heard ask told
  pub sound : sound_heard catalog ask told ≡ heard ask told

pub is_shown : (settings : Settings) (catalog : Catalog) (node : Node) (ask : Ask) (told : Reply) → asks settings catalog node ≡ Some ask
    → is_strange settings catalog node ask told ≡ false → IsShown catalog ask told
is_shown settings catalog node ask told asked sane = by (is_outcome_of (written ask) told) refl
  where
    as_said : sound_heard catalog ask told ≡ heard ask told
    as_said = heard_as_said settings catalog node ask told asked sane

    odd : (a b : Bool) → a ≡ true → (a || b) ≡ false → ⊥
    odd a b e f = grind arith

    by : (b : Bool) → is_outcome_of (written ask) told ≡ b → IsShown catalog ask told
    by true e = record {
      given = e;
      shown = sym (sound_shown catalog ask told ∙ ap (λ (x : Bool). if x then shown_heard catalog ask told else Strange) e) ∙ as_said;
      sound = as_said;
    }
    by false e =
        let is : sound_heard catalog ask told ≡ Strange = sound_shown catalog ask told ∙ ap (λ (x : Bool). if x then shown_heard catalog ask told else Strange) e in
        absurd (odd (stops_at settings catalog node Strange) (is_odd_for node.doing Strange) (stops_at_strange settings catalog node ask asked)
        (subst (λ (x : Heard). is_strange_to settings catalog node x ≡ false) is sane))
