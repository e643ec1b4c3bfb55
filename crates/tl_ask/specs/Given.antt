-- What is heard of a reply, but for the stamp that a store gives or finds, and that stamp by the bytes of the request.
use Rattle.std.specs.Prelude.{Bool, true}
use Rattle.tl_base.specs.declared.store.StoreRequest.TheVariants as store
use Rattle.tl_schema.specs.declared.catalog.Catalog.{Catalog}
use Rattle.tl_manager.specs.declared.request.Reply.{Reply}
use Rattle.tl_manager.specs.declared.request.Reply.TheVariants as reply
use Rattle.tl_manager.specs.declared.request.Request.{Request}
use Rattle.tl_manager.specs.declared.request.Request.TheVariants as request
use Rattle.tl_journal.specs.Ask.{Ask, StoreCommits, StoreLog, StoreRecord, Heard}
use Rattle.tl_journal.specs.Bytes.{heard}
use Rattle.tl_journal.specs.Strange.{is_outcome, sound_heard}

-- a store at the stamp of the request may come to this
abbrev pub is_outcome_of : Request → Reply → Bool
is_outcome_of (request.Store (store.StoreIf key stamp value)) (reply.Store told) = is_outcome stamp told
is_outcome_of asked told = true

-- what is heard of a reply whose stamp may be
abbrev pub shown_heard : Catalog → Ask → Reply → Heard
shown_heard catalog (StoreCommits stamp set) told = heard (StoreCommits stamp set) told
shown_heard catalog (StoreLog stamp entry) told = heard (StoreLog stamp entry) told
shown_heard catalog (StoreRecord key stamp versions) told = heard (StoreRecord key stamp versions) told
shown_heard catalog ask told = sound_heard catalog ask told
