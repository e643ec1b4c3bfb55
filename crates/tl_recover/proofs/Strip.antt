-- A place of the log cell where no record is named.
use Rattle.std.proofs.Common.{◌≡◌, ℕ, List, false, Option, Some, None, subst}
use Rattle.std.specs.Prelude.{Result, IfOk}
use Rattle.tl_ask.specs.Asked.{asked}
use Rattle.tl_ask.specs.Hears.{hears_store}
use Rattle.tl_ask.specs.declared.asked.Asked.{Asked}
use Rattle.tl_base.specs.declared.memory.NoMemory.{NoMemory}
use Rattle.tl_base.specs.declared.place.Settings.{Settings}
use Rattle.tl_schema.specs.declared.catalog.Catalog.{Catalog}
use Rattle.tl_logrec.specs.declared.entry.Flag.TheVariants as flag
use Rattle.tl_manager.specs.declared.request.Reply.{Reply}
use Rattle.tl_protocol.specs.Next.{marked}
use Rattle.tl_protocol.specs.Store.{LogCell}
use Rattle.tl_journal.specs.Ask.{StoreLog}
use Rattle.tl_recover.specs.declared.after.After.{After}
use Rattle.tl_recover.specs.declared.phase.Lost.{Lost}
use Rattle.tl_recover.specs.Heeds.{Gives, hears_strip}
use Rattle.tl_recover.specs.Taken.{ask_strip, takes_stripping}

pub marks : (layout : Settings) (log : LogCell) (key : Option (List ℕ)) (stamp : ℕ) (result : Result Asked NoMemory) → None ≡ key → stamp ≡ log.stamp
    → IfOk result (λ next. next ≡ asked layout (StoreLog stamp (marked 0 flag.Undone log).entry)) → IfOk result (λ next. next ≡ asked layout (ask_strip log key))
marks layout log None stamp result none e h = subst (λ (s : ℕ). IfOk result (λ next. next ≡ asked layout (StoreLog s (marked 0 flag.Undone log).entry))) e h
marks layout log (Some key) stamp result none e h = absurd cc

pub takes_mark : (catalog : Catalog) (layout : Settings) (lost : Lost) (log : LogCell) (at : ℕ) (key : Option (List ℕ)) (reply : Reply) (result : Result After NoMemory) → None ≡ key
    → Gives layout (takes_stripping lost log at false None (hears_store reply)) result → Gives layout (takes_stripping lost log at false key (hears_strip catalog false key reply)) result
takes_mark catalog layout lost log at None reply result e h = h
takes_mark catalog layout lost log at (Some key) reply result e h = absurd cc
