-- What a reply says to a transaction, by what it awaits.
use Rattle.std.specs.Prelude.{Bool, true, false, Option, Some, None, slice_get}
use Rattle.tl_manager.specs.declared.request.Reply.{Reply}
use Rattle.tl_write.specs.declared.write.Write.{Write}
use Rattle.tl_schema.specs.declared.catalog.Catalog.{Catalog}
use Rattle.tl_journal.specs.Ask.{Heard, Strange}
use Rattle.tl_ask.specs.Hears.{hears_begin, hears_commits, hears_manager, hears_numbers, hears_page, hears_record, hears_store}
use Rattle.tl_txn.specs.Taken.{removal_at}
use Rattle.tl_txn.specs.declared.phase.Phase.{Phase}
use Rattle.tl_txn.specs.declared.phase.Phase.TheVariants as phase
use Rattle.tl_txn.specs.declared.phase.Read.{Read}
use Rattle.tl_txn.specs.declared.phase.Read.TheVariants as read

abbrev pub hears_reading : Catalog → Read → Reply → Heard
hears_reading catalog (read.Point key) reply = hears_record catalog key reply
hears_reading catalog (read.Range page) reply = hears_page catalog page.from page.before reply

-- the own record in hand is to be loaded; else it, or the log cell, was stored
abbrev pub hears_own : Catalog → Bool → Option Write → Reply → Heard
hears_own catalog false None reply = hears_store reply
hears_own catalog false (Some own) reply = hears_record catalog own.key reply
hears_own catalog true own reply = hears_store reply

abbrev pub hears_closing : Bool → Reply → Heard
hears_closing false reply = hears_commits reply
hears_closing true reply = hears_store reply

abbrev pub hears : Catalog → Phase → Reply → Heard
hears catalog phase.Asking reply = hears_commits reply
hears catalog (phase.Noted seen) reply = hears_begin seen reply
hears catalog (phase.Drawing seen) reply = hears_numbers reply
hears catalog (phase.Bringing seen low) reply = hears_manager reply
hears catalog (phase.Ready live) reply = Strange
hears catalog (phase.Reading live r) reply = hears_reading catalog r reply
hears catalog (phase.TryingNothing live) reply = hears_commits reply
hears catalog (phase.Trying a) reply = hears_store reply
hears catalog (phase.Storing s) reply = hears_own catalog s.loaded (slice_get s.attempt.own s.stored) reply
hears catalog (phase.Removing r) reply = hears_own catalog r.loaded (removal_at r) reply
hears catalog (phase.GivingUp live) reply = hears_commits reply
hears catalog (phase.Closing tid decision loaded) reply = hears_closing loaded reply
hears catalog (phase.Ending tid decision) reply = hears_manager reply
hears catalog phase.Over reply = Strange
hears catalog phase.Stopped reply = Strange
