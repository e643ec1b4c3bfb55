-- What stands of a call, for each way in which it ends.
use Rattle.std.proofs.Common.{◌≡◌, ℕ, List, [], Result, Ok, Err, IsOk, refl, sym, subst}
use Rattle.tl_base.specs.declared.place.Settings.{Settings}
use Rattle.tl_io.specs.Faults.{Rose}
use Rattle.tl_io.specs.Told.{append, GainsPart}
use Rattle.tl_isolation.specs.declared.script.Script.{Script}
use Rattle.tl_journal.specs.declared.event.Journal.{Journal}
use Rattle.tl_tell.specs.declared.ended.Ended.{Ended}
use Rattle.tl_tell.specs.declared.ended.Reason.{Reason}
use Rattle.tl_tell.specs.declared.ended.Reason.TheVariants as reason
use Rattle.tl_tell.specs.Input.{IsInput, Refuses}
use Rattle.tl_tell.specs.Promise.{AreWords, Ends, IsOneHistory, IsSilent, Keeps, Ran, text_of}
use Rattle.tl_tell.specs.Status.{status_of}
use Rattle.tl_tell.specs.Words.{words_of}

-- nothing happened in the run
abbrev pub no_journal : Journal
no_journal = record { events = [] }

pub kept_words : (words : List (List ℕ)) (ends : Ends) (place : ℕ) → words_of words ≡ Err place → (ended : Ended)
    → ended ≡ record { status = status_of (reason.Words place); reason = reason.Words place; journal = no_journal }
    → Keeps words ends ends ended.reason ended.journal
kept_words words ends place refused ended is =
    subst (λ (e : Ended). Keeps words ends ends e.reason e.journal) (sym is) (refused, refl, record { unwritten = refl; empty = refl })

module _ (words : List (List ℕ)) (before after : Ends) (settings : Settings) (words_are : words_of words ≡ Ok settings) where
  are_words : AreWords words
  are_words = subst (λ (r : Result Settings ℕ). IsOk r) (sym words_are) refl

  silent : after.held ≡ before.held → IsSilent before after no_journal
  silent unwritten = record { unwritten = unwritten; empty = refl }

  keeps_refused : (why : Reason) → Refuses before.left after.left before.read_faults after.read_faults why → after.held ≡ before.held
      → Keeps words before after why no_journal
  unfolding are_words silent
  keeps_refused reason.ReadFault refuses unwritten = (are_words, refuses, silent unwritten)
  keeps_refused reason.TooLong refuses unwritten = (are_words, refuses, silent unwritten)
  keeps_refused (reason.Script line kind) refuses unwritten = (are_words, refuses, silent unwritten)
  keeps_refused reason.NoMemory refuses unwritten = (are_words, silent unwritten)
  keeps_refused reason.Done refuses unwritten = absurd refuses
  keeps_refused reason.WriteFault refuses unwritten = absurd refuses
  keeps_refused (reason.Words place) refuses unwritten = absurd refuses

  pub kept_refused : (why : Reason) → Refuses before.left after.left before.read_faults after.read_faults why → after.held ≡ before.held
      → (ended : Ended) → ended ≡ record { status = status_of why; reason = why; journal = no_journal }
      → Keeps words before after ended.reason ended.journal
  kept_refused why refuses unwritten ended is =
      subst (λ (e : Ended). Keeps words before after e.reason e.journal) (sym is) (keeps_refused why refuses unwritten)

  module _ (script : Script) (journal : Journal) (input : IsInput before.left after.left script) (history : IsOneHistory script settings journal.events) where
    ran : Ran words before after journal
    ran =
        record { bytes = input.bytes; script = script; settings = settings; words_are = words_are; input = input.input; stands_for = input.stands_for; history = history }

    pub kept_done : after.held ≡ append before.held (text_of script settings journal) → (ended : Ended)
        → ended ≡ record { status = status_of reason.Done; reason = reason.Done; journal = journal }
        → Keeps words before after ended.reason ended.journal
    unfolding ran
    kept_done held ended is = subst (λ (e : Ended). Keeps words before after e.reason e.journal) (sym is) (ran, held)

    pub kept_part : GainsPart (text_of script settings journal) before.held after.held → Rose before.write_faults after.write_faults → (ended : Ended)
        → ended ≡ record { status = status_of reason.WriteFault; reason = reason.WriteFault; journal = journal }
        → Keeps words before after ended.reason ended.journal
    unfolding ran
    kept_part part rose ended is = subst (λ (e : Ended). Keeps words before after e.reason e.journal) (sym is) (ran, part, rose)
