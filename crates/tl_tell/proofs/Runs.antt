-- A run, as the laws of the crates below speak of it.
use Rattle.std.proofs.Common.{◌≡◌, ◌≤◌, List, ◌++◌, subst}
use Rattle.tl_base.specs.declared.place.Settings.{Settings}
use Rattle.tl_isolation.specs.declared.script.Script.{Script}
use Rattle.tl_journal.specs.declared.event.Event.{Event}
use Rattle.tl_journal.specs.Binding.{IsBound}
use Rattle.tl_journal.specs.Law.{EachIsMended, FirstCommits, IsRun, NothingStrange, OneHistory, SpeaksScript, SpeaksWhole, StoreStands}
use Rattle.tl_journal.specs.Clashes.{RivalsStand}
use Rattle.tl_journal.specs.Recovered.{RecoveriesAreWhole}
use Rattle.tl_journal.specs.Promises.{AnswersAll, NeverConflicts}
use Rattle.tl_journal.specs.Outcome.{HasRun}
use Rattle.tl_tell.specs.Promise.{RunsAreOneHistory, Stood}

pub is_run : (script : Script) (settings : Settings) (events : List Event) → IsBound script settings → 1 ≤ settings.shards → settings.shards ≤ 16 → 1 ≤ settings.managers → settings.managers ≤ 4
    → HasRun script settings events → IsRun script settings events
is_run script settings events bound shards few_shards managers few_managers run =
    record { bound = bound; shards = shards; few_shards = few_shards; managers = managers; few_managers = few_managers; few = run.few; trace = run.journal.trace }

stood : StoreStands → (script : Script) (settings : Settings) (events past rest : List Event) → IsRun script settings events → events ≡ past ++ rest
    → Stood script settings past
stood stands script settings events past rest run is = stands script settings past rest (subst (IsRun script settings) is run)

pub one_history : OneHistory → SpeaksScript → SpeaksWhole → StoreStands → EachIsMended → FirstCommits → RecoveriesAreWhole → RivalsStand → NothingStrange → AnswersAll
    → NeverConflicts → RunsAreOneHistory
one_history history speaks whole stands mended first recovered rivals heeded answers alone script settings events bound few shards few_shards managers few_managers run =
    let is : IsRun script settings events = is_run script settings events bound shards few_shards managers few_managers run in
    record {
      bound = bound;
      run = run;
      history = history script settings events is;
      speaks = speaks script settings events is;
      whole = λ node session has. whole script settings events is node session has (run.over node);
      answers = answers script settings events is run;
      alone = alone script settings events is;
      stands = λ past rest. stood stands script settings events past rest is;
      mended = λ past rest e. mended script settings past rest (subst (IsRun script settings) e is);
      first = λ past event rest e. first script settings past event rest (subst (IsRun script settings) e is);
      recovered = λ past event rest e. recovered script settings past event rest (subst (IsRun script settings) e is);
      rivals = λ past event rest e. rivals script settings past event rest (subst (IsRun script settings) e is);
      heeded = λ past event rest e. heeded script settings past event rest (subst (IsRun script settings) e is) few;
    }
