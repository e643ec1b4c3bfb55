-- The end of a transaction that is finished: its answer stands.
use Rattle.std.proofs.Common.{◌≡◌, ℕ, ◌+◌, ◌<◌, true, false, ◌||◌, List, [], ◌∷◌, ◌++◌, length, drop, Option, Some, Result, Ok, refl, sym, ap, ◌∙◌, subst}
use Rattle.std.specs.Vec.{vec_capacity, vec_len}
use Rattle.tl_base.specs.declared.memory.NoMemory.{NoMemory}
use Rattle.tl_manager.specs.declared.mark.Mark.{Mark}
use Rattle.tl_manager.specs.declared.mark.Mark.TheVariants as mark
use Rattle.tl_manager.specs.declared.request.ManagerReply.TheVariants as manager
use Rattle.tl_manager.specs.declared.request.ManagerRequest.TheVariants as request
use Rattle.tl_manager.specs.declared.request.Reply.{Reply}
use Rattle.tl_isolation.specs.declared.bound.Bound.{Bound}
use Rattle.tl_isolation.specs.declared.entry.Answer.{Answer}
use Rattle.tl_isolation.specs.declared.entry.Entry.TheVariants as entry
use Rattle.tl_isolation.specs.declared.entry.Said.{Said}
use Rattle.tl_protocol.specs.Next.{end_answer}
use Rattle.tl_protocol.specs.World as protocol
use Rattle.tl_journal.specs.Ask.{Heard, Told}
use Rattle.tl_journal.specs.Bytes.{home_of}
use Rattle.tl_journal.specs.Node.{Ending, Node}
use Rattle.tl_journal.specs.Strange.{is_stopped}
use Rattle.tl_journal.specs.Takes.{stopped, takes_ending}
use Rattle.tl_ask.specs.Hears.{hears_manager}
use Rattle.tl_txn.specs.Doing.{decided, doing_of}
use Rattle.tl_txn.specs.declared.phase.Decision.{Decision}
use Rattle.tl_txn.specs.declared.phase.Phase.{Phase}
use Rattle.tl_txn.specs.declared.phase.Phase.TheVariants as phase
use Rattle.tl_txn.specs.declared.txn.Txn.{Txn}
use Rattle.tl_node.specs.After.{ComesTo, IsAfter, Stays}
use Rattle.tl_node.specs.Ends.{EndsSo, EndsWith}
use Rattle.tl_node.specs.Fits.{FitsAll, FitsLast, IsFit, IsOpening, MayEnd}
use Rattle.tl_node.specs.Hears.{is_ended}
use Rattle.tl_node.specs.Leaves.{LeavesSo}
use Rattle.tl_node.specs.View.{doing_so, node_at, stage_of}
use Rattle.tl_node.specs.declared.kept.Core.{Core}
use Rattle.tl_node.specs.declared.work.Course.TheVariants as course
use Rattle.tl_node.specs.declared.work.Last.{Last}
use Rattle.tl_node.specs.declared.work.Next.{Next}
use Rattle.tl_node.specs.declared.work.Next.TheVariants as next
use Rattle.tl_node.specs.declared.work.Outside.{Outside as TheOutside}
use Rattle.tl_node.specs.declared.work.Stage.{Stage}
use Rattle.tl_node.specs.declared.work.Work.{Work}
use Rattle.tl_node.specs.declared.work.Work.TheVariants as work
use Rattle.tl_node.proofs.Opening.{left_fits, left_stands, node_with}
use Rattle.tl_node.proofs.Heard.{manager_alike}

ended_told : (sound : Heard) → is_ended sound ≡ true → sound ≡ Told manager.Ended
ended_told (Told manager.Ended) e = refl
ended_told (Told other) e = cc
ended_told sound e = cc

stops_ending : (n : Node) (told : Answer) (sound : Heard) → is_ended sound ≡ false → takes_ending n told sound ≡ stopped n
stops_ending n told (Told manager.Ended) e = cc
stops_ending n told (Told other) e = refl
stops_ending n told sound e = refl

-- a transaction whose last answer is ready is finished
pub record IsFinished (core : Core) (stage : protocol.Stage) (now : Phase) (last : Last) : Type 0 where
  pub tid : ℕ
  pub decision : Decision
  pub now_is : now ≡ phase.Ending tid decision
  pub fits : FitsLast core (end_answer stage (decided decision)) last

finished_so : (core : Core) (stage : protocol.Stage) (now : Phase) (last : Last) → MayEnd core stage now (Some last) → IsFinished core stage now last
finished_so core stage (phase.Ending tid d) last h = record { tid = tid; decision = d; now_is = refl; fits = h }
finished_so core stage other last h = absurd cc

module _ (core : Core) (statement : Bound) (later : List Bound) (tid : ℕ) (a : Answer) (last : Last) (told : Reply)
    (todo_is : drop (length core.answers.items) core.statements ≡ statement ∷ later) (fits : FitsLast core a last) where
  abbrev pub n : Node
  n = node_with core (statement ∷ later) (Ending tid a)

  ends_so : (new : Core) (o : TheOutside) (said : Said) → EndsSo core last new o said
      → ComesTo core.layout core.catalog n (Told manager.Ended) told new mark.Answered (Ok (next.Says (work.Outside o) said))
  ends_so new o said e =
      let left : LeavesSo core a new o said = record {
        rest = e.rest;
        answers = e.answers ∙ ap (λ x. core.answers.items ++ x ∷ []) fits.kept;
        said_is = e.said_is ∙ fits.said;
        following = subst (λ x. IsOpening core (length core.answers.items + 1) x) (sym e.following_is) fits.following;
      } in record {
        fits = left_fits core new statement later a o said todo_is left;
        not_strange = refl;
        so = λ suits. record {
          stands = left_stands core new statement later a o said todo_is left;
          means = tt;
          entries = λ commits. ap (λ (x : Said). entry.Answered core.number x.statement x.answer ∷ []) (sym left.said_is);
        };
      }

  ends_with : (new : Core) (x : Next) → EndsWith core last new x → ComesTo core.layout core.catalog n (Told manager.Ended) told new mark.Answered (Ok x)
  ends_with new (next.Says (work.Outside o) said) e = ends_so new o said e
  ends_with new other e = absurd e

  ended : (new : Core) (x : Next) → is_ended (hears_manager told) ≡ true → EndsWith core last new x
      → IsAfter core.layout core.catalog n told new mark.Answered (Ok x)
  ended new x h e = subst (λ sound. ComesTo core.layout core.catalog n sound told new mark.Answered (Ok x))
      (sym (manager_alike core.catalog (home_of core.layout core.number) (request.End tid) told ∙ ended_told (hears_manager told) h)) (ends_with new x e)

  unended : is_ended (hears_manager told) ≡ false → IsAfter core.layout core.catalog n told core mark.Quiet (Ok next.Strange)
  unended h = subst (λ sound. ComesTo core.layout core.catalog n sound told core mark.Quiet (Ok next.Strange))
      (sym (manager_alike core.catalog (home_of core.layout core.number) (request.End tid) told))
      (record { left = refl; answers = refl }, ap (λ (m : Node). is_stopped m.doing || false) (stops_ending n a (hears_manager told) h))

module _ (core : Core) (txn : Txn) (stage : Stage) (last : Last) (told : Reply)
    (fits : IsFit core (work.Runs (record { txn = txn; stage = stage; course = course.Ends (Some last) }))) where
  abbrev pub w : Work
  w = work.Runs (record { txn = txn; stage = stage; course = course.Ends (Some last) })

  pub room : vec_len core.answers < vec_capacity core.answers
  room = by (drop (length core.answers.items) core.statements) fits
    where
      by : (todo : List Bound) → FitsAll core todo w → vec_len core.answers < vec_capacity core.answers
      by [] f = absurd f
      by (statement ∷ later) f = let e : IsFinished core (stage_of stage) txn.phase last = finished_so core (stage_of stage) txn.phase last f.course.3 in e.fits.room

  pub last_after : (new : Core) (x : Next) → is_ended (hears_manager told) ≡ true → EndsWith core last new x
      → IsAfter core.layout core.catalog (node_at core w) told new mark.Answered (Ok x)
  last_after new x h e = by (drop (length core.answers.items) core.statements) refl fits
    where
      by : (todo : List Bound) → drop (length core.answers.items) core.statements ≡ todo → FitsAll core todo w
          → IsAfter core.layout core.catalog (node_with core todo (doing_so todo w)) told new mark.Answered (Ok x)
      by [] t f = absurd f
      by (statement ∷ later) t f =
          let d : IsFinished core (stage_of stage) txn.phase last = finished_so core (stage_of stage) txn.phase last f.course.3 in
          subst (λ p. IsAfter core.layout core.catalog (node_with core (statement ∷ later) (doing_of (stage_of stage) p)) told new mark.Answered (Ok x)) (sym d.now_is)
          (ended core statement later d.tid (end_answer (stage_of stage) (decided d.decision)) last told t d.fits new x h e)

  pub last_stays : is_ended (hears_manager told) ≡ false → IsAfter core.layout core.catalog (node_at core w) told core mark.Quiet (Ok next.Strange)
  last_stays h = by (drop (length core.answers.items) core.statements) refl fits
    where
      by : (todo : List Bound) → drop (length core.answers.items) core.statements ≡ todo → FitsAll core todo w
          → IsAfter core.layout core.catalog (node_with core todo (doing_so todo w)) told core mark.Quiet (Ok next.Strange)
      by [] t f = absurd f
      by (statement ∷ later) t f =
          let d : IsFinished core (stage_of stage) txn.phase last = finished_so core (stage_of stage) txn.phase last f.course.3 in
          subst (λ p. IsAfter core.layout core.catalog (node_with core (statement ∷ later) (doing_of (stage_of stage) p)) told core mark.Quiet (Ok next.Strange)) (sym d.now_is)
          (unended core statement later d.tid (end_answer (stage_of stage) (decided d.decision)) last told t d.fits h)

-- the settings, the catalog, the statements and the number stay
pub ends_stay : (old new : Core) (last : Last) (x : Next) → EndsWith old last new x → Stays old new
ends_stay old new last (next.Says (work.Outside o) said) e = record {
  layout = ap (λ (c : Core). c.layout) e.rest;
  catalog = ap (λ (c : Core). c.catalog) e.rest;
  statements = ap (λ (c : Core). c.statements) e.rest;
  number = ap (λ (c : Core). c.number) e.rest;
}
ends_stay old new last other e = absurd e

-- ---- whether the answer is ready

abbrev pub runs_to_end : Txn → Stage → Option Last → Work
runs_to_end txn stage last = work.Runs (record { txn = txn; stage = stage; course = course.Ends last })

pub fits_same : (core : Core) (txn : Txn) (stage : Stage) (a b : Option Last) → a ≡ b → IsFit core (runs_to_end txn stage a) → IsFit core (runs_to_end txn stage b)
fits_same core txn stage a b e fits = subst (λ (x : Option Last). IsFit core (runs_to_end txn stage x)) e fits

pub after_same : (core new : Core) (txn : Txn) (stage : Stage) (a b : Option Last) (told : Reply) (m : Mark) (result : Result Next NoMemory) → a ≡ b
    → IsAfter core.layout core.catalog (node_at core (runs_to_end txn stage b)) told new m result
    → IsAfter core.layout core.catalog (node_at core (runs_to_end txn stage a)) told new m result
after_same core new txn stage a b told m result e h =
    subst (λ (x : Option Last). IsAfter core.layout core.catalog (node_at core (runs_to_end txn stage x)) told new m result) (sym e) h
