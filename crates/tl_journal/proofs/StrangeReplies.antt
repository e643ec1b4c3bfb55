-- No place of a run replies anything strange.
use Rattle.std.proofs.Common.{◌≡◌, inl, inr, ℕ, ◌+◌, ◌<◌, ◌≤◌, ◌^◌, Bool, true, false, List, [], ◌∷◌, ◌++◌, length, Option, Some, None, sym, ap, ◌∙◌, subst, arith}
use Rattle.std.specs.List.{AllByRecursion}
use Rattle.std.proofs.lemmas.Bool.{and_from, both_ways, or_from}
use Rattle.std.proofs.lemmas.List.{length-append}
use Rattle.std.specs.Prelude.{◌==◌, ◌||◌, if◌then◌else◌}
use Rattle.std.proofs.lemmas.Option.{same_Some}
use Rattle.tl_lemmas.proofs.Lists.{found}
use Rattle.tl_base.specs.declared.place.Settings.{Settings}
use Rattle.tl_schema.specs.declared.catalog.Catalog.{Catalog}
use Rattle.tl_cells.specs.declared.cell.Cell.{Cell as ShardCell}
use Rattle.tl_manager.specs.declared.request.Reply.{Reply}
use Rattle.tl_isolation.specs.declared.entry.Answer.TheVariants as answer
use Rattle.tl_isolation.specs.declared.script.Script.{Script}
use Rattle.tl_isolation.specs.declared.script.Session.{Session}
use Rattle.tl_isolation.specs.History.{state_after}
use Rattle.tl_isolation.specs.Script.{setup_of}
use Rattle.tl_protocol.specs.Store.{LogCell}
use Rattle.tl_journal.specs.declared.event.Event.{Event}
use Rattle.tl_journal.specs.Ask.{Ask, Heard, Strange}
use Rattle.tl_journal.specs.Asks.{asks}
use Rattle.tl_journal.specs.Binding.{IsBound, StatementFits}
use Rattle.tl_journal.specs.Bytes.{heard, log_key, place_of, written}
use Rattle.tl_journal.specs.Journal.{IsEvent, entries_told, has_vanished, is_post, node_after, session_of}
use Rattle.tl_journal.specs.Law.{NothingStrange}
use Rattle.tl_journal.specs.Node.{Node}
use Rattle.tl_journal.specs.Served.{Serves, parts_of}
use Rattle.tl_journal.specs.Strange.{is_odd_for, is_sound, may_reply, sound_heard, stops_at}
use Rattle.tl_journal.proofs.Heeded.{heeded}
use Rattle.tl_journal.proofs.Journals.{stood_at}
use Rattle.tl_journal.proofs.Logs.{along_at}
use Rattle.tl_journal.proofs.Opens.{layout_of}
use Rattle.tl_journal.proofs.Posted.{before_stood}
use Rattle.tl_journal.proofs.Present.{ReadsFor}
use Rattle.tl_journal.proofs.Shards.{asks_at}
use Rattle.tl_journal.proofs.Sizes.{asks_fit}
use Rattle.tl_journal.proofs.Stated.{StatementOn, all_stated}
use Rattle.tl_journal.proofs.Store.{LogIs}
use Rattle.tl_journal.proofs.StoreLogs.{cell_in}
use Rattle.tl_journal.proofs.Stood.{Stood}
use Rattle.tl_journal.proofs.StrangeCounts.{HasRoom, has_room}
use Rattle.tl_journal.proofs.StrangeLefts.{LeftIs, left_after}
use Rattle.tl_journal.proofs.StrangeOdd.{OwnLog, not_odd_at}
use Rattle.tl_journal.proofs.StrangeSound.{may_at, sound_at}
use Rattle.tl_journal.proofs.StrangeStops.{goes_on_at}
use Rattle.tl_journal.proofs.StrangeTells.{may_be}

-- an event is the request that its node, which runs, asks next
record Makes (settings : Settings) (past : List Event) (e : Event) (ask : Ask) : Type 0 where
  runs : has_vanished past e.node ≡ false
  stands_at : e.place ≡ place_of settings ask
  bytes : e.request ≡ written ask

module _ (script : Script) (settings : Settings) (past : List Event) (e : Event) (session : Session) (is_session : session_of script e.node ≡ Some session)
    (ask : Ask) (asked : asks settings script.catalog (node_after settings script past session) ≡ Some ask) where
  same_ask : (other : Session) (its : Ask) → session_of script e.node ≡ Some other → asks settings script.catalog (node_after settings script past other) ≡ Some its → its ≡ ask
  same_ask other its is_other is_asked =
      same_Some its ask
      (sym is_asked ∙ ap (λ (x : Session). asks settings script.catalog (node_after settings script past x)) (same_Some other session (sym is_other ∙ is_session)) ∙ asked)

  made : (other : Session) (its : Ask) → session_of script e.node ≡ Some other → asks settings script.catalog (node_after settings script past other) ≡ Some its
      → has_vanished past e.node ≡ false → e.place ≡ place_of settings its → e.request ≡ written its → Makes settings past e ask
  made other its is_other is_asked runs at_place so =
      subst (λ (x : Ask). Makes settings past e x) (same_ask other its is_other is_asked) (record { runs = runs; stands_at = at_place; bytes = so })

  makes : is_post e.request ≡ false → IsEvent script settings past e → Makes settings past e ask
  makes request (inl r) = made r.session r.ask r.is_session r.asked r.runs r.stands_at r.bytes
  makes request (inr (inl p)) = absurd (both_ways (is_post e.request) request (ap is_post p.notice))
  makes request (inr (inr c)) = made c.session c.ask c.is_session c.asked c.runs c.stands_at c.bytes

log_own : (tid : ℕ) (c : ShardCell) (log : Option LogCell) → LogIs tid c log → OwnLog tid log
log_own tid c None h = tt
log_own tid c (Some x) h = h.own

statements_fit : (script : Script) (settings : Settings) (n : ℕ) (session : Session) → IsBound script settings → session_of script n ≡ Some session
    → AllByRecursion (StatementOn script.catalog) session.statements
statements_fit script settings n session bound e =
    all_stated script.catalog session.statements bound.tables
    (found (λ (s : Session). AllByRecursion (StatementFits script.catalog) s.statements) (λ (s : Session). s.node == n) script.sessions session bound.statements e)

-- what is heard of a reply that may be, and is sound, is what it says
both_pass : (catalog : Catalog) (ask : Ask) (told : Reply) → may_reply ask told ≡ true → is_sound catalog ask (heard ask told) ≡ true
    → sound_heard catalog ask told ≡ heard ask told
both_pass catalog ask told may sound =
    ap (λ (b : Bool). if b then heard ask told else Strange) (and_from (may_reply ask told) (is_sound catalog ask (heard ask told)) may sound)

pub nothing_strange : NothingStrange
nothing_strange script settings past e rest run rows request session is_session ask asked =
    let events : length (past ++ e ∷ rest) < 2 ^ 32 = run.few in
    let both : length (past ++ e ∷ rest) ≡ length past + length (e ∷ rest) = length-append past (e ∷ rest) in
    let few : length past + 1 < 2 ^ 32 = omega arith in
    let node : Node = node_after settings script past session in
    let s : Stood (layout_of script settings) script settings past = stood_at script settings past (e ∷ rest) run in
    let m : Makes settings past e ask = makes script settings past e session is_session ask asked request (along_at (IsEvent script settings) [] past e rest run.trace.events_are) in
    let stands = s.nodes e.node session is_session m.runs in
    let least : 1 ≤ e.node = subst (λ (i : ℕ). 1 ≤ i) stands.is_so.number stands.fits.least in
    let b = before_stood (layout_of script settings) script settings past s run.bound.opening e.node session is_session m.runs least in
    let h = heeded (layout_of script settings) script settings past e rest s run.bound run.shards few run.trace.served session is_session m.runs b ask asked m.stands_at m.bytes in
    let room : HasRoom ask (heard ask e.reply) = has_room (layout_of script settings) script settings past e rest s run.shards few rows run.trace.served run.trace.events_are ask m.stands_at m.bytes in
    let left : LeftIs node.doing = left_after settings script past session (statements_fit script settings e.node session run.bound is_session) in
    let R = ReadsFor settings script.catalog node.todo in
    let state = state_after (setup_of script settings) (entries_told past) in
    let may : may_reply ask e.reply ≡ true =
    may_be (layout_of script settings) script settings past e rest s run.shards few rows run.trace.served run.trace.events_are ask
    (asks_at settings script.catalog node ask run.shards stands.shards asked) (asks_fit settings script.catalog (length past) node ask stands.fits asked) m.stands_at m.bytes
    (λ m request is. may_at R (layout_of script settings) (setup_of script settings) settings s.world state (entries_told past) e.node node b
    m request e.reply h.after (asked ∙ ap (λ (x : Ask). Some x) is)
    (subst (λ (x : Ask). Serves settings (parts_of s.world) e.node x (heard x e.reply) h.after) is h.serves)) in
    let sound : is_sound script.catalog ask (heard ask e.reply) ≡ true =
    sound_at R (layout_of script settings) (setup_of script settings) settings s.world state (entries_told past) e.node node b ask (heard ask e.reply) h.after asked h.serves in
    let same : sound_heard script.catalog ask e.reply ≡ heard ask e.reply = both_pass script.catalog ask e.reply may sound in
    subst (λ (x : Heard). (stops_at settings script.catalog node x || is_odd_for node.doing x) ≡ false) (sym same)
    (or_from (stops_at settings script.catalog node (heard ask e.reply)) (is_odd_for node.doing (heard ask e.reply))
    (goes_on_at R (layout_of script settings) (setup_of script settings) settings s.world state (entries_told past) e.node node b
    ask (heard ask e.reply) h.after answer.Begun asked left h.serves room)
    (not_odd_at R (layout_of script settings) (setup_of script settings) settings s.world state (entries_told past) e.node node b
    (length past) ask (heard ask e.reply) h.after asked stands.fits.doing h.serves room h.told
    (λ tid small. log_own tid (cell_in settings (setup_of script settings) past (log_key tid)) (s.world.logs tid) (s.store.holds.logs tid small))))
