-- Where the protocol stands after the events of a journal.
use Rattle.std.proofs.Common.{◌≡◌, ℕ, ◌+◌, ◌≤◌, Bool, true, false, List, [], ◌∷◌, ◌++◌, length, Some, refl, sym, ◌∙◌, subst}
use Rattle.std.specs.Prelude.{◌==◌, ◌&&◌, ◌||◌, not}
use Rattle.std.proofs.lemmas.List.{length_push}
use Rattle.tl_base.specs.declared.place.Settings.{Settings}
use Rattle.tl_isolation.specs.declared.script.Script.{Script}
use Rattle.tl_isolation.specs.declared.script.Session.{Session}
use Rattle.tl_isolation.specs.History.{state_after}
use Rattle.tl_isolation.specs.Script.{setup_of}
use Rattle.tl_protocol.specs.World.{World, runs}
use Rattle.tl_protocol.specs.Run.{Layout, Reach}
use Rattle.tl_journal.specs.declared.event.Event.{Event}
use Rattle.tl_journal.specs.Ask.{Ask}
use Rattle.tl_journal.specs.Bytes.{heard}
use Rattle.tl_journal.specs.Journal.{after_event, entries_told, has_vanished, is_post, node_after, posts, session_of}
use Rattle.tl_journal.specs.Node.{Node}
use Rattle.tl_journal.specs.Served.{Parts, Serves, parts_of}
use Rattle.tl_journal.proofs.Elsewhere.{after_other, node_elsewhere}
use Rattle.tl_journal.proofs.Fits.{HeardFits}
use Rattle.tl_journal.proofs.Goings.{IsElsewhere}
use Rattle.tl_journal.proofs.Logs.{node_more, vanished_more}
use Rattle.tl_journal.proofs.Managers.{ManagersAre}
use Rattle.tl_journal.proofs.Meets.{IsLaidOut, NodeIs}
use Rattle.tl_journal.proofs.Present.{ReadsFor}
use Rattle.tl_journal.proofs.Shards.{DoingAt}
use Rattle.tl_journal.proofs.Sizes.{NodeFits, ToldFits, fits_more}
use Rattle.tl_journal.proofs.Store.{StoreIs}

-- a running node
pub record NodeStands (script : Script) (settings : Settings) (few : ℕ) (node : Node) (w : World) (n : ℕ) : Type 0 where
  pub is_so : NodeIs (ReadsFor settings script.catalog node.todo) settings node w n
  pub fits : NodeFits settings script.catalog few node
  pub shards : DoingAt settings node.doing

pub record Stood (layout : Layout) (script : Script) (settings : Settings) (past : List Event) : Type 0 where
  pub world : World
  pub reach : Reach layout (setup_of script settings) world (state_after (setup_of script settings) (entries_told past)) (entries_told past)
  pub store : StoreIs settings (setup_of script settings) past (parts_of world)
  pub managers : ManagersAre settings past (parts_of world)
  pub laid_out : IsLaidOut settings world
  pub catalog : world.catalog ≡ script.catalog
  pub gone : (n : ℕ) → world.gone n ≡ has_vanished past n
  pub few : (n : ℕ) → world.gone n ≡ true → n ≤ 16
  pub nodes : (n : ℕ) (session : Session) → session_of script n ≡ Some session → has_vanished past n ≡ false
      → NodeStands script settings (length past) (node_after settings script past session) world n

-- what a place has replied, as the protocol sees it
pub record Heeds (script : Script) (settings : Settings) (past : List Event) (e : Event) (w : World) (n : ℕ) (ask : Ask) : Type 0 where
  pub after : Parts
  pub serves : Serves settings (parts_of w) n ask (heard ask e.reply) after
  pub store : StoreIs settings (setup_of script settings) (past ++ e ∷ []) after
  pub managers : ManagersAre settings (past ++ e ∷ []) after
  pub fits : HeardFits (length past + 1) (heard ask e.reply)
  pub told : ToldFits (heard ask e.reply)

not_posting : (n : ℕ) (e : Event) → is_post e.request ≡ false → posts n e ≡ false
not_posting n e h = on (e.node == n) (is_post e.request) h
  where
    on : (a b : Bool) → b ≡ false → a && b ≡ false
    on true b e = e
    on false b e = refl

or_false : (a b : Bool) → b ≡ false → a || b ≡ a
or_false true b e = refl
or_false false b e = e

or_before : (a b : Bool) → a || b ≡ false → a ≡ false
or_before true b e = cc
or_before false b e = refl

-- a request leaves those who have vanished
pub vanished_same : (past : List Event) (e : Event) (n : ℕ) → is_post e.request ≡ false → has_vanished (past ++ e ∷ []) n ≡ has_vanished past n
vanished_same past e n h = vanished_more past e n ∙ or_false (has_vanished past n) (posts n e) (not_posting n e h)

module _ (layout : Layout) (script : Script) (settings : Settings) (past : List Event) (e : Event) (s : Stood layout script settings past) where
  -- another node, or any beside a death notice
  pub still_stands : (world : World) (n : ℕ) (session : Session) → session_of script n ≡ Some session → has_vanished past n ≡ false
      → (e.node == (node_after settings script past session).number) && not (is_post e.request) ≡ false → IsElsewhere s.world world n
      → NodeStands script settings (length (past ++ e ∷ [])) (node_after settings script (past ++ e ∷ []) session) world n
  still_stands world n session h runs other away =
      let node : Node = node_after settings script past session in
      let stands = s.nodes n session h runs in
      subst (λ x. NodeStands script settings (length (past ++ e ∷ [])) x world n)
      (sym (node_more settings script past e session ∙ after_other settings script e node other))
      (record {
        is_so = node_elsewhere (ReadsFor settings script.catalog node.todo) settings node s.world world n away stands.is_so;
        fits = subst (λ few. NodeFits settings script.catalog few node) (sym (length_push past e)) (fits_more settings script.catalog (length past) node stands.fits);
        shards = stands.shards;
      })

  -- the node that made the request, which leads it to this
  pub own_stands : (world : World) (n : ℕ) (session : Session) (new : Node) → session_of script n ≡ Some session → has_vanished past n ≡ false
      → after_event settings script e (node_after settings script past session) ≡ new → NodeFits settings script.catalog (length past + 1) new → DoingAt settings new.doing
      → NodeIs (ReadsFor settings script.catalog new.todo) settings new world n
      → NodeStands script settings (length (past ++ e ∷ [])) (node_after settings script (past ++ e ∷ []) session) world n
  own_stands world n session new h runs goes fits at is_so =
      subst (λ x. NodeStands script settings (length (past ++ e ∷ [])) x world n)
      (sym (node_more settings script past e session ∙ goes))
      (record {
        is_so = is_so;
        shards = at;
        fits = subst (λ few. NodeFits settings script.catalog few new) (sym (length_push past e)) fits;
      })
