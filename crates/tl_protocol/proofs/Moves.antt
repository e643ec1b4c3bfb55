-- Every move keeps the invariant.
use Rattle.tl_protocol.specs.World.{World}
use Rattle.tl_protocol.specs.Move as move
use Rattle.tl_protocol.specs.Move.{Move}
use Rattle.tl_protocol.proofs.Ledger.{Ledger}
use Rattle.tl_protocol.proofs.Inv.{Ghost, Inv, Kept}
use Rattle.tl_protocol.proofs.Beginning.{ask_kept, begin_kept, bring_kept, draw_kept, end_kept, learn_kept}
use Rattle.tl_protocol.proofs.Statements.{cover_kept, give_up_kept, look_kept, say_begun_kept, say_change_kept, say_nested_kept, say_outside_kept, say_select_kept, there_kept, try_kept, try_nothing_kept}
use Rattle.tl_protocol.proofs.Attempts.{clash_kept, decide_kept, load_commits_kept, load_own_kept, load_undo_kept, mark_undone_kept, moved_commits_kept, moved_own_kept, moved_undo_kept}
use Rattle.tl_protocol.proofs.Stores.{store_own_kept, store_undo_kept}
use Rattle.tl_protocol.proofs.Finishing.{store_commits_kept}
use Rattle.tl_protocol.proofs.Vanishing.{claim_kept, say_recovered_kept, vanish_kept}
use Rattle.tl_protocol.proofs.Recovery.{end_lost_kept, find_none_kept, find_orphan_kept, load_finish_kept, load_lost_kept, mark_lost_kept, moved_finish_kept, moved_lost_kept, read_log_kept, store_finish_kept, store_lost_kept}

module _ (w : World) (a : Ledger) (g : Ghost) (v : Inv w a g) where
  pub move_kept : (m : Move w) → Kept w a g m
  move_kept (move.Ask n at) = ask_kept w a g v n at
  move_kept (move.Draw n seen at room) = draw_kept w a g v n seen at room
  move_kept (move.Bring n seen low at) = bring_kept w a g v n seen low at
  move_kept (move.Begin n tid seen floor at ready low) = begin_kept w a g v n tid seen floor at ready low
  move_kept (move.Learn n manager seen floor r told low) = learn_kept w a g v n manager seen floor r told low
  move_kept (move.Look n t facts looked at) = look_kept w a g v n t facts looked at
  move_kept (move.Cover n t facts covers looked at right) = cover_kept w a g v n t facts covers looked at right
  move_kept (move.SayBegun n statement t facts at fresh) = say_begun_kept w a g v n statement t facts at fresh
  move_kept (move.SayNested n statement b t facts at opened nested) = say_nested_kept w a g v n statement b t facts at opened nested
  move_kept (move.SayOutside n statement b at outside) = say_outside_kept w a g v n statement b at outside
  move_kept (move.SaySelect n statement query said t facts at takes means) = say_select_kept w a g v n statement query said t facts at takes means
  move_kept (move.SayChange n statement edit said own t facts at takes suits means) = say_change_kept w a g v n statement edit said own t facts at takes suits means
  move_kept (move.Try n stamp t facts at may some absent above) = try_kept w a g v n stamp t facts at may some absent above
  move_kept (move.TryNothing n t facts at may none) = try_nothing_kept w a g v n t facts at may none
  move_kept (move.LoadOwn n k x at own new none) = load_own_kept w a g v n k x at own new none
  move_kept (move.Clash n place rival o x at own new strange) = clash_kept w a g v n place rival o x at own new strange
  move_kept (move.StoreOwn n stamp floor x l at same above least) = store_own_kept w a g v n stamp floor x l at same above least
  move_kept (move.MovedOwn n x l at moved) = moved_own_kept w a g v n x l at moved
  move_kept (move.Decide n stamp x at all same above) = decide_kept w a g v n stamp x at all same above
  move_kept (move.LoadUndo n k x rival at stored) = load_undo_kept w a g v n k x rival at stored
  move_kept (move.StoreUndo n stamp x rival l at same above) = store_undo_kept w a g v n stamp x rival l at same above
  move_kept (move.MovedUndo n x rival l at moved) = moved_undo_kept w a g v n x rival l at moved
  move_kept (move.MarkUndone n stamp x rival at none same above) = mark_undone_kept w a g v n stamp x rival at none same above
  move_kept (move.GiveUp n t facts at may) = give_up_kept w a g v n t facts at may
  move_kept (move.LoadCommits n t d at) = load_commits_kept w a g v n t d at
  move_kept (move.StoreCommits n stamp t d c at same above) = store_commits_kept w a g v n stamp t d c at same above
  move_kept (move.MovedCommits n t d c at moved) = moved_commits_kept w a g v n t d c at moved
  move_kept (move.End n statement tid told at) = end_kept w a g v n statement tid told at
  move_kept (move.Vanish n ending r) = vanish_kept w a g v n ending r
  move_kept (move.There n statement gone at free none) = there_kept w a g v n statement gone at free none
  move_kept (move.Claim n gone also at free posted) = claim_kept w a g v n gone also at free posted
  move_kept (move.FindOrphan n duties x d at left active) = find_orphan_kept w a g v n duties x d at left active
  move_kept (move.FindNone n duties d at left none) = find_none_kept w a g v n duties d at left none
  move_kept (move.ReadLog n duties o at) = read_log_kept w a g v n duties o at
  move_kept (move.LoadLost n k duties o log seen at named new) = load_lost_kept w a g v n k duties o log seen at named new
  move_kept (move.StoreLost n stamp duties o log seen l at same above) = store_lost_kept w a g v n stamp duties o log seen l at same above
  move_kept (move.MovedLost n duties o log seen l at moved) = moved_lost_kept w a g v n duties o log seen l at moved
  move_kept (move.MarkLost n stamp duties o log seen at all same above) = mark_lost_kept w a g v n stamp duties o log seen at all same above
  move_kept (move.LoadFinish n duties o committed at) = load_finish_kept w a g v n duties o committed at
  move_kept (move.StoreFinish n stamp duties o committed c at same above) = store_finish_kept w a g v n stamp duties o committed c at same above
  move_kept (move.MovedFinish n duties o committed c at moved) = moved_finish_kept w a g v n duties o committed c at moved
  move_kept (move.EndLost n duties o at) = end_lost_kept w a g v n duties o at
  move_kept (move.SayRecovered n statement duties at is_next done) = say_recovered_kept w a g v n statement duties at is_next done
