-- Where something stands in a world that was played: versions at some keys alone, transactions and duties of some nodes alone.
use Rattle.std.proofs.Common.{◌≡◌, ℕ, Bool, true, false, ◌||◌, List, [], ◌∷◌, Option, Some, None, refl, sym, ap, ◌∙◌, subst}
use Rattle.std.specs.Prelude.{◌==◌, if◌then◌else◌}
use Rattle.std.specs.List.{list_any}
use Rattle.std.proofs.lemmas.Bool.{eq-eqb, false≢true}
use Rattle.tl_lemmas.proofs.Tests.{or_first, or_second}
use Rattle.tl_logrec.specs.declared.entry.Flag.{Flag}
use Rattle.tl_logrec.specs.declared.entry.Flag.TheVariants as flag
use Rattle.tl_schema.specs.declared.catalog.Setup.{Setup}
use Rattle.tl_manager.specs.declared.active.Active.{Active}
use Rattle.tl_descriptor.specs.Tids.{has}
use Rattle.tl_versions.specs.Versions.{is_written}
use Rattle.tl_write.specs.declared.write.Write.{Write}
use Rattle.tl_isolation.specs.Tables.{opening_writes}
use Rattle.tl_protocol.specs.Store.{Key, Cell, LogCell, last_of, put, put_at, same_key, written}
use Rattle.tl_protocol.specs.World.{Duties, Orphan, Recovery, NoDuty, Next, Reading, Stripping, Finishing, Closed, World}
use Rattle.tl_protocol.specs.Move as move
use Rattle.tl_protocol.specs.Move.{Move, is_named}
use Rattle.tl_protocol.specs.Next.{by_flag, by_log, load_finish, load_lost, loaded, next, owed, without}
use Rattle.tl_protocol.specs.Run.{Layout, opening_versions, opening_world}
use Rattle.tl_protocol.proofs.Cells.{put_at_one}
use Rattle.tl_protocol.proofs.Frames.{put_one}
use Rattle.tl_write.proofs.Keys.{key_itself}

abbrev pub is_listed : ℕ → List ℕ → Bool
is_listed d nodes = list_any (λ n. n == d) nodes

-- whether the duty is still left
abbrev pub is_left : Recovery → ℕ → Bool
is_left NoDuty d = false
is_left (Next duties) d = duties.left d
is_left (Reading duties o) d = duties.left d
is_left (Stripping duties o log seen l) d = duties.left d
is_left (Finishing duties o committed c) d = duties.left d
is_left (Closed duties o) d = duties.left d

-- the recovery has no duty to this node
abbrev pub HasNot : Recovery → ℕ → Type 0
HasNot recovery d = (owed recovery d ≡ false) × (is_left recovery d ≡ false)

-- whether a death notice leaves this node too
abbrev pub leaves : Option (ℕ → Bool) → ℕ → Bool
leaves None d = false
leaves (Some also) d = also d

pub record Confined (cells : Key → Cell) (active : ℕ → Option Active) (recoveries : ℕ → Recovery) (notices : ℕ → Option (ℕ → Bool)) : Type 0 where
  pub keys : List Key
  pub nodes : List ℕ
  pub stored : (k : Key) → is_named k keys ≡ false → (cells k).versions ≡ []
  pub begun : (d : ℕ) → is_listed d nodes ≡ false → active d ≡ None
  pub owes : (n d : ℕ) → is_listed d nodes ≡ false → HasNot (recoveries n) d
  pub posted : (n d : ℕ) → is_listed d nodes ≡ false → leaves (notices n) d ≡ false

abbrev pub ConfinedIn : World → Type 0
ConfinedIn w = Confined w.cells w.active w.recoveries w.notices

not_itself : (n : ℕ) (nodes : List ℕ) → is_listed n (n ∷ nodes) ≡ false → ⊥
not_itself n nodes e = false≢true (sym (or_first (n == n) (is_listed n nodes) e) ∙ eq-eqb n n refl)

not_named_itself : (k : Key) (keys : List Key) → is_named k (k ∷ keys) ≡ false → ⊥
not_named_itself k keys e = false≢true (sym (or_first (same_key k k) (is_named k keys) e) ∙ key_itself k)

module _ (cells : Key → Cell) (active : ℕ → Option Active) (recoveries : ℕ → Recovery) (notices : ℕ → Option (ℕ → Bool)) (v : Confined cells active recoveries notices) where
  pub stored_more : (k : Key) (cell : Cell) (q : Key) → is_named q (k ∷ v.keys) ≡ false → (put_at k cell cells q).versions ≡ []
  stored_more k cell =
      put_at_one (λ (q : Key) (x : Cell). is_named q (k ∷ v.keys) ≡ false → x.versions ≡ []) k cell cells
      (λ e. absurd (not_named_itself k v.keys e)) (λ q ne e. v.stored q (or_second (same_key k q) (is_named q v.keys) e))

  pub begun_more : (n : ℕ) (x : Option Active) (d : ℕ) → is_listed d (n ∷ v.nodes) ≡ false → put n x active d ≡ None
  begun_more n x =
      put_one (λ (d : ℕ) (o : Option Active). is_listed d (n ∷ v.nodes) ≡ false → o ≡ None) n x active
      (λ e. absurd (not_itself n v.nodes e)) (λ d ne e. v.begun d (or_second (n == d) (is_listed d v.nodes) e))

  pub ended_more : (n d : ℕ) → is_listed d v.nodes ≡ false → put n None active d ≡ None
  ended_more n = put_one (λ (d : ℕ) (o : Option Active). is_listed d v.nodes ≡ false → o ≡ None) n None active (λ e. refl) (λ d ne e. v.begun d e)

  pub owes_more : (n : ℕ) (r : Recovery) → ((d : ℕ) → is_listed d v.nodes ≡ false → HasNot r d) → (i d : ℕ) → is_listed d v.nodes ≡ false → HasNot (put n r recoveries i) d
  owes_more n r h = put_one (λ (i : ℕ) (x : Recovery). (d : ℕ) → is_listed d v.nodes ≡ false → HasNot x d) n r recoveries h (λ i ne. v.owes i)

  pub posted_more : (n : ℕ) (o : Option (ℕ → Bool)) → ((d : ℕ) → is_listed d v.nodes ≡ false → leaves o d ≡ false) → (i d : ℕ) → is_listed d v.nodes ≡ false → leaves (put n o notices i) d ≡ false
  posted_more n o h = put_one (λ (i : ℕ) (x : Option (ℕ → Bool)). (d : ℕ) → is_listed d v.nodes ≡ false → leaves x d ≡ false) n o notices h (λ i ne. v.posted i)

  -- a record cell is stored
  abbrev pub with_key : (k : Key) (cell : Cell) → Confined (put_at k cell cells) active recoveries notices
  with_key k cell = record { keys = k ∷ v.keys; nodes = v.nodes; stored = stored_more k cell; begun = v.begun; owes = v.owes; posted = v.posted }

  -- a node has a transaction
  abbrev pub with_begun : (n : ℕ) (x : Option Active) → Confined cells (put n x active) recoveries notices
  with_begun n x =
      record {
        keys = v.keys;
        nodes = n ∷ v.nodes;
        stored = v.stored;
        begun = begun_more n x;
        owes = λ i d e. v.owes i d (or_second (n == d) (is_listed d v.nodes) e);
        posted = λ i d e. v.posted i d (or_second (n == d) (is_listed d v.nodes) e);
      }

  -- a node has none
  abbrev pub with_ended : (n : ℕ) → Confined cells (put n None active) recoveries notices
  with_ended n = record { keys = v.keys; nodes = v.nodes; stored = v.stored; begun = ended_more n; owes = v.owes; posted = v.posted }

  -- a recovery goes on
  abbrev pub with_duties : (n : ℕ) (r : Recovery) → ((d : ℕ) → is_listed d v.nodes ≡ false → HasNot r d) → Confined cells active (put n r recoveries) notices
  with_duties n r h = record { keys = v.keys; nodes = v.nodes; stored = v.stored; begun = v.begun; owes = owes_more n r h; posted = v.posted }

  -- a death notice is posted, or taken
  abbrev pub with_posted : (n : ℕ) (o : Option (ℕ → Bool)) → ((d : ℕ) → is_listed d v.nodes ≡ false → leaves o d ≡ false) → Confined cells active recoveries (put n o notices)
  with_posted n o h = record { keys = v.keys; nodes = v.nodes; stored = v.stored; begun = v.begun; owes = v.owes; posted = posted_more n o h }

  -- this node is one of them too
  abbrev pub with_node : ℕ → Confined cells active recoveries notices
  with_node n =
      record {
        keys = v.keys;
        nodes = n ∷ v.nodes;
        stored = v.stored;
        begun = λ d e. v.begun d (or_second (n == d) (is_listed d v.nodes) e);
        owes = λ i d e. v.owes i d (or_second (n == d) (is_listed d v.nodes) e);
        posted = λ i d e. v.posted i d (or_second (n == d) (is_listed d v.nodes) e);
      }

  -- what the node's recovery has not
  pub has_not : (n : ℕ) (r : Recovery) → recoveries n ≡ r → (d : ℕ) → is_listed d v.nodes ≡ false → HasNot r d
  has_not n r e d h = subst (λ x. HasNot x d) e (v.owes n d h)

less : (b x : Bool) → x ≡ false → (if b then false else x) ≡ false
less true x e = refl
less false x e = e

more : (b x : Bool) → b ≡ false → x ≡ false → (if b then true else x) ≡ false
more true x e f = absurd cc
more false x e f = f

-- one duty less
pub without_it : (duties : Duties) (d e : ℕ) → HasNot (Next duties) d → HasNot (Next (without e duties)) d
without_it duties d e h = (h.0, less (e == d) (duties.left d) h.1)

flagged : (duties : Duties) (o : Orphan) (log : LogCell) (f : Flag) (d : ℕ) → HasNot (Next duties) d → HasNot (by_flag duties o log f) d
flagged duties o log flag.Trying d h = h
flagged duties o log flag.Decided d h = h
flagged duties o log flag.Undone d h = h

pub logged : (duties : Duties) (o : Orphan) (log : Option LogCell) (d : ℕ) → HasNot (Next duties) d → HasNot (by_log duties o log) d
logged duties o None d h = h
logged duties o (Some log) d h = flagged duties o log log.entry.flag d h

either : (b : Bool) (x y : Recovery) (d : ℕ) → HasNot x d → HasNot y d → HasNot (if b then x else y) d
either true x y d h k = h
either false x y d h k = k

pub lost_loaded : (w : World) (k : Key) (duties : Duties) (o : Orphan) (log : LogCell) (seen : Key → Bool) (d : ℕ) → HasNot (Next duties) d → HasNot (load_lost w k duties o log seen) d
lost_loaded w k duties o log seen d h =
    either (is_written o.tid (w.cells k).versions) (Stripping duties o log seen (Some (loaded w k))) (Stripping duties o log (put_at k true seen) None) d h h

pub finish_loaded : (w : World) (duties : Duties) (o : Orphan) (committed : Bool) (d : ℕ) → HasNot (Next duties) d → HasNot (load_finish w duties o committed) d
finish_loaded w duties o committed d h =
    either (has w.commits.finished o.tid) (Closed duties o) (Finishing duties o committed (Some w.commits)) d h h

pub claimed : (gone : ℕ) (also : ℕ → Bool) (nodes : List ℕ) (d : ℕ) → also d ≡ false → is_listed d (gone ∷ nodes) ≡ false
    → HasNot (Next (record { node = gone; all = put gone true also; left = put gone true also })) d
claimed gone also nodes d e f =
    let g = more (gone == d) (also d) (or_first (gone == d) (is_listed d nodes) f) e in (g, g)

-- where something stands after a move
abbrev pub confined_next : (w : World) → ConfinedIn w → (m : Move w) → ConfinedIn (next w m)
confined_next w v (move.Ask n at) = v
confined_next w v (move.Draw n seen at room) = v
confined_next w v (move.Bring n seen low at) = v
confined_next w v (move.Begin n tid seen floor at number low) = with_begun _ _ _ _ v n _
confined_next w v (move.Learn n manager seen floor r told low) = v
confined_next w v (move.Look n t facts looked at) = v
confined_next w v (move.Cover n t facts covers looked at right) = v
confined_next w v (move.SayBegun n statement t facts at fresh) = v
confined_next w v (move.SayNested n statement b t facts at opened nested) = v
confined_next w v (move.SayOutside n statement b at outside) = v
confined_next w v (move.SaySelect n statement query told t facts at takes means) = v
confined_next w v (move.SayChange n statement edit told own t facts at takes suits means) = v
confined_next w v (move.Try n stamp t facts at may some absent above) = v
confined_next w v (move.TryNothing n t facts at may none) = v
confined_next w v (move.LoadOwn n k a at own new none) = v
confined_next w v (move.Clash n place rival o a at own new strange) = v
confined_next w v (move.StoreOwn n stamp floor a l at same above least) = with_key _ _ _ _ v l.key _
confined_next w v (move.MovedOwn n a l at moved) = v
confined_next w v (move.Decide n stamp a at all same above) = v
confined_next w v (move.LoadUndo n k a rival at stored) = v
confined_next w v (move.StoreUndo n stamp a rival l at same above) = with_key _ _ _ _ v l.key _
confined_next w v (move.MovedUndo n a rival l at moved) = v
confined_next w v (move.MarkUndone n stamp a rival at none same above) = v
confined_next w v (move.GiveUp n t facts at may) = v
confined_next w v (move.LoadCommits n t d at) = v
confined_next w v (move.StoreCommits n stamp t d c at same above) = v
confined_next w v (move.MovedCommits n t d c at moved) = v
confined_next w v (move.End n statement tid told at) = with_ended _ _ _ _ v n
confined_next w v (move.Vanish n ending r) = with_posted _ _ _ _ v n (Some (owed (w.recoveries n))) (λ d e. (v.owes n d e).0)
confined_next w v (move.There n statement gone at free none) = v
confined_next w v (move.Claim n gone also at free posted) =
    with_posted _ _ _ _ (with_duties _ _ _ _ (with_node _ _ _ _ v gone) n (Next (record { node = gone; all = put gone true also; left = put gone true also }))
    (λ d e. claimed gone also v.nodes d (subst (λ (o : Option (ℕ → Bool)). leaves o d ≡ false) posted (v.posted gone d (or_second (gone == d) (is_listed d v.nodes) e))) e))
    gone None (λ d e. refl)
confined_next w v (move.FindOrphan n duties x d at left active) =
    with_duties _ _ _ _ v n (Reading (without d duties) (record { node = d; tid = x.tid })) (λ i e. without_it duties i d (has_not _ _ _ _ v n (Next duties) at.so_far i e))
confined_next w v (move.FindNone n duties d at left none) =
    with_duties _ _ _ _ v n (Next (without d duties)) (λ i e. without_it duties i d (has_not _ _ _ _ v n (Next duties) at.so_far i e))
confined_next w v (move.ReadLog n duties o at) =
    with_duties _ _ _ _ v n (by_log duties o (w.logs o.tid)) (λ d e. logged duties o (w.logs o.tid) d (has_not _ _ _ _ v n (Reading duties o) at.so_far d e))
confined_next w v (move.LoadLost n k duties o log seen at named new) =
    with_duties _ _ _ _ v n (load_lost w k duties o log seen)
    (λ d e. lost_loaded w k duties o log seen d (has_not _ _ _ _ v n (Stripping duties o log seen None) at.so_far d e))
confined_next w v (move.StoreLost n stamp duties o log seen l at same above) =
    with_key _ _ _ _ (with_duties _ _ _ _ v n (Stripping duties o log (put_at l.key true seen) None) (has_not _ _ _ _ v n (Stripping duties o log seen (Some l)) at.so_far)) l.key _
confined_next w v (move.MovedLost n duties o log seen l at moved) =
    with_duties _ _ _ _ v n (Stripping duties o log seen None) (has_not _ _ _ _ v n (Stripping duties o log seen (Some l)) at.so_far)
confined_next w v (move.MarkLost n stamp duties o log seen at all same above) =
    with_duties _ _ _ _ v n (Finishing duties o false None) (has_not _ _ _ _ v n (Stripping duties o log seen None) at.so_far)
confined_next w v (move.LoadFinish n duties o committed at) =
    with_duties _ _ _ _ v n (load_finish w duties o committed)
    (λ d e. finish_loaded w duties o committed d (has_not _ _ _ _ v n (Finishing duties o committed None) at.so_far d e))
confined_next w v (move.StoreFinish n stamp duties o committed c at same above) =
    with_duties _ _ _ _ v n (Closed duties o) (has_not _ _ _ _ v n (Finishing duties o committed (Some c)) at.so_far)
confined_next w v (move.MovedFinish n duties o committed c at moved) =
    with_duties _ _ _ _ v n (Finishing duties o committed None) (has_not _ _ _ _ v n (Finishing duties o committed (Some c)) at.so_far)
confined_next w v (move.EndLost n duties o at) =
    with_ended _ _ _ _ (with_duties _ _ _ _ v n (Next duties) (has_not _ _ _ _ v n (Closed duties o) at.so_far)) o.node
confined_next w v (move.SayRecovered n statement duties at is_next done) = with_duties _ _ _ _ v n NoDuty (λ d e. (refl, refl))

-- ---- the opening

abbrev pub keys_of : List Write → List Key
keys_of [] = []
keys_of (x ∷ xs) = x.key ∷ keys_of xs

pub unwritten : (k : Key) (ws : List Write) → is_named k (keys_of ws) ≡ false → written k ws ≡ None
unwritten k [] e = refl
unwritten k (x ∷ ws) e = one x.row (same_key x.key k) (written k ws) (or_first (same_key x.key k) (is_named k (keys_of ws)) e) (unwritten k ws (or_second (same_key x.key k) (is_named k (keys_of ws)) e))
  where
    one : {A : Type 0} (y : A) (b : Bool) (o : Option A) → b ≡ false → o ≡ None → last_of (if b then Some y else None) o ≡ None
    one y true o e h = absurd cc
    one y false None e h = refl
    one y false (Some z) e h = absurd cc

pub opens : (layout : Layout) (setup : Setup) (k : Key) → is_named k (keys_of (opening_writes setup.catalog setup.rows)) ≡ false → ((opening_world layout setup).cells k).versions ≡ []
opens layout setup k e = ap opening_versions (unwritten k (opening_writes setup.catalog setup.rows) e)

abbrev pub confined_opening : (layout : Layout) (setup : Setup) → ConfinedIn (opening_world layout setup)
confined_opening layout setup =
    record {
      keys = keys_of (opening_writes setup.catalog setup.rows);
      nodes = [];
      stored = opens layout setup;
      begun = λ d e. refl;
      owes = λ n d e. (refl, refl);
      posted = λ n d e. refl;
    }

-- the catalog stays as it is
pub catalog_next : (w : World) (m : Move w) → (next w m).catalog ≡ w.catalog
catalog_next w (move.Ask n at) = refl
catalog_next w (move.Draw n seen at room) = refl
catalog_next w (move.Bring n seen low at) = refl
catalog_next w (move.Begin n tid seen floor at number low) = refl
catalog_next w (move.Learn n manager seen floor r told low) = refl
catalog_next w (move.Look n t facts looked at) = refl
catalog_next w (move.Cover n t facts covers looked at right) = refl
catalog_next w (move.SayBegun n statement t facts at fresh) = refl
catalog_next w (move.SayNested n statement b t facts at opened nested) = refl
catalog_next w (move.SayOutside n statement b at outside) = refl
catalog_next w (move.SaySelect n statement query told t facts at takes means) = refl
catalog_next w (move.SayChange n statement edit told own t facts at takes suits means) = refl
catalog_next w (move.Try n stamp t facts at may some absent above) = refl
catalog_next w (move.TryNothing n t facts at may none) = refl
catalog_next w (move.LoadOwn n k a at own new none) = refl
catalog_next w (move.Clash n place rival o a at own new strange) = refl
catalog_next w (move.StoreOwn n stamp floor a l at same above least) = refl
catalog_next w (move.MovedOwn n a l at moved) = refl
catalog_next w (move.Decide n stamp a at all same above) = refl
catalog_next w (move.LoadUndo n k a rival at stored) = refl
catalog_next w (move.StoreUndo n stamp a rival l at same above) = refl
catalog_next w (move.MovedUndo n a rival l at moved) = refl
catalog_next w (move.MarkUndone n stamp a rival at none same above) = refl
catalog_next w (move.GiveUp n t facts at may) = refl
catalog_next w (move.LoadCommits n t d at) = refl
catalog_next w (move.StoreCommits n stamp t d c at same above) = refl
catalog_next w (move.MovedCommits n t d c at moved) = refl
catalog_next w (move.End n statement tid told at) = refl
catalog_next w (move.Vanish n ending r) = refl
catalog_next w (move.There n statement gone at free none) = refl
catalog_next w (move.Claim n gone also at free posted) = refl
catalog_next w (move.FindOrphan n duties x d at left active) = refl
catalog_next w (move.FindNone n duties d at left none) = refl
catalog_next w (move.ReadLog n duties o at) = refl
catalog_next w (move.LoadLost n k duties o log seen at named new) = refl
catalog_next w (move.StoreLost n stamp duties o log seen l at same above) = refl
catalog_next w (move.MovedLost n duties o log seen l at moved) = refl
catalog_next w (move.MarkLost n stamp duties o log seen at all same above) = refl
catalog_next w (move.LoadFinish n duties o committed at) = refl
catalog_next w (move.StoreFinish n stamp duties o committed c at same above) = refl
catalog_next w (move.MovedFinish n duties o committed c at moved) = refl
catalog_next w (move.EndLost n duties o at) = refl
catalog_next w (move.SayRecovered n statement duties at is_next done) = refl
