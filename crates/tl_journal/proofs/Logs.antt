-- One event more: the logs of the places, the entries, and who has vanished.
use Rattle.std.proofs.Common.{◌≡◌, ℕ, ◌<◌, Bool, true, false, List, [], ◌∷◌, ◌++◌, append_assoc, append-nil, refl, sym, ap, ◌∙◌, subst}
use Rattle.std.specs.Prelude.{◌||◌, flat_map}
use Rattle.std.specs.List.{AllByRecursion, list_any}
use Rattle.std.proofs.lemmas.Bool.{eq-eqb}
use Rattle.tl_base.specs.Along.{Along}
use Rattle.tl_base.specs.declared.place.PlaceId.TheVariants as place
use Rattle.tl_base.specs.declared.place.Settings.{Settings}
use Rattle.tl_schema.specs.declared.catalog.Catalog.{Catalog}
use Rattle.tl_schema.specs.declared.catalog.Setup.{Setup}
use Rattle.tl_manager.specs.declared.request.ManagerReply.{ManagerReply}
use Rattle.tl_manager.specs.declared.request.ManagerRequest.{ManagerRequest}
use Rattle.tl_manager.specs.declared.request.Reply.TheVariants as reply
use Rattle.tl_manager.specs.declared.request.Request.TheVariants as request
use Rattle.tl_manager.specs.Serves.{Call as ManagerCall, Serves as ManagerReplies}
use Rattle.tl_isolation.specs.declared.entry.Entry.{Entry}
use Rattle.tl_isolation.specs.declared.script.Script.{Script}
use Rattle.tl_isolation.specs.declared.script.Session.{Session}
use Rattle.tl_isolation.specs.declared.state.SiState.{SiState}
use Rattle.tl_isolation.specs.History.{state_after, state_from}
use Rattle.tl_isolation.specs.Script.{setup_of}
use Rattle.tl_isolation.specs.State.{opening_state}
use Rattle.tl_isolation.specs.Step.{after}
use Rattle.tl_journal.specs.declared.event.Event.{Event}
use Rattle.tl_journal.specs.Journal.{AreServed, after_event, entries_told, has_vanished, manager_call, manager_log, node_after, node_from, opening_calls, posts, shard_call, shard_log}
use Rattle.tl_journal.specs.Node.{Node, opening_node}
use Rattle.tl_protocol.proofs.Reached.{state_append}

flat_append : {A B : Type 0} (f : A → List B) (xs ys : List A) → flat_map f (xs ++ ys) ≡ flat_map f xs ++ flat_map f ys
flat_append f [] ys = refl
flat_append f (x ∷ xs) ys = ap (λ zs. f x ++ zs) (flat_append f xs ys) ∙ sym (append_assoc (f x) (flat_map f xs) (flat_map f ys))

flat_one : {A B : Type 0} (f : A → List B) (xs : List A) (x : A) → flat_map f (xs ++ x ∷ []) ≡ flat_map f xs ++ f x
flat_one f xs x = flat_append f xs (x ∷ []) ∙ ap (λ zs. flat_map f xs ++ zs) (append-nil (f x))

pub entries_more : (past : List Event) (e : Event) → entries_told (past ++ e ∷ []) ≡ entries_told past ++ e.entries
entries_more past e = flat_one (λ (x : Event). x.entries) past e

pub manager_more : (m : ℕ) (past : List Event) (e : Event) → manager_log m (past ++ e ∷ []) ≡ manager_log m past ++ manager_call m e.place e.request e.reply
manager_more m past e = flat_one (λ (x : Event). manager_call m x.place x.request x.reply) past e

pub shard_more : (settings : Settings) (setup : Setup) (s : ℕ) (past : List Event) (e : Event)
    → shard_log settings setup s (past ++ e ∷ []) ≡ shard_log settings setup s past ++ shard_call s e.place e.request e.reply
shard_more settings setup s past e =
    let f = λ (x : Event). shard_call s x.place x.request x.reply in
    ap (λ zs. opening_calls settings setup s ++ zs) (flat_one f past e)
    ∙ sym (append_assoc (opening_calls settings setup s) (flat_map f past) (f e))

pub node_more : (settings : Settings) (script : Script) (past : List Event) (e : Event) (session : Session)
    → node_after settings script (past ++ e ∷ []) session ≡ after_event settings script e (node_after settings script past session)
node_more settings script past e session = on (opening_node settings session) past
  where
    on : (node : Node) (past : List Event) → node_from settings script node (past ++ e ∷ []) ≡ after_event settings script e (node_from settings script node past)
    on node [] = refl
    on node (x ∷ xs) = on (after_event settings script x node) xs

any_one : {A : Type 0} (p : A → Bool) (xs : List A) (x : A) → list_any p (xs ++ x ∷ []) ≡ (list_any p xs || p x)
any_one p [] x = on (p x)
  where
    on : (b : Bool) → b || false ≡ b
    on true = refl
    on false = refl
any_one p (y ∷ ys) x = ap (λ b. p y || b) (any_one p ys x) ∙ on (p y) (list_any p ys) (p x)
  where
    on : (a b c : Bool) → a || (b || c) ≡ (a || b) || c
    on true b c = refl
    on false b c = refl

pub vanished_more : (past : List Event) (e : Event) (n : ℕ) → has_vanished (past ++ e ∷ []) n ≡ (has_vanished past n || posts n e)
vanished_more past e n = any_one (posts n) past e

pub state_more : (script : Script) (settings : Settings) (past : List Event) (e : Event)
    → state_after (setup_of script settings) (entries_told (past ++ e ∷ []))
    ≡ state_from script.catalog (state_after (setup_of script settings) (entries_told past)) e.entries
state_more script settings past e =
    ap (λ es. state_from script.catalog (opening_state (setup_of script settings)) es) (entries_more past e)
    ∙ state_append script.catalog (opening_state (setup_of script settings)) (entries_told past) e.entries

-- what holds of all events holds of one in their midst
pub at_event : {A : Type 0} (P : A → Type 0) (past : List A) (x : A) (rest : List A) → AllByRecursion P (past ++ x ∷ rest) → P x
at_event P [] x rest h = h.0
at_event P (y ∷ past) x rest h = at_event P past x rest h.1

-- what holds along a list holds at each of its places
pub along_at : {A : Type 0} (P : List A → A → Type 0) (past xs : List A) (x : A) (ys : List A) → Along P past (xs ++ x ∷ ys) → P (past ++ xs) x
along_at P past [] x ys h = subst (λ p. P p x) (sym (append-nil past)) h.0
along_at P past (y ∷ xs) x ys h = subst (λ p. P p x) (append_assoc past (y ∷ []) xs) (along_at P (past ++ y ∷ []) xs x ys h.1)

-- the reply of an event at a manager follows from what the manager was asked before
pub manager_replies : (script : Script) (settings : Settings) (past : List Event) (e : Event) (rest : List Event) (m : ℕ) (r : ManagerRequest) (p : ManagerReply)
    → AreServed script settings (past ++ e ∷ rest) → m < settings.managers → e.place ≡ place.Manager m → e.request ≡ request.Manager r → e.reply ≡ reply.Manager p
    → ManagerReplies (manager_log m past) (record { request = r; reply = p })
manager_replies script settings past e rest m r p served l at asked told =
    let f = λ (x : Event). manager_call m x.place x.request x.reply in
    let call : ManagerCall = record { request = r; reply = p } in
    let own : manager_call m e.place e.request e.reply ≡ call ∷ [] = rw (at, asked, told, eq-eqb m m refl) refl in
    let whole : manager_log m (past ++ e ∷ rest) ≡ manager_log m past ++ call ∷ flat_map f rest =
    flat_append f past (e ∷ rest) ∙ ap (λ c. manager_log m past ++ (c ++ flat_map f rest)) own in
    along_at ManagerReplies [] (manager_log m past) call (flat_map f rest) (subst (λ log. Along ManagerReplies [] log) whole (served.managers m l))
