-- Where each record was written, once a commit is added.
use Rattle.std.proofs.Common.{◌≡◌, ℕ, ◌+◌, ◌<◌, get_or, Bool, true, false, cond, List, [], ◌∷◌, ◌++◌, length, drop, refl, sym, ap, ◌∙◌, append_assoc, append-nil, arith}
use Rattle.std.proofs.lemmas.List.{drop_more}
use Rattle.std.specs.FinMap as finmap
use Rattle.std.specs.Prelude.{Option, Some, None, unwrap_or}
use Rattle.std.specs.Cmp.Lexicographic.{nat_list_cmp_total}
use Rattle.tl_write.specs.Own.{key_cmp}
use Rattle.tl_si.proofs.Laid.{Key}
use Rattle.tl_write.specs.declared.write.Write.{Write}
use Rattle.tl_isolation.specs.declared.state.Commit.{Commit}
use Rattle.tl_si.specs.declared.past.Place.{Place}
use Rattle.tl_si.specs.Places.{AreFound, HasMore, Records, places_from, places_in, places_of, same_key}
use Rattle.tl_write.proofs.Keys.{key_eq, key_turned}

pub places_push : (n : ℕ) (key : List ℕ) (cs : List Commit) (c : Commit)
    → places_from n key (cs ++ c ∷ []) ≡ places_from n key cs ++ places_in (n + length cs) 0 key c.writes
places_push n key [] c = append-nil (places_in n 0 key c.writes) ∙ ap (λ (m : ℕ). places_in m 0 key c.writes) (omega arith)
places_push n key (d ∷ cs) c =
    let next : (n + 1) + length cs ≡ n + length (d ∷ cs) = omega arith in
    ap (λ (ps : List Place). places_in n 0 key d.writes ++ ps) (places_push (n + 1) key cs c)
    ∙ sym (append_assoc (places_in n 0 key d.writes) (places_from (n + 1) key cs) (places_in ((n + 1) + length cs) 0 key c.writes))
    ∙ ap (λ (m : ℕ). places_from n key (d ∷ cs) ++ places_in m 0 key c.writes) next

pub found_more : (commits : List Commit) (c : Commit) (records more : Records) → AreFound commits records
    → ((key : List ℕ) → places_of more key ≡ places_of records key ++ places_in (length commits) 0 key c.writes)
    → AreFound (commits ++ c ∷ []) more
found_more commits c records more found h key =
    h key ∙ ap (λ (ps : List Place). ps ++ places_in (length commits) 0 key c.writes) (found key)
    ∙ ap (λ (n : ℕ). places_from 0 key commits ++ places_in n 0 key c.writes) start ∙ sym (places_push 0 key commits c)
  where
    start : length commits ≡ 0 + length commits
    start = omega arith

-- the places so far and those of the writes that are left
abbrev pub IsPlaced : ℕ → List Write → Records → ℕ → Records → Type 0
IsPlaced commit writes records at laid =
    (key : List ℕ) → places_of laid key ++ places_in commit at key (drop at writes) ≡ places_of records key ++ places_in commit 0 key writes

pub placed_more : (commit : ℕ) (writes : List Write) (records laid more : Records) (at : ℕ) (w : Write) → at < length writes → w ≡ get_or writes at w
    → IsPlaced commit writes records at laid → HasMore laid w.key (record { commit = commit; at = at }) more
    → IsPlaced commit writes records (at + 1) more
placed_more commit writes records laid more at w h is placed has key =
    let one : List Place = if_same key in
    ap (λ (ps : List Place). ps ++ places_in commit (at + 1) key (drop (at + 1) writes)) (has key)
    ∙ append_assoc (places_of laid key) one (places_in commit (at + 1) key (drop (at + 1) writes))
    ∙ ap (λ (ws : List Write). places_of laid key ++ places_in commit at key ws) (sym (drop_read writes at w h is))
    ∙ placed key
  where
    if_same : List ℕ → List Place
    if_same key = cond (same_key w.key key) (record { commit = commit; at = at } ∷ []) []

    drop_read : (xs : List Write) (i : ℕ) (x : Write) → i < length xs → x ≡ get_or xs i x → drop i xs ≡ x ∷ drop (i + 1) xs
    drop_read xs i x h p = drop_more xs i x h ∙ ap (λ (y : Write). y ∷ drop (i + 1) xs) (sym p)

pub none_found : AreFound [] finmap.empty
none_found key = ap (λ (o : Option (List Place)). unwrap_or o []) (finmap.get-empty key_cmp key)

-- one place more, put in the place of those that were there
pub has_more : (records removed more : Records) (key : Key) (found : List Place) (place : Place) → removed ≡ finmap.remove records key
    → found ≡ places_of records key → more ≡ finmap.insert removed key (found ++ place ∷ []) → HasMore records key place more
has_more records removed more key found place r f m k =
    ap (λ (x : Records). places_of x k) m
    ∙ ap (λ (o : Option (List Place)). unwrap_or o []) (finmap.get-insert nat_list_cmp_total removed key (found ++ place ∷ []) k)
    ∙ ap (λ (o : Option (List Place)). unwrap_or (cond (same_key k key) (Some (found ++ place ∷ [])) o) [])
    (ap (λ (x : Records). finmap.get x k) r ∙ finmap.get-remove nat_list_cmp_total records key k)
    ∙ by (same_key k key) refl
    ∙ ap (λ (b : Bool). places_of records k ++ cond b (place ∷ []) []) (key_turned k key)
  where
    by : (b : Bool) → same_key k key ≡ b
        → unwrap_or (cond b (Some (found ++ place ∷ [])) (cond b None (finmap.get records k))) [] ≡ places_of records k ++ cond b (place ∷ []) []
    by true e = ap (λ (ps : List Place). ps ++ place ∷ []) (f ∙ ap (places_of records) (sym (key_eq k key e)))
    by false e = sym (append-nil (places_of records k))
