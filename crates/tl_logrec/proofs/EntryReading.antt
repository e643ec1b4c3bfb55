-- An entry that is read is the entry that was spelled, and what was spelled is read again.
use Rattle.std.proofs.Common.{◌≡◌, ℕ, zero, suc, ◌^◌, ◌<◌, ◌≤◌, true, leb, List, [], ◌∷◌, ◌++◌, length, Some, None, refl, sym, ap, subst, ◌∙◌, append_assoc}
use Rattle.std.specs.Prelude.{◌&&◌}
use Rattle.std.specs.Int.{w32, w64, to_be_bytes}
use Rattle.std.specs.List.{All, AllByRecursion, flat_map}
use Rattle.std.proofs.lemmas.Bool.{and_from, and_parts, le-leb, leb-true}
use Rattle.std.proofs.lemmas.List.{append-nil}
use Rattle.std.proofs.lemmas.List.Elements.{All-from_recursion, recursion_from_All}
use Rattle.tl_codec.specs.declared.fault.ReadFault.{ReadFault}
use Rattle.tl_codec.specs.declared.fault.ReadFault.TheVariants as fault
use Rattle.tl_codec.specs.Reading.{◌>>=◌, Fails, read_byte, read_many, read_number, read_sized}
use Rattle.tl_codec.specs.Taken.{IsBytes, Takes, sized}
use Rattle.tl_codec.specs.Sized.{sized_again, sized_takes}
use Rattle.tl_logrec.specs.Keys.{IsKey}
use Rattle.tl_codec.specs.Fields.{IsBytes-rest, Takes-then, bind_some, byte_takes, number_again, number_takes, passed, some_is, wide32, wide64}
use Rattle.tl_codec.proofs.Many.{many_again, many_taken}
use Rattle.tl_logrec.specs.declared.entry.Flag.{Flag}
use Rattle.tl_logrec.specs.declared.entry.Flag.TheVariants as flag
use Rattle.tl_logrec.specs.declared.entry.LogEntry.{LogEntry}
use Rattle.tl_logrec.specs.Entry.{FitsEntry, are_rising, flag_byte, spelling}
use Rattle.tl_logrec.specs.Reading.{node_of, read_entry, read_flag, read_mark, rising_keys}

mark_taken : (bytes : List ℕ) (x : ℕ × List ℕ) → IsBytes bytes → read_mark bytes ≡ Some x → Takes bytes (1 ∷ []) x.1
unfolding read_mark
mark_taken [] x fits e = absurd cc
mark_taken (zero ∷ bytes) x fits e = absurd cc
mark_taken (suc zero ∷ bytes) x fits e = subst (λ (y : ℕ × List ℕ). Takes (1 ∷ bytes) (1 ∷ []) y.1) (some_is (1, bytes) x e) (record { parts = refl; rest_fits = IsBytes-rest 1 bytes fits })
mark_taken (suc (suc byte) ∷ bytes) x fits e = absurd cc

node_is : (number node : ℕ) → node_of number ≡ Some node → (number ≡ node) × ((1 ≤ node) × (node ≤ 16))
node_is number node e =
    let h = passed (leb 1 number && leb number 16) number node e in
    let both = and_parts (leb 1 number) (leb number 16) h.0 in
    (h.1, subst (λ (n : ℕ). (1 ≤ n) × (n ≤ 16)) h.1 (leb-true _ _ both.0, leb-true _ _ both.1))

node_again : (node : ℕ) → 1 ≤ node → node ≤ 16 → node_of node ≡ Some node
node_again node low high = rw (and_from _ _ (le-leb 1 node low) (le-leb node 16 high)) refl

flag_taken : (bytes : List ℕ) (x : Flag × List ℕ) → IsBytes bytes → read_flag bytes ≡ Some x → Takes bytes (flag_byte x.0 ∷ []) x.1
unfolding read_flag
flag_taken [] x fits e = absurd cc
flag_taken (zero ∷ bytes) x fits e = subst (λ (y : Flag × List ℕ). Takes (0 ∷ bytes) (flag_byte y.0 ∷ []) y.1) (some_is (flag.Trying, bytes) x e) (record { parts = refl; rest_fits = IsBytes-rest 0 bytes fits })
flag_taken (suc zero ∷ bytes) x fits e = subst (λ (y : Flag × List ℕ). Takes (1 ∷ bytes) (flag_byte y.0 ∷ []) y.1) (some_is (flag.Decided, bytes) x e) (record { parts = refl; rest_fits = IsBytes-rest 1 bytes fits })
flag_taken (suc (suc zero) ∷ bytes) x fits e = subst (λ (y : Flag × List ℕ). Takes (2 ∷ bytes) (flag_byte y.0 ∷ []) y.1) (some_is (flag.Undone, bytes) x e) (record { parts = refl; rest_fits = IsBytes-rest 2 bytes fits })
flag_taken (suc (suc (suc byte)) ∷ bytes) x fits e = absurd cc

flag_again : (f : Flag) (rest : List ℕ) → read_flag (flag_byte f ∷ rest) ≡ Some (f, rest)
unfolding read_flag
flag_again flag.Trying rest = refl
flag_again flag.Decided rest = refl
flag_again flag.Undone rest = refl

abbrev IsRead : List ℕ → LogEntry → Type 0
IsRead bytes entry = (bytes ≡ spelling entry) × FitsEntry entry

abbrev entry_of : ℕ → ℕ → Flag → List (List ℕ) → LogEntry
entry_of tid node f writes = record { tid = tid; node = node; flag = f; writes = writes }

-- from the parts of what was read
read_from : (bytes : List ℕ) (tid number node : ℕ) (f : Flag) (count : ℕ) (front keys : List (List ℕ)) (rest : List ℕ)
    → Takes bytes ((1 ∷ []) ++ to_be_bytes w64 tid ++ (number ∷ []) ++ (flag_byte f ∷ []) ++ to_be_bytes w32 count ++ flat_map sized front) rest
    → tid < 2 ^ 64 → (number ≡ node) × ((1 ≤ node) × (node ≤ 16)) → count < 2 ^ 32 → (length front ≡ count) × AllByRecursion IsKey front → (front ≡ keys) × (rest ≡ []) → are_rising keys ≡ true
    → (entry : LogEntry) → entry_of tid node f keys ≡ entry → IsRead bytes entry
read_from bytes tid number node f count front keys rest taken fits named few many all rising entry is =
    let size : length keys ≡ count = ap (λ (ks : List (List ℕ)). length ks) (sym all.0) ∙ many.0 in
    let text : List ℕ = (1 ∷ []) ++ to_be_bytes w64 tid ++ (number ∷ []) ++ (flag_byte f ∷ []) ++ to_be_bytes w32 count ++ flat_map sized front in
    let whole : bytes ≡ text = taken.parts ∙ ap (λ (r : List ℕ). text ++ r) all.1 ∙ append-nil text in
    let spelled : bytes ≡ spelling (entry_of tid node f keys) = rw (size, ← all.0, ← named.0) whole in
    let short : All IsKey keys = subst (λ (ks : List (List ℕ)). All IsKey ks) all.0 (All-from_recursion IsKey front many.1) in
    subst (IsRead bytes) is (spelled, record { tid = fits; least = named.1.0; greatest = named.1.1; writes = record { count = rw size few; short = short; rising = rising } })

rising_is : (x : List (List ℕ) × List ℕ) (keys : List (List ℕ)) → rising_keys x ≡ Some keys → (x.0 ≡ keys) × (x.1 ≡ []) × (are_rising keys ≡ true)
rising_is (front, []) keys e = let h = passed (are_rising front) front keys e in (h.1, refl, subst (λ (ks : List (List ℕ)). are_rising ks ≡ true) h.1 h.0)
rising_is (front, byte ∷ rest) keys e = absurd cc

pub entry_taken : (bytes : List ℕ) (entry : LogEntry) → IsBytes bytes → read_entry bytes ≡ Some entry → IsRead bytes entry
unfolding read_entry
entry_taken bytes entry fits e =
    let m = bind_some (read_mark bytes) (λ mark. read_number w64 mark.1 >>= λ tid. read_byte tid.1 >>= λ number. node_of number.0 >>= λ node. read_flag number.1 >>= λ f. read_number w32 f.1 >>= λ count. read_many read_sized count.0 count.1 >>= λ writes. rising_keys writes >>= λ keys. Some (entry_of tid.0 node f.0 keys)) entry e in
    let a = bind_some (read_number w64 m.0.1) (λ tid. read_byte tid.1 >>= λ number. node_of number.0 >>= λ node. read_flag number.1 >>= λ f. read_number w32 f.1 >>= λ count. read_many read_sized count.0 count.1 >>= λ writes. rising_keys writes >>= λ keys. Some (entry_of tid.0 node f.0 keys)) entry m.2 in
    let b = bind_some (read_byte a.0.1) (λ number. node_of number.0 >>= λ node. read_flag number.1 >>= λ f. read_number w32 f.1 >>= λ count. read_many read_sized count.0 count.1 >>= λ writes. rising_keys writes >>= λ keys. Some (entry_of a.0.0 node f.0 keys)) entry a.2 in
    let v = bind_some (node_of b.0.0) (λ node. read_flag b.0.1 >>= λ f. read_number w32 f.1 >>= λ count. read_many read_sized count.0 count.1 >>= λ writes. rising_keys writes >>= λ keys. Some (entry_of a.0.0 node f.0 keys)) entry b.2 in
    let d = bind_some (read_flag b.0.1) (λ f. read_number w32 f.1 >>= λ count. read_many read_sized count.0 count.1 >>= λ writes. rising_keys writes >>= λ keys. Some (entry_of a.0.0 v.0 f.0 keys)) entry v.2 in
    let n = bind_some (read_number w32 d.0.1) (λ count. read_many read_sized count.0 count.1 >>= λ writes. rising_keys writes >>= λ keys. Some (entry_of a.0.0 v.0 d.0.0 keys)) entry d.2 in
    let w = bind_some (read_many read_sized n.0.0 n.0.1) (λ writes. rising_keys writes >>= λ keys. Some (entry_of a.0.0 v.0 d.0.0 keys)) entry n.2 in
    let k = bind_some (rising_keys w.0) (λ keys. Some (entry_of a.0.0 v.0 d.0.0 keys)) entry w.2 in
    let r = rising_is w.0 k.0 k.1 in
    let is : entry_of a.0.0 v.0 d.0.0 k.0 ≡ entry = some_is (entry_of a.0.0 v.0 d.0.0 k.0) entry k.2 in
    let mark = mark_taken bytes m.0 fits m.1 in
    let tid = number_takes w64 (2 ^ 64) wide64 m.0.1 a.0.0 a.0.1 mark.rest_fits a.1 in
    let node = byte_takes a.0.1 b.0.0 b.0.1 tid.0.rest_fits b.1 in
    let named = node_is b.0.0 v.0 v.1 in
    let f = flag_taken b.0.1 d.0 node.0.rest_fits d.1 in
    let count = number_takes w32 (2 ^ 32) wide32 d.0.1 n.0.0 n.0.1 f.rest_fits n.1 in
    let many = many_taken sized IsKey read_sized sized_takes n.0.0 n.0.1 w.0 count.0.rest_fits w.1 in
    let t1 = Takes-then bytes (1 ∷ []) m.0.1 (to_be_bytes w64 a.0.0) a.0.1 mark tid.0 in
    let t2 = Takes-then bytes ((1 ∷ []) ++ to_be_bytes w64 a.0.0) a.0.1 (b.0.0 ∷ []) b.0.1 t1 node.0 in
    let t3 = Takes-then bytes ((1 ∷ []) ++ to_be_bytes w64 a.0.0 ++ (b.0.0 ∷ [])) b.0.1 (flag_byte d.0.0 ∷ []) d.0.1 t2 f in
    let t4 = Takes-then bytes ((1 ∷ []) ++ to_be_bytes w64 a.0.0 ++ (b.0.0 ∷ []) ++ (flag_byte d.0.0 ∷ [])) d.0.1 (to_be_bytes w32 n.0.0) n.0.1 t3 count.0 in
    let t5 = Takes-then bytes ((1 ∷ []) ++ to_be_bytes w64 a.0.0 ++ (b.0.0 ∷ []) ++ (flag_byte d.0.0 ∷ []) ++ to_be_bytes w32 n.0.0) n.0.1 (flat_map sized w.0.0) w.0.1 t4 many.0 in
    read_from bytes a.0.0 b.0.0 v.0 d.0.0 n.0.0 w.0.0 k.0 w.0.1 t5 tid.1 named count.1 (many.1, many.2) (r.0, r.1) r.2 entry is

pub entry_again : (entry : LogEntry) → FitsEntry entry → read_entry (spelling entry) ≡ Some entry
unfolding read_entry read_mark read_byte
entry_again entry fits =
    let regrouped : spelling entry ≡ 1 ∷ (to_be_bytes w64 entry.tid ++ (entry.node ∷ flag_byte entry.flag ∷ (to_be_bytes w32 (length entry.writes) ++ flat_map sized entry.writes))) = simp append_assoc in
    let tid = number_again w64 (2 ^ 64) wide64 entry.tid (entry.node ∷ flag_byte entry.flag ∷ (to_be_bytes w32 (length entry.writes) ++ flat_map sized entry.writes)) fits.tid in
    let node = node_again entry.node fits.least fits.greatest in
    let f = flag_again entry.flag (to_be_bytes w32 (length entry.writes) ++ flat_map sized entry.writes) in
    let count = number_again w32 (2 ^ 32) wide32 (length entry.writes) (flat_map sized entry.writes) fits.writes.count in
    let writes : read_many read_sized (length entry.writes) (flat_map sized entry.writes) ≡ Some (entry.writes, []) =
    ap (read_many read_sized (length entry.writes)) (sym (append-nil (flat_map sized entry.writes))) ∙ many_again sized IsKey read_sized sized_again entry.writes [] (recursion_from_All IsKey entry.writes fits.writes.short) in
    ap read_entry regrouped ∙ rw (tid, node, f, count, writes, fits.writes.rising) refl

pub is_bad : (bytes : List ℕ) (e : ReadFault) → e ≡ fault.Bad → Fails e (read_entry bytes) → (entry : LogEntry) → FitsEntry entry → bytes ≡ spelling entry → ⊥
is_bad bytes f bad fails entry fits e =
    let none : read_entry bytes ≡ None = subst (λ (x : ReadFault). Fails x (read_entry bytes)) bad fails in
    let some : read_entry bytes ≡ Some entry = ap read_entry e ∙ entry_again entry fits in
    cc
