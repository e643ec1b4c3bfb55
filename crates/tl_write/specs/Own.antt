-- The own writes of a transaction: lists of writes, in rising order of record keys.
use Rattle.std.specs.Prelude.{ℕ, ◌+◌, Bool, true, ◌&&◌, List, [], ◌∷◌, length, if◌then◌else◌}
use Rattle.std.specs.declared.cmp.Ordering.{Ordering}
use Rattle.std.specs.Ordering.{nat_cmp, match_ordering, is_eq, is_lt}
use Rattle.std.specs.Cmp.Lexicographic.{slice_cmp}
use Rattle.std.specs.List.{list_all, list_any}
use Rattle.tl_write.specs.declared.write.Write.{Write}

-- the order of record keys, by bytes
abbrev pub key_cmp : List ℕ → List ℕ → Ordering
key_cmp = slice_cmp nat_cmp

-- whether each key is below those after it
abbrev pub is_rising : List Write → Bool
is_rising [] = true
is_rising (w ∷ ws) = list_all (λ x. is_lt (key_cmp w.key x.key)) ws && is_rising ws

-- a write takes its place among writes in rising order of keys, where one of its key stood before too
abbrev pub put_write : Write → List Write → List Write
put_write w [] = w ∷ []
put_write w (x ∷ xs) = match_ordering (key_cmp w.key x.key) (w ∷ x ∷ xs) (w ∷ xs) (x ∷ put_write w xs)

-- the first of these writes takes its place, and then those after it
abbrev pub put_writes : List Write → List Write → List Write
put_writes [] own = own
put_writes (w ∷ ws) own = put_writes ws (put_write w own)

-- whether a write has the key
abbrev pub is_written : List ℕ → List Write → Bool
is_written key writes = list_any (λ w. is_eq (key_cmp w.key key)) writes

-- one for a record that own doesn't write
abbrev pub fresh : List Write → List ℕ → ℕ
fresh own key = if is_written key own then 0 else 1

-- how many of the writes are of records that own doesn't write
abbrev pub fresh_count : List Write → List Write → ℕ
fresh_count own [] = 0
fresh_count own (w ∷ ws) = fresh own w.key + fresh_count own ws

-- how many records own and the writes after it write
abbrev pub record_count : List Write → List Write → ℕ
record_count own writes = length own + fresh_count own writes
