-- Reading from left to right: what is read, and the bytes after it.
use Rattle.std.specs.Prelude.{◌≡◌, ℕ, zero, suc, Bool, true, false, List, [], ◌∷◌, length, take, drop, Option, Some, None, Result, Ok, Err, nat_lt, if◌then◌else◌}
use Rattle.std.specs.Int.{Width, w16, byte_len, from_be_bytes}
use Rattle.tl_codec.specs.declared.fault.ReadFault.{ReadFault}
use Rattle.tl_codec.specs.declared.fault.ReadFault.TheVariants as fault

infixl 10 ◌>>=◌
abbrev pub ◌>>=◌ : {A B : Type 0} → Option A → (A → Option B) → Option B
None >>= f = None
(Some x) >>= f = f x

-- the bytes are refused where reading gives nothing
abbrev pub Fails : {Y : Type 0} → ReadFault → Option Y → Type 0
Fails fault.Bad read = read ≡ None
Fails fault.NoMemory read = Unit {0}

-- what a function returned, seen by view, is what reading gives, unless memory ran out
abbrev pub Gives : {X Y : Type 0} → (X → Y) → Result X ReadFault → Option Y → Type 0
Gives view (Ok x) read = read ≡ Some (view x)
Gives view (Err e) read = Fails e read

-- a number, its highest byte first
abbrev pub read_number : Width → List ℕ → Option (ℕ × List ℕ)
read_number w bytes = if nat_lt (length bytes) (byte_len w) then None else Some (from_be_bytes w (take (byte_len w) bytes), drop (byte_len w) bytes)

unfoldable pub read_byte : List ℕ → Option (ℕ × List ℕ)
read_byte [] = None
read_byte (byte ∷ rest) = Some (byte, rest)

-- 0 for false and 1 for true
unfoldable pub read_flag : List ℕ → Option (Bool × List ℕ)
read_flag [] = None
read_flag (zero ∷ rest) = Some (false, rest)
read_flag (suc zero ∷ rest) = Some (true, rest)
read_flag (suc (suc byte) ∷ rest) = None

-- so many bytes
unfoldable pub read_span : ℕ → List ℕ → Option (List ℕ × List ℕ)
read_span count bytes = if nat_lt (length bytes) count then None else Some (take count bytes, drop count bytes)

-- bytes behind their length
unfoldable pub read_sized : List ℕ → Option (List ℕ × List ℕ)
read_sized bytes = do
  size ← read_number w16 bytes
  read_span size.0 size.1

-- so many items, one after the other
unfoldable pub read_many : {A : Type 0} → (List ℕ → Option (A × List ℕ)) → ℕ → List ℕ → Option (List A × List ℕ)
read_many read zero bytes = Some ([], bytes)
read_many read (suc count) bytes = do
  first ← read bytes
  others ← read_many read count first.1
  Some (first.0 ∷ others.0, others.1)

-- what was read, where nothing is left
abbrev pub all_read : {A : Type 0} → A × List ℕ → Option A
all_read (x, []) = Some x
all_read (x, byte ∷ rest) = None
