-- Reading a text byte after byte, as a loop does.
use Rattle.std.proofs.Common.{◌≡◌, ℕ, zero, suc, ◌<◌, Bool, true, false, cond, eqb, List, [], ◌∷◌, ◌++◌, length, Option, Some, None, unwrap_or, refl, sym, ap, ◌∙◌, append_assoc, arith}
use Rattle.std.proofs.lemmas.List.{append-nil}
use Rattle.tl_codec.specs.declared.fault.ReadFault.{ReadFault}
use Rattle.tl_codec.specs.declared.fault.ReadFault.TheVariants as fault
use Rattle.tl_codec.specs.Reading.{◌>>=◌, Fails}
use Rattle.tl_values.specs.Reading.{read_byte, read_escaped}
use Rattle.tl_codec.specs.Fields.{some_is}

-- what was read before, and what is still read
abbrev pub with_front : List ℕ → Option (List ℕ × List ℕ) → Option (List ℕ × List ℕ)
with_front front read = read >>= λ x. Some (front ++ x.0, x.1)

regroup : (front : List ℕ) (b : ℕ) (read : Option (List ℕ × List ℕ)) → with_front front (read >>= λ x. Some (b ∷ x.0, x.1)) ≡ with_front (front ++ b ∷ []) read
regroup front b (Some x) = ap (λ (bs : List ℕ). Some (bs, x.1)) (simp append_assoc)
regroup front b None = refl

abbrev read_as : Option ℕ → List ℕ → Option (Option ℕ × List ℕ)
read_as o rest = Some (o, rest)

byte_is : (a b : ℕ) (r s : List ℕ) → read_as (Some a) r ≡ read_as (Some b) s → a ≡ b
byte_is a b r s e = ap (λ (p : Option ℕ × List ℕ). unwrap_or p.0 0) (some_is (Some a, r) (Some b, s) e)

rest_is : (o p : Option ℕ) (r s : List ℕ) → read_as o r ≡ read_as p s → r ≡ s
rest_is o p r s e = ap (λ (x : Option ℕ × List ℕ). x.1) (some_is (o, r) (p, s) e)

no_end : {P : Type 0} (b : ℕ) (r s : List ℕ) → read_as None r ≡ read_as (Some b) s → P
no_end b r s e = let h = ap (λ (x : Option ℕ × List ℕ). x.0) (some_is (None, r) (Some b, s) e) in absurd cc

no_byte : {P : Type 0} (b : ℕ) (r s : List ℕ) → read_as (Some b) r ≡ read_as None s → P
no_byte b r s e = no_end b s r (sym e)

abbrev after_mark : Bool → Bool → List ℕ → Option (Option ℕ × List ℕ)
after_mark is_end is_zero rest = cond is_end (read_as None rest) (cond is_zero (read_as (Some 0) rest) None)

abbrev pub text_after : Bool → Bool → List ℕ → Option (List ℕ × List ℕ)
text_after is_end is_zero rest = cond is_end (Some ([], rest)) (cond is_zero (read_escaped rest >>= λ text. Some (0 ∷ text.0, text.1)) None)

-- one byte more
pub record GoesOn (bytes : List ℕ) (b : ℕ) (rest : List ℕ) : Type 0 where
  pub reads : read_escaped bytes ≡ (read_escaped rest >>= λ x. Some (b ∷ x.0, x.1))
  pub shorter : length rest < length bytes

mark_more : (is_end is_zero : Bool) (b : ℕ) (more rest : List ℕ) → after_mark is_end is_zero more ≡ read_as (Some b) rest
    → (text_after is_end is_zero more ≡ (read_escaped rest >>= λ x. Some (b ∷ x.0, x.1))) × (rest ≡ more)
mark_more true z b more rest e = no_end b more rest e
mark_more false true b more rest e =
    let b-is = byte_is 0 b more rest e in
    let rest-is = rest_is (Some 0) (Some b) more rest e in
    (rw (← b-is, ← rest-is) refl, sym rest-is)
mark_more false false b more rest e = absurd cc

byte_more : (bytes : List ℕ) (b : ℕ) (rest : List ℕ) → read_byte bytes ≡ Some (Some b, rest) → GoesOn bytes b rest
unfolding read_byte read_escaped
byte_more [] b rest e = absurd cc
byte_more (zero ∷ []) b rest e = absurd cc
byte_more (zero ∷ mark ∷ more) b rest e =
    let m = mark_more (eqb mark 0) (eqb mark 255) b more rest e in
    record { reads = m.0; shorter = rw m.1 (omega arith) }
byte_more (suc c ∷ more) b rest e =
    let b-is = byte_is (suc c) b more rest e in
    let rest-is = rest_is (Some (suc c)) (Some b) more rest e in
    rw (← b-is, ← rest-is) (record { reads = refl; shorter = omega arith })

mark_end : (is_end is_zero : Bool) (more rest : List ℕ) → after_mark is_end is_zero more ≡ read_as None rest → text_after is_end is_zero more ≡ Some ([], rest)
mark_end true z more rest e = ap (λ (r : List ℕ). Some ([], r)) (rest_is None None more rest e)
mark_end false true more rest e = no_byte 0 more rest e
mark_end false false more rest e = absurd cc

byte_end : (bytes rest : List ℕ) → read_byte bytes ≡ Some (None, rest) → read_escaped bytes ≡ Some ([], rest)
unfolding read_byte read_escaped
byte_end [] rest e = absurd cc
byte_end (zero ∷ []) rest e = absurd cc
byte_end (zero ∷ mark ∷ more) rest e = mark_end (eqb mark 0) (eqb mark 255) more rest e
byte_end (suc c ∷ more) rest e = no_byte (suc c) more rest e

mark_none : (is_end is_zero : Bool) (more : List ℕ) → after_mark is_end is_zero more ≡ None → text_after is_end is_zero more ≡ None
mark_none true z more e = absurd cc
mark_none false true more e = absurd cc
mark_none false false more e = refl

byte_none : (bytes : List ℕ) → read_byte bytes ≡ None → read_escaped bytes ≡ None
unfolding read_byte read_escaped
byte_none [] e = refl
byte_none (zero ∷ []) e = refl
byte_none (zero ∷ mark ∷ more) e = mark_none (eqb mark 0) (eqb mark 255) more e
byte_none (suc c ∷ more) e = absurd cc

-- ---- a turn of the loop

pub goes_on : (front bytes : List ℕ) (b : ℕ) (rest : List ℕ) (total : Option (List ℕ × List ℕ)) → read_byte bytes ≡ Some (Some b, rest) → with_front front (read_escaped bytes) ≡ total → with_front (front ++ b ∷ []) (read_escaped rest) ≡ total
goes_on front bytes b rest total e so_far =
    sym (regroup front b (read_escaped rest)) ∙ ap (with_front front) (sym (byte_more bytes b rest e).reads) ∙ so_far

pub shorter : (bytes : List ℕ) (b : ℕ) (rest : List ℕ) → read_byte bytes ≡ Some (Some b, rest) → length rest < length bytes
shorter bytes b rest e = (byte_more bytes b rest e).shorter

pub is_done : (front bytes rest : List ℕ) (total : Option (List ℕ × List ℕ)) → read_byte bytes ≡ Some (None, rest) → with_front front (read_escaped bytes) ≡ total → total ≡ Some (front, rest)
is_done front bytes rest total e so_far =
    sym so_far ∙ ap (with_front front) (byte_end bytes rest e) ∙ ap (λ (bs : List ℕ). Some (bs, rest)) (append-nil front)

pub ends : (e : ReadFault) (front bytes : List ℕ) (total : Option (List ℕ × List ℕ)) → Fails e (read_byte bytes) → with_front front (read_escaped bytes) ≡ total → Fails e total
ends fault.NoMemory front bytes total h so_far = tt
ends fault.Bad front bytes total h so_far = sym so_far ∙ ap (with_front front) (byte_none bytes h)
