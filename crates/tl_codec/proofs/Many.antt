-- Items that are read one after the other: as a loop does, and exactly.
use Rattle.std.proofs.Common.{◌≡◌, ℕ, zero, suc, ◌-◌, ◌+◌, ◌≤◌, ◌<◌, List, [], ◌∷◌, ◌++◌, length, Option, Some, None, refl, sym, ap, subst, ◌∙◌, append_assoc, arith}
use Rattle.std.specs.List.{flat_map, AllByRecursion}
use Rattle.std.proofs.lemmas.List.{append-nil}
use Rattle.tl_codec.specs.declared.fault.ReadFault.{ReadFault}
use Rattle.tl_codec.specs.declared.fault.ReadFault.TheVariants as fault
use Rattle.tl_codec.specs.Reading.{◌>>=◌, Fails, read_many}
use Rattle.tl_codec.specs.Taken.{IsBytes, Takes}
use Rattle.tl_codec.specs.Fields.{Takes-then, bind_some, some_is}

-- ---- a turn of the loop

-- what was read before, and what is still read
abbrev pub with_front : {A : Type 0} → List A → Option (List A × List ℕ) → Option (List A × List ℕ)
with_front front read = read >>= λ x. Some (front ++ x.0, x.1)

regroup : {A : Type 0} (front : List A) (v : A) (read : Option (List A × List ℕ)) → with_front front (read >>= λ x. Some (v ∷ x.0, x.1)) ≡ with_front (front ++ v ∷ []) read
regroup {A = A} front v (Some x) = ap (λ (vs : List A). Some (vs, x.1)) (simp append_assoc)
regroup front v None = refl

module _ {A : Type 0} (read : List ℕ → Option (A × List ℕ)) where
  pub goes_on : (front : List A) (count i : ℕ) (bytes : List ℕ) (v : A) (after : List ℕ) (total : Option (List A × List ℕ)) → i < count → read bytes ≡ Some (v, after)
      → with_front front (read_many read (count - i) bytes) ≡ total → with_front (front ++ v ∷ []) (read_many read (count - (i + 1)) after) ≡ total
  unfolding read_many
  goes_on front count i bytes v after total lt h so_far =
      let k : count - i ≡ suc (count - (i + 1)) = omega arith in
      let one : with_front front (read_many read (count - i) bytes) ≡ with_front (front ++ v ∷ []) (read_many read (count - (i + 1)) after) = rw (k, h) (regroup front v (read_many read (count - (i + 1)) after)) in
      sym one ∙ so_far

  pub ends : (e : ReadFault) (front : List A) (count i : ℕ) (bytes : List ℕ) (total : Option (List A × List ℕ)) → i < count → Fails e (read bytes)
      → with_front front (read_many read (count - i) bytes) ≡ total → Fails e total
  unfolding read_many
  ends fault.NoMemory front count i bytes total lt h so_far = tt
  ends fault.Bad front count i bytes total lt h so_far =
      let k : count - i ≡ suc (count - (i + 1)) = omega arith in
      let one : with_front front (read_many read (count - i) bytes) ≡ None = rw (k, h) refl in
      sym so_far ∙ one

  pub is_done : (front : List A) (count i : ℕ) (bytes : List ℕ) (total : Option (List A × List ℕ)) → count ≤ i → with_front front (read_many read (count - i) bytes) ≡ total → total ≡ Some (front, bytes)
  unfolding read_many
  is_done front count i bytes total le so_far =
      let k : count - i ≡ 0 = omega arith in
      let one : with_front front (read_many read (count - i) bytes) ≡ Some (front, bytes) = rw k (ap (λ (vs : List A). Some (vs, bytes)) (append-nil front)) in
      sym so_far ∙ one

-- ---- exactly

module _ {A : Type 0} (spelling : A → List ℕ) (Fits : A → Type 0) (read : List ℕ → Option (A × List ℕ)) where
  -- so many items were read at the front, and are spelled so
  abbrev pub AreTaken : ℕ → List ℕ → List A × List ℕ → Type 0
  AreTaken n bytes x = Takes bytes (flat_map spelling x.0) x.1 × (length x.0 ≡ n) × AllByRecursion Fits x.0

  pub many_taken : ((bytes : List ℕ) (x : A) (rest : List ℕ) → IsBytes bytes → read bytes ≡ Some (x, rest) → Takes bytes (spelling x) rest × Fits x)
      → (n : ℕ) (bytes : List ℕ) (x : List A × List ℕ) → IsBytes bytes → read_many read n bytes ≡ Some x → AreTaken n bytes x
  unfolding read_many
  many_taken taken zero bytes x fits e =
      subst (AreTaken 0 bytes) (some_is ([], bytes) x e) (record { parts = refl; rest_fits = fits }, refl, tt)
  many_taken taken (suc n) bytes x fits e =
      let a = bind_some (read bytes) (λ first. read_many read n first.1 >>= λ others. Some (first.0 ∷ others.0, others.1)) x e in
      let b = bind_some (read_many read n a.0.1) (λ others. Some (a.0.0 ∷ others.0, others.1)) x a.2 in
      let first = taken bytes a.0.0 a.0.1 fits a.1 in
      let second = many_taken taken n a.0.1 b.0 first.0.rest_fits b.1 in
      let both = Takes-then bytes (spelling a.0.0) a.0.1 (flat_map spelling b.0.0) b.0.1 first.0 second.0 in
      subst (AreTaken (suc n) bytes) (some_is (a.0.0 ∷ b.0.0, b.0.1) x b.2) (both, ap suc second.1, (first.1, second.2))

  pub many_again : ((x : A) (rest : List ℕ) → Fits x → read (spelling x ++ rest) ≡ Some (x, rest))
      → (xs : List A) (rest : List ℕ) → AllByRecursion Fits xs → read_many read (length xs) (flat_map spelling xs ++ rest) ≡ Some (xs, rest)
  unfolding read_many
  many_again again [] rest fits = refl
  many_again again (x ∷ xs) rest fits =
      let regrouped : flat_map spelling (x ∷ xs) ++ rest ≡ spelling x ++ (flat_map spelling xs ++ rest) = append_assoc (spelling x) (flat_map spelling xs) rest in
      ap (read_many read (suc (length xs))) regrouped ∙ rw (again x (flat_map spelling xs ++ rest) fits.0, many_again again xs rest fits.1) refl
