-- Bytes that go from a source, and bytes that come to a sink, one piece after another.
use Rattle.std.proofs.Common.{◌≡◌, ◌∙◌, ◌+◌, ◌-◌, ◌≤◌, ℕ, List, ◌++◌, Option, None, Some, refl, ap, sym, append_assoc, length, take, drop, arith, length-drop}
use Rattle.std.proofs.Math.Seq.{take-add}
use Rattle.std.proofs.lemmas.List.{take_rest}
use Rattle.tl_io.specs.Told.{prepend, append}

-- what went in two pieces went in one
pub prepend-prepend : (front next : List ℕ) (left : Option (List ℕ)) → prepend front (prepend next left) ≡ prepend (front ++ next) left
prepend-prepend front next None = refl
prepend-prepend front next (Some left) = ap Some (sym (append_assoc front next left))

-- what came in two pieces came in one
pub append-append : (held : Option (List ℕ)) (front next : List ℕ) → append (append held front) next ≡ append held (front ++ next)
append-append None front next = refl
append-append (Some held) front next = ap Some (append_assoc held front next)

-- of a text n bytes came, and then m of the others
pub append-take : (n m : ℕ) (bytes : List ℕ) (old held new : Option (List ℕ)) → held ≡ append old (take n bytes)
    → new ≡ append held (take m (take (length bytes - n) (drop n bytes))) → new ≡ append old (take (n + m) bytes)
append-take n m bytes old held new before now =
    let whole = rw (take_rest bytes n) at now in
    rw whole (rw before (append-append old (take n bytes) (take m (drop n bytes)) ∙ ap (append old) (sym (take-add n m bytes))))

-- how many others there are
pub length-rest : (n : ℕ) (bytes : List ℕ) → n ≤ length bytes → length (take (length bytes - n) (drop n bytes)) + n ≡ length bytes
length-rest n bytes within = rw (take_rest bytes n) (omega (arith, length-drop n bytes))
