-- Bytes behind their length are read exactly, which the laws of `Spelled` cite.
use Rattle.std.proofs.Common.{◌≡◌, ℕ, ◌^◌, ◌<◌, List, ◌++◌, length, Some, sym, ap, subst, ◌∙◌, append_assoc, arith}
use Rattle.std.specs.Int.{w16, to_be_bytes}
use Rattle.tl_codec.specs.Reading.{read_number, read_sized, read_span}
use Rattle.tl_codec.specs.Taken.{IsBytes, Takes, sized}
use Rattle.tl_codec.specs.Fields.{Takes-then, bind_some, number_again, number_takes, span_again, span_takes, wide16}

pub sized_takes : (bytes text rest : List ℕ) → IsBytes bytes → read_sized bytes ≡ Some (text, rest) → Takes bytes (sized text) rest × (length text < 2 ^ 16)
unfolding read_sized
sized_takes bytes text rest fits e =
    let b = bind_some (read_number w16 bytes) (λ size. read_span size.0 size.1) (text, rest) e in
    let t = number_takes w16 (2 ^ 16) wide16 bytes b.0.0 b.0.1 fits b.1 in
    let u = span_takes b.0.0 b.0.1 text rest t.0.rest_fits b.2 in
    let both = Takes-then bytes (to_be_bytes w16 b.0.0) b.0.1 text rest t.0 u.0 in
    (subst (λ (k : ℕ). Takes bytes (to_be_bytes w16 k ++ text) rest) (sym u.1) both, omega (arith, t.1, u.1))

pub sized_again : (text rest : List ℕ) → length text < 2 ^ 16 → read_sized (sized text ++ rest) ≡ Some (text, rest)
unfolding read_sized
sized_again text rest short =
    let regrouped : sized text ++ rest ≡ to_be_bytes w16 (length text) ++ (text ++ rest) = append_assoc (to_be_bytes w16 (length text)) text rest in
    let read = number_again w16 (2 ^ 16) wide16 (length text) (text ++ rest) short in
    ap read_sized regrouped ∙ rw read (span_again text rest)
