use Rattle.std.proofs.Common.{◌≡◌, ℕ, ◌*◌, ◌%◌, ◌^◌, ◌<◌, arith}
use Rattle.std.proofs.lemmas.Nat.{pow_below}

-- a bit below the sixteenth is within 16 bits
pub one_bit : (k : ℕ) → k < 16 → (1 * 2 ^ k) % 65536 ≡ 2 ^ k
one_bit k small = let bound : 2 ^ k < 2 ^ 16 = pow_below k 16 small in grind arith
