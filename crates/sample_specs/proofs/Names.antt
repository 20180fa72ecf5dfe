-- How long a number is written.
use Rattle.std.proofs.Common.{ℕ, ◌<◌, ◌≤◌, length, arith}
use Rattle.std.specs.Fmt.{decimal}
use Rattle.std.proofs.lemmas.Fmt.{length-decimal-le}

-- the decimal of a byte has at most 3 digits
pub length_of_byte : (i : ℕ) → i < 256 → length (decimal i) ≤ 3
length_of_byte i small = length-decimal-le 3 i (omega arith) (omega arith) (omega (arith, small))
