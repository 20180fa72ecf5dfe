-- What stands in a list of places.
use Rattle.std.proofs.Common.{◌≡◌, ℕ, ◌<◌, length, List, get_or, true, refl}
use Rattle.std.specs.Prelude.{◌==◌}
use Rattle.std.proofs.lemmas.Bool.{eq-eqb}
use Rattle.std.proofs.lemmas.List.Folds.{list_any_at}
use Rattle.proof_lines.specs.Numbers.{stands_in}

-- each of some places stands among them
pub stands-there : (places : List ℕ) (m : ℕ) → m < length places → stands_in places (get_or places m 0) ≡ true
stands-there places m h = list_any_at (λ q. q == get_or places m 0) places m 0 h (eq-eqb (get_or places m 0) (get_or places m 0) refl)
