-- What is found, and what isn't.
use Rattle.std.specs.Prelude.{None, Some}
use Rattle.std.proofs.Common.{◌≡◌}

pub absent : {X : Type 0} (x : X) → None ≡ Some x → ⊥
absent x h = cc

pub one_found : {X : Type 0} (x y : X) → Some x ≡ Some y → x ≡ y
one_found x y h = cc
