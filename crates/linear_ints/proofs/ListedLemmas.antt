use Rattle.std.proofs.Common.{◌≡◌, ℤ, List, refl}
use Rattle.lin_rows.specs.Rows.{point_of}
use Rattle.linear_ints.specs.Listed.{listed}

pub listed-is : (values : List ℤ) → listed values ≡ point_of values
unfolding listed
listed-is values = refl
