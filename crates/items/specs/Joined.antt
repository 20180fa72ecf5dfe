-- What the list of some blocks is.
use Rattle.std.specs.Prelude.{List, [], ◌∷◌, ◌++◌}

-- the elements of some blocks, and those behind them
abbrev pub joined : {X : Type 0} → List (List X) → List X → List X
joined [] rest = rest
joined (b ∷ bs) rest = b ++ joined bs rest
