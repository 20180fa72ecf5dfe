-- Rivals that are compared; this mirrors src/list.rt.
use Rattle.std.specs.Prelude.{Bool, true, false, ◌&&◌, ◌==◌, List, [], ◌∷◌}
use Rattle.token_rules.specs.declared.rivals.Rivalry.{Rivalry}
use Rattle.token_rules.specs.declared.rivals.Rivalry.TheVariants.{Never, Tied, Free}

-- two rivalries are equal
abbrev pub same_rivalry : Rivalry → Rivalry → Bool
same_rivalry Never Never = true
same_rivalry Never (Tied l m) = false
same_rivalry Never Free = false
same_rivalry (Tied j k) Never = false
same_rivalry (Tied j k) (Tied l m) = (j == l) && (k == m)
same_rivalry (Tied j k) Free = false
same_rivalry Free Never = false
same_rivalry Free (Tied l m) = false
same_rivalry Free Free = true

-- two lists of rivalries are equal, one by one
abbrev pub same_rivals : List Rivalry → List Rivalry → Bool
same_rivals [] [] = true
same_rivals [] (b ∷ ys) = false
same_rivals (a ∷ xs) [] = false
same_rivals (a ∷ xs) (b ∷ ys) = same_rivalry a b && same_rivals xs ys
