use Rattle.std.proofs.Common.{◌≡◌, ℕ, true, take}
use Rattle.std.specs.Prelude.{◌==◌}
use Rattle.std.specs.List.{list_any}
use Rattle.elimination.specs.Naming.{lists}
use Rattle.elimination.proofs.naming.list_all.Given as goal

abbrev pub invariant-loop-term : goal.invariant-loop-term
invariant-loop-term l = ((q i : ℕ) → lists l.initial.by_place.items q i ≡ true → lists l.by_place.items q i ≡ true)
    × ((q : ℕ) → list_any (λ t. t.place == q) (take l.term-index l.terms) ≡ true → lists l.by_place.items q l.number ≡ true)
