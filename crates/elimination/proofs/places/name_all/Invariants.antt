use Rattle.std.proofs.Common.{◌≡◌, ℕ, ◌||◌, take}
use Rattle.std.specs.Prelude.{◌==◌}
use Rattle.std.specs.List.{list_any}
use Rattle.proof_lines.specs.Numbers.{stands_in}
use Rattle.elimination.proofs.places.name_all.Given as goal

abbrev pub invariant-loop-term : goal.invariant-loop-term
invariant-loop-term l = (q : ℕ) → stands_in l.named q ≡ (stands_in l.initial.named q || list_any (λ t. t.place == q) (take l.term-index l.terms))
