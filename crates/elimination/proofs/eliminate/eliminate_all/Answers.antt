use Rattle.std.proofs.Common.{◌≡◌, ℕ, ◌<◌, true, List, refl, sym, ◌∙◌, subst, length}
use Rattle.proof_lines.specs.Numbers.{stands_in}
use Rattle.elimination.proofs.Eliminating.{some-left, none-left}
use Rattle.elimination.proofs.eliminate.eliminate_all.Goals as goal

pub places-init : goal.places-init
places-init c = (c.requires, refl)

pub eliminate_place-requires-clause-elimination : goal.eliminate_place-requires-clause-elimination
eliminate_place-requires-clause-elimination c = c.places.invariant.0

pub places-preserved : goal.places-preserved
places-preserved c = (c.in-Ok.ensures.0, c.in-Ok.ensures.1 ∙ c.places.invariant.1)

pub places-smaller : goal.places-smaller
places-smaller c = c.in-Ok.ensures.2

pub fewest-place-requires : goal.fewest-place-requires
fewest-place-requires c = subst (λ (l : List ℕ). 0 < length l) (sym c.as_slice-left.ensures) (some-left c.places.tableau.left c.is_empty.result c.is_empty.ensures c.places-test.true)

pub eliminate_place-requires-clause-left : goal.eliminate_place-requires-clause-left
eliminate_place-requires-clause-left c = subst (λ (l : List ℕ). stands_in l c.fewest-place.result ≡ true) c.as_slice-left.ensures c.fewest-place.ensures

pub returns : goal.returns
returns c = (c.places.invariant.0, c.places.invariant.1, none-left c.places.tableau.left c.is_empty.result c.is_empty.ensures c.places-test.false)
