use Rattle.std.proofs.Common.{◌≡◌, ℕ, ◌∙◌, List, map, take, sym, subst, ap}
use Rattle.ground_numbers.specs.Numbered.{Numbered}
use Rattle.ground_atoms.specs.declared.formula.GroundFormula.{GroundFormula}
use Rattle.ground_atoms.specs.Formulas.{form_of}
use Rattle.clausify.specs.Kept.{AreClausesOf}
use Rattle.lazy_search.proofs.Implied.{first_of_first}
use Rattle.lazy_search.proofs.choosing.Chosen.add_front.Goals as goal

pub add_behind-requires-clause-kept : goal.add_behind-requires-clause-kept
add_behind-requires-clause-kept c =
    let fs : List GroundFormula = c.args.ground.now.front in
    let from : ℕ = c.args.from in
    let count : ℕ = c.in-Some.count in
    let kept : AreClausesOf (take count (map form_of fs)) c.in-Some.kept.now = c.in-Some.ensures (map form_of fs) c.requires.clauses in
    let same : take count (map form_of (take from c.as_slice.result.now)) ≡ take count (map form_of fs) =
    ap (λ (z : List GroundFormula). take count (map form_of (take from z))) c.as_slice.ensures ∙ first_of_first count from fs c.if-count-from.true in
    subst (λ (z : List Numbered). AreClausesOf z c.in-Some.kept.now) (sym same) kept
