use Rattle.std.proofs.Common.{◌≡◌, sym, subst}
use Rattle.std.specs.Prelude.{IfOk}
use Rattle.ground_numbers.specs.Clauses.{folded}
use Rattle.ground_atoms.specs.declared.formula.GroundFormula.{GroundFormula}
use Rattle.ground_atoms.specs.Formulas.{form_of, tuples_equal, readings_agree}
use Rattle.clausify.specs.Formulas.{folded_of}
use Rattle.clausify.proofs.Implying.{implied_folded}
use Rattle.clausify.proofs.folding.+folded.Goals as goal

pub returns-in_ok-conclusion-in-Congruent-clause-equal : goal.returns-in_ok-conclusion-in-Congruent-clause-equal
returns-in_ok-conclusion-in-Congruent-clause-equal t c =
    let k = c.in-Congruent in
    let made = implied_folded c.args.sign c.fold-in-Congruent.result c.in_ok-premise-in-Congruent.premise c.in_ok-conclusion-in-Congruent.conclusion
    (tuples_equal k.places k.equal k.also) (readings_agree k.agreement k.left k.right)
    c.in_ok-premise-in-Congruent.ensures.equal c.in_ok-conclusion-in-Congruent.ensures.equal c.fold-in-Congruent.ensures.all c.fold-in-Congruent.ensures.any in
    subst (λ (g : GroundFormula). IfOk c.fold-in-Congruent.result (λ f. folded_of f ≡ folded c.args.sign (form_of g))) (sym k.is) made
