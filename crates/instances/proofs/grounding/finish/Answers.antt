use Rattle.std.proofs.Common.{◌≡◌, ap, subst, sym, List, ℕ}
use Rattle.std.specs.Prelude.{IfSome}
use Rattle.ground_problem.specs.Constants.{Constants, constants_of}
use Rattle.ground_problem.specs.Problem.{formulas_of}
use Rattle.ground_groups.specs.Calls.{constants_in, numbered_arguments}
use Rattle.instances.specs.Entry.{IsEntry, entry_with}
use Rattle.instances.proofs.Whole.{few_made, table_made, forms_made, ground_refused}
use Rattle.instances.proofs.Shared.{entry_of, formulas-begin}
use Rattle.instances.proofs.grounding.finish.Goals as goal

pub returns-in-Err-clause-ground : goal.returns-in-Err-clause-ground
returns-in-Err-clause-ground c = ground_refused c.args.spec.now c.args.ob.now c.in-Err.error _ c.in-Err.ensures

pub returns-clause-ground : goal.returns-clause-ground
returns-clause-ground c =
    let d = c.args.spec.now in let ob = c.args.ob.now in
    let z : constants_in c.args.named ≡ constants_of d ob = c.requires.constants in (
      few_made (numbered_arguments d ob) (formulas_of d ob) _ c.in-Ok.ensures,
      record {
        consts = ap (λ (y : Constants). y.sorts) z;
        calls = c.requires.calls;
        elements = ap (λ (y : Constants). y.elements) z;
        table = table_made d ob _ _ c.in-Ok.ensures;
        forms = forms_made d ob _ _ c.in-Ok.ensures;
      },
    )

pub returns-clause-entry : goal.returns-clause-entry
returns-clause-entry c =
    let d = c.args.spec.now in let ob = c.args.ob.now in
    let z : constants_in c.args.named ≡ constants_of d ob = c.requires.constants in
    subst (λ (ss : List ℕ). IfSome c.args.begun.part (λ p. IsEntry d (entry_with ss c.add_all-added.new.grounding.atoms c.add_all-added.new.grounding.formulas p))) (sym (ap (λ (y : Constants). y.sorts) z))
    (entry_of d ob c.args.begun (formulas_of d ob) c.add_all-added.new.grounding.atoms c.add_all-added.new.grounding.formulas c.requires.begun (formulas-begin d ob) c.in-Ok.ensures)
