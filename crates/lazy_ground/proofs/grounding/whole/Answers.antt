use Rattle.std.proofs.Common.{◌≡◌, Ok, Err, ap}
use Rattle.obligation_list.specs.Obligations.{things}
use Rattle.ground_problem.specs.Constants.{Constants}
use Rattle.ground_problem.specs.Problem.{formulas_of}
use Rattle.ground_groups.specs.Calls.{numbered_arguments}
use Rattle.instances.proofs.Whole.{few_made, table_made, forms_made}
use Rattle.lazy_ground.specs.Front.{IsFront}
use Rattle.lazy_ground.proofs.Parts.{whole_then, whole_refused}
use Rattle.lazy_ground.proofs.Entries.{whole_entry}
use Rattle.lazy_ground.proofs.grounding.whole.Goals as goal

pub returns-in-Err-clause-ground : goal.returns-in-Err-clause-ground
returns-in-Err-clause-ground c =
    let d = c.args.spec.now in let ob = c.args.ob.now in
    let is : IsFront d ob c.args.front = c.requires.front in
    let all : c.args.all.now ≡ things d = c.requires.things in
    whole_refused d ob c.in-Err.error _ (whole_then d ob (Err c.in-Err.error) c.args.front c.as_slice.result.now c.args.all.now _ is c.as_slice.ensures all c.in-Err.ensures)

pub returns-clause-ground : goal.returns-clause-ground
returns-clause-ground c =
    let d = c.args.spec.now in let ob = c.args.ob.now in
    let is : IsFront d ob c.args.front = c.requires.front in
    let all : c.args.all.now ≡ things d = c.requires.things in
    let made = whole_then d ob (Ok tt) c.args.front c.as_slice.result.now c.args.all.now _ is c.as_slice.ensures all c.in-Ok.ensures in (
      few_made (numbered_arguments d ob) (formulas_of d ob) _ made,
      record {
        consts = ap (λ (y : Constants). y.sorts) is.constants;
        calls = is.calls;
        elements = ap (λ (y : Constants). y.elements) is.constants;
        table = table_made d ob _ _ made;
        forms = forms_made d ob _ _ made;
      },
    )

pub returns-clause-kept : goal.returns-clause-kept
returns-clause-kept c = whole_entry c.args.spec.now c.args.ob.now c.args.front _ _ c.requires.front c.in-Ok.ensures
