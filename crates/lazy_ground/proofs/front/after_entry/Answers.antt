use Rattle.std.proofs.Common.{◌≡◌, Ok, Err, ap, ◌∙◌}
use Rattle.ground_problem.specs.Constants.{Constants, constants_of}
use Rattle.ground_problem.specs.Problem.{defined}
use Rattle.ground_groups.specs.Calls.{constants_in}
use Rattle.ground_groups.proofs.Lists.{makes_refused}
use Rattle.instances.proofs.Whole.{named_are}
use Rattle.lazy_ground.proofs.Parts.{front_seq, front_refused, numbered_stay_in}
use Rattle.lazy_ground.proofs.Entries.{front_shared, front_extends, pairs_for}
use Rattle.lazy_ground.proofs.front.after_entry.Goals as goal

pub returns-in-Err : goal.returns-in-Err
returns-in-Err c = front_refused (Unit {0}) c.args.spec.now c.args.ob.now c.in-Err.error _ (makes_refused c.in-Err.error _ _ _ _ c.in-Err.ensures)

pub returns-in-Err-equated : goal.returns-in-Err-equated
returns-in-Err-equated c =
    let d = c.args.spec.now in let ob = c.args.ob.now in
    let same : constants_in c.args.named ≡ constants_of d ob = c.requires.constants in
    front_refused (Unit {0}) d ob c.in-Err-equated.error _
    (front_seq d ob (Err c.in-Err-equated.error) _ _ _ (c.as_slice.ensures ∙ ap (λ (y : Constants). y.sorts) same) c.in-Ok.ensures c.in-Err-equated.ensures)

pub returns : goal.returns
returns c =
    let d = c.args.spec.now in let ob = c.args.ob.now in
    let same : constants_in c.args.named ≡ constants_of d ob = c.requires.constants in
    let r = c.in-Ok-entry_readings.read in
    let made = front_seq d ob (Ok tt) _ _ _ (c.as_slice.ensures ∙ ap (λ (y : Constants). y.sorts) same) c.in-Ok.ensures c.in-Ok-equated.ensures in (
      record {
        constants = same;
        calls = c.requires.calls;
        readings = c.in-Ok-entry_readings.ensures.readings ∙ named_are d ob 0 (defined d ob (constants_of d ob)) _ _ c.in-Ok.ensures;
        made = made;
        shared = front_shared d ob c.args.begun _ c.requires.begun made;
      },
      pairs_for (record { named = c.args.named; grounding = c.add_equality-equated.new.grounding; readings = r.readings; part = c.args.begun.part })
          r.pairs c.in-Ok-entry_readings.ensures.pairs
          (numbered_stay_in c.args.begun.grounding.atoms.table _ r.pairs (front_extends d ob c.args.begun _ c.requires.begun made)
          (c.in-Ok-entry_readings.ensures.numbers c.args.begun.grounding.atoms.table c.requires.numbers)),
    )
