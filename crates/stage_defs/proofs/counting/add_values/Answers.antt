use Rattle.std.proofs.Common.{◌≡◌, ◌≤◌, ◌+◌, map, drop, sym, subst, rules, arith}
use Rattle.std.proofs.lemmas.Grind.{common_steps}
use Rattle.ground_numbers.specs.Stages.{stage_of}
use Rattle.ground_atoms.specs.Symbols.{parts_of}
use Rattle.ground_atoms.specs.Known.{Known}
use Rattle.ground_atoms.specs.Making.{make_all}
use Rattle.ground_atoms.specs.Formulas.{form_of}
use Rattle.ground_atoms.specs.Staying.{NumbersStay}
use Rattle.ground_atoms.proofs.Staying.{stay_then}
use Rattle.stage_defs.specs.Settings.{readings_in, caller_in}
use Rattle.stage_defs.specs.Parts.{values_upto}
use Rattle.stage_defs.proofs.counting.add_values.Goals as goal
use Rattle.stage_defs.proofs.counting.add_values.Goals.{then-is_thing+in_ok-next+in_ok-add_value+in_ok-number, else-is_thing}

pub loop-place-preserved : goal.loop-place-preserved
loop-place-preserved c =
    let made : make_all (map form_of c.if-is_thing.out) c.if-is_thing.atoms (values_upto (readings_in c.args.before.now) (caller_in c.args.before.now) (stage_of c.args.stage) c.args.counter c.args.key.now c.if-is_thing.number (parts_of c.if-is_thing.value) (drop (c.loop-place.place + 1) c.args.updates.now))
    ≡ make_all (map form_of c.args.out.now) c.args.atoms.now (values_upto (readings_in c.args.before.now) (caller_in c.args.before.now) (stage_of c.args.stage) c.args.counter c.args.key.now 1 (parts_of c.args.first) c.args.updates.now) = elim c.if-is_thing.branch [
      | then-is_thing+in_ok-next+in_ok-add_value+in_ok-number w ↦ grind (arith, common_steps)
      | else-is_thing w ↦ grind (arith, common_steps)
    ] in
    let number : 1 ≤ c.if-is_thing.number = elim c.if-is_thing.branch [
      | then-is_thing+in_ok-next+in_ok-add_value+in_ok-number w ↦ search rules
      | else-is_thing w ↦ search rules
    ] in
    let stays : NumbersStay c.args.atoms.now c.if-is_thing.atoms = elim c.if-is_thing.branch [
      | then-is_thing+in_ok-next+in_ok-add_value+in_ok-number w ↦ subst (λ (k : Known). NumbersStay c.args.atoms.now k) (sym w.atoms-is) (stay_then c.loop-place.invariant.stay w.in_ok-add_value.ensures.stay)
      | else-is_thing w ↦ subst (λ (k : Known). NumbersStay c.args.atoms.now k) (sym w.atoms-is) c.loop-place.invariant.stay
    ] in
    record { made = made; number = number; stay = stays }
