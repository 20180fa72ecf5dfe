use Rattle.std.proofs.Common.{[], sym, ◌∙◌, ap}
use Rattle.ground_problem.specs.Symbols.{Integer}
use Rattle.ground_numbers.specs.Numbers.{integer_of}
use Rattle.ground_atoms.specs.Known.{know_integer}
use Rattle.ground_atoms.specs.Making.{Made}
use Rattle.ground_atoms.specs.Formulas.{form_of}
use Rattle.instances.proofs.Twice.{count_twice, ok_weaker}
use Rattle.instances.proofs.congruence.counter_same.Goals as goal

pub returns : goal.returns
returns c =
    let k = c.args.atoms.now in
    let l = c.int_of.new.self in
    let up : Made = record { known = c.at_most_name.new.atoms; form = form_of c.in_ok-up.up } in
    let down : Made = record { known = c.at_most_name-2.new.atoms; form = form_of c.in_ok-down.down } in
    let is =
    count_twice k c.args.counter c.args.left.now c.args.right.now l c.int_of-2.new.self c.in_ok-first.first c.in_ok-second.second up down
    (c.in_ok-first.ensures.known ∙ ap (know_integer k) c.in_ok-count_at.ensures)
    (c.in_ok-first.ensures.number ∙ ap (λ (x : Integer). integer_of k.table x) c.in_ok-count_at.ensures)
    (c.in_ok-second.ensures.known ∙ ap (know_integer l) c.in_ok-count_at-2.ensures)
    (c.in_ok-second.ensures.number ∙ ap (λ (x : Integer). integer_of l.table x) c.in_ok-count_at-2.ensures)
    c.in_ok-up.ensures.made c.in_ok-down.ensures.made in
    ok_weaker c.both_rows.result (λ r e. is ∙ (λ j. record { known = down.known; form = sym e j })) c.both_rows.ensures
