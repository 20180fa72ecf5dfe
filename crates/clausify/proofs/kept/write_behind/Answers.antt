use Rattle.std.proofs.Common.{◌≡◌, ◌+◌, map, take, arith}
use Rattle.ground_atoms.specs.Formulas.{form_of}
use Rattle.clausify.proofs.Raised.{written_behind, named_behind}
use Rattle.clausify.proofs.kept.write_behind.Goals as goal

pub returns-clause-made : goal.returns-clause-made
returns-clause-made c =
    let k = c.args.kept.now in
    let fs = map form_of c.args.forms.now in
    let is = c.requires.kept in
    let after : c.in-Some.after ≡ c.args.next + k.names = let e = c.in-Some.ensures in omega (arith, e) in
    written_behind k c.args.next c.in-Some.after c.args.count fs (map form_of c.forms_behind.result.now) c.write_clauses.result c.args.out.now c.copy_kept.new.out c.write_clauses.new.out
    is after c.forms_behind.ensures (c.in_ok-copy_kept.ensures (take c.args.count fs) is) c.write_clauses.ensures.made

pub returns-clause-next : goal.returns-clause-next
returns-clause-next c =
    let k = c.args.kept.now in
    let fs = map form_of c.args.forms.now in
    let after : c.in-Some.after ≡ c.args.next + k.names = let e = c.in-Some.ensures in omega (arith, e) in
    named_behind k c.args.next c.in-Some.after c.args.count fs (map form_of c.forms_behind.result.now) c.write_clauses.result c.requires.kept after c.forms_behind.ensures c.write_clauses.ensures.next
