use Rattle.std.proofs.Common.{◌≡◌, ◌++◌, ◌∷◌, [], map, drop, ◌+◌, ap, ◌∙◌}
use Rattle.ground_numbers.specs.Problem.{kind_of}
use Rattle.ground_atoms.specs.Symbols.{atom_of}
use Rattle.clausify.proofs.Reading.{read_on, read_all}
use Rattle.clausify.proofs.problem.kinds_of.Goals as goal

pub returns-in_default : goal.returns-in_default
returns-in_default c = read_all kind_of c.args.atoms.now.table.atoms c.loop-n.kinds c.loop-n.n c.loop-n.invariant c.in_default.ensures

pub loop-n-preserved : goal.loop-n-preserved
loop-n-preserved c =
    read_on kind_of c.args.atoms.now.table.atoms c.loop-n.kinds c.loop-n.n (atom_of c.in-Some.atom.now) c.in_ok-kind_of.field-0 c.loop-n.invariant c.in-Some.ensures c.in_ok-kind_of.ensures
    ∙ ap (λ ks. ks ++ map kind_of (drop (c.loop-n.n + 1) c.args.atoms.now.table.atoms)) (let e : c.loop-n.kinds ++ c.in_ok-kind_of.field-0 ∷ [] ≡ c.push.new.self = (cc c.in_ok-push.ensures.ok) in e)
