use Rattle.std.proofs.Common.{◌≡◌, ℕ, ◌∙◌, ap, length, List, subst}
use Rattle.needed_clauses.specs.Renaming.{number_in, Rise, HaveClauses}
use Rattle.needed_clauses.proofs.Tested.{tested-part}
use Rattle.lazy_ground.specs.Lazy.{lazy_problem}
use Rattle.lazy_search.proofs.testing.is_part.Goals as goal

pub returns : goal.returns
returns c = λ t.
    let p = lazy_problem c.args.ground.now in
    let q = c.args.proposed.now.problem.now in
    let numbers = c.args.proposed.now.picks.now.numbers.items in
    let atoms = c.args.proposed.now.atoms.now in
    let whole = c.requires.sizes.atoms in
    let rising : Rise (length atoms) atoms (length p.atoms) = subst (λ (z : ℕ). Rise (length atoms) atoms z) whole (c.if-not-rise.ensures cc) in
    let some : HaveClauses (number_in atoms (length p.atoms)) (length numbers) q.clauses p.clauses numbers =
    subst (λ (z : ℕ). HaveClauses (number_in atoms z) (length numbers) q.clauses p.clauses numbers) whole (c.have_clauses.ensures t) in
    let b : length q.clauses ≡ length numbers = (c.if-not-is_sized.ensures.clauses cc) ∙ ap (λ (z : List ℕ). length z) c.as_slice.ensures.value in
    tested-part q p numbers atoms (c.if-not-is_sized.ensures.atoms cc) b rising (c.if-not-have_kinds.ensures cc) some
