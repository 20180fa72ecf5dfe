use Rattle.std.proofs.Common.{◌≡◌, ℕ, length, subst}
use Rattle.needed_clauses.specs.Renaming.{Rise}
use Rattle.needed_clauses.proofs.Tested.{tested-part}
use Rattle.needed_clauses.proofs.testing.is_part.Goals as goal

pub returns : goal.returns
returns c = λ t.
    let many : c.sizes-many.result.0 ≡ length c.args.whole.now.atoms = let s = c.sizes-many.ensures in cc in
    let rising : Rise (length c.args.atoms.now) c.args.atoms.now c.sizes-many.result.0 → Rise (length c.args.atoms.now) c.args.atoms.now (length c.args.whole.now.atoms) = λ r. subst (λ (z : ℕ). Rise (length c.args.atoms.now) c.args.atoms.now z) many r in
    let q = c.args.part.now in
    let p = c.args.whole.now in
    let a : length q.atoms ≡ length c.args.atoms.now = let s = c.sizes-few.ensures in let u = c.if-few-atoms.false in cc in
    let b : length q.clauses ≡ length c.args.clauses.now = let s = c.sizes-few.ensures in let u = c.if-some-clauses.false in cc in
    tested-part q p c.args.clauses.now c.args.atoms.now a b (rising (c.if-not-rise.ensures cc)) (c.if-not-have_kinds.ensures cc) (c.have_clauses.ensures t)
