use Rattle.std.proofs.Common.{◌≡◌, true, length, rules}
use Rattle.lazy_ground.specs.Named.{numbers_below}
use Rattle.lazy_ground.proofs.Serving.{still_numbered}
use Rattle.lazy_ground.proofs.keeping.standing.Goals as goal

pub returns-then-are_below-clause-numbers : goal.returns-then-are_below-clause-numbers
returns-then-are_below-clause-numbers c =
    let b = c.args.begun.now in
    let cut : b.is_cut ≡ true = search rules in
    let below : numbers_below (length b.grounding.atoms.table.atoms) c.in-Some.kept.pairs ≡ true = search rules in
    λ entry have back. still_numbered entry b c.args.kept c.in-Some.kept c.in-Some.is cut below have back
