use Rattle.std.proofs.Common.{◌≡◌, true, rules}
use Rattle.std.specs.List.{list_all}
use Rattle.lazy_ground.specs.Equal.{fits}
use Rattle.lazy_ground.specs.Named.{all_rise}
use Rattle.lazy_ground.proofs.Tested.{numbered_if}
use Rattle.lazy_ground.proofs.naming.numbers_of_pairs.Goals as goal

pub returns : goal.returns
returns c =
    let rise : all_rise c.args.tuples.now ≡ true = search rules in
    let fit : list_all (fits c.args.columns.now) c.args.tuples.now ≡ true = search rules in
    numbered_if c.args.atoms.now.table c.args.relation c.args.tuples.now c.args.columns.now rise fit c.numbers_at.result c.numbers_at.ensures
