use Rattle.linear_ints.proofs.Descents.{fault-sum, fault-value}
use Rattle.linear_ints.proofs.descend.fault_stop.Goals as goal

pub place_of-place-requires : goal.place_of-place-requires
place_of-place-requires c = c.requires.stage

pub values_of_one-requires : goal.values_of_one-requires
values_of_one-requires c = c.requires.fault.below

pub returns-in-Sum : goal.returns-in-Sum
returns-in-Sum c =
    fault-sum c.args.rows.now c.args.tableau.now c.args.stage c.args.values.now c.args.at c.place_of-place.result c.in-Ok.values c.requires.elimination c.requires.left c.requires.stage c.requires.descent c.requires.fault c.place_of-place.ensures c.in-Ok.ensures c.in-Sum.is

pub returns-in-Value : goal.returns-in-Value
returns-in-Value c =
    fault-value c.args.rows.now c.args.tableau.now c.args.stage c.args.values.now c.args.at c.place_of-place.result c.in-Ok.values c.requires.elimination c.requires.left c.requires.stage c.requires.descent c.requires.fault c.place_of-place.ensures c.in-Ok.ensures c.in-Value.is
