use Rattle.report_reader.proofs.Kept.{few_told}
use Rattle.report_reader.proofs.feeding.take.Goals as goal

pub advance-requires-clause-few : goal.advance-requires-clause-few
advance-requires-clause-few c = few_told c.args.spec.now c.args.state.now.tally c.args.state.now.place c.well_formed-2.ensures c.requires.kept
