use Rattle.std.proofs.Common.{arith}
use Rattle.token_core.proofs.Numbering.{number_within}
use Rattle.token_core.proofs.replica.keep_took.Goals as goal

pub overflow_cast-number : goal.overflow_cast-number
overflow_cast-number c = let le = number_within c.args.happened.now c.args.id in omega (arith, le, c.requires.few, c.number_of-number.ensures)
