use Rattle.std.proofs.Common.{◌≡◌}
use Rattle.word_cut.specs.Whole.{read_of}
use Rattle.word_cut.proofs.Spelled.{read_of-spelled}
use Rattle.word_cut.proofs.whole.read_whole.Goals as goal

pub returns-clause-spelled : goal.returns-clause-spelled
returns-clause-spelled c = λ z small.
    let e : c.read.result ≡ read_of c.args.text.now = c.read.ensures in
    rw e (read_of-spelled c.args.text.now z small)
