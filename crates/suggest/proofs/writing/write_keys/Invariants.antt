use Rattle.std.proofs.Common.{take}
use Rattle.suggest.specs.Writing.{AreKeysAppended}
use Rattle.suggest.proofs.writing.write_keys.Given as goal

abbrev pub invariant-loop-key : goal.invariant-loop-key
invariant-loop-key l =
    AreKeysAppended l.question.spec.now l.question.budget l.question.pair (take l.key-index l.keys) l.initial.text.items l.text.items
