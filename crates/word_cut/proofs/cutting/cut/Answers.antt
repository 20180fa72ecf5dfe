use Rattle.std.proofs.Common.{subst, Option, Ok}
use Rattle.word_cut.specs.declared.word.Word.{Word}
use Rattle.word_cut.specs.Words.{IsRefused}
use Rattle.word_cut.specs.Fronts.{GivesNext}
use Rattle.word_cut.proofs.CutLemmas.{IsCut-all, IsRefused-stuck, IfErr-same}
use Rattle.word_cut.proofs.cutting.cut.Goals as goal

pub returns-clause-ok : goal.returns-clause-ok
returns-clause-ok c =
    let P : Option Word → Type 0 = λ next. GivesNext c.args.bytes.now c.words.at c.words.line (Ok next) in
    IsCut-all _ _ _ _ c.words.invariant (subst P c.in_default.is c.in_ok-word.ensures)

pub returns-in_err-word-clause-refused : goal.returns-in_err-word-clause-refused
returns-in_err-word-clause-refused c =
    let h = c.in_err-word.ensures in
    IfErr-same (IsRefused c.args.bytes.now) _ c.in_err-word.field-0.0 c.from_residual.ensures.1
    (IsRefused-stuck _ _ _ _ h.0 h.1 c.in_err-word.field-0.0 c.words.invariant h.2 h.3)
