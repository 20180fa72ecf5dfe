use Rattle.std.proofs.Common.{refl, ap, ◌∙◌, le-leb}
use Rattle.std.proofs.lemmas.Bool.{and_from}
use Rattle.report_bytes.specs.Reading.{first_fault}
use Rattle.check_run.specs.Reports.{written_version}
use Rattle.check_run.proofs.laws.law_checked_is_read.Goals as goal

pub returns : goal.returns
returns c = λ d budget tally text typed least most checked.
    let read = c.law_written_is_read.ensures d written_version budget checked.verdicts typed refl (and_from _ _ (le-leb budget 1000000 most) (le-leb 1 budget least)) checked.fit in
    (read.0, checked.text_is ∙ read.1, ap (first_fault d) checked.text_is ∙ read.2)
