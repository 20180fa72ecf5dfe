use Rattle.report_bytes.proofs.ShownFits.{shown_fits}
use Rattle.report_bytes.proofs.laws.law_witness_is_shown.Goals as goal

pub returns : goal.returns
returns c = shown_fits
