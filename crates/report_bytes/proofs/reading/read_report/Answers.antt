use Rattle.report_bytes.proofs.reading.read_report.Goals as goal

pub returns-in-Err : goal.returns-in-Err
returns-in-Err c = c.in-Err.ensures.refused c.args.spec.now c.in-Ok.ensures
