use Rattle.std.proofs.Common.{true≢false, sym, ◌∙◌, inr, refl}
use Rattle.serde_json.specs.View.{view}
use Rattle.schedule_json.proofs.Results.{ok_along, err_along, schedule_from-value, schedule_from-none}
use Rattle.schedule_json.proofs.Fits.{fits_along}
use Rattle.schedule_json.proofs.schedule.read_schedule.Goals as goal

pub returns-in-Ok-clause-ok : goal.returns-in-Ok-clause-ok
returns-in-Ok-clause-ok c =
    let is = schedule_from-value c.args.spec.now c.args.bytes.now (view c.in-Ok.value) c.in-Ok.ensures.ok.0 c.in-Ok.ensures.ok.1 in
    ok_along c.from_value.result _ _ is c.from_value.ensures.ok

pub returns-in-Ok-clause-err : goal.returns-in-Ok-clause-err
returns-in-Ok-clause-err c =
    let is = schedule_from-value c.args.spec.now c.args.bytes.now (view c.in-Ok.value) c.in-Ok.ensures.ok.0 c.in-Ok.ensures.ok.1 in
    err_along c.from_value.result _ _ is c.from_value.ensures.err

pub returns-else-is_memory-clause-err : goal.returns-else-is_memory-clause-err
returns-else-is_memory-clause-err c =
    inr (schedule_from-none c.args.spec.now c.args.bytes.now _ refl
    (c.in-Err.ensures.err (λ memory. true≢false (sym (c.is_memory.ensures.1 memory) ∙ c.if-is_memory.false))))

pub returns-in-Ok-clause-fits : goal.returns-in-Ok-clause-fits
returns-in-Ok-clause-fits c =
    let is = schedule_from-value c.args.spec.now c.args.bytes.now (view c.in-Ok.value) c.in-Ok.ensures.ok.0 c.in-Ok.ensures.ok.1 in
    fits_along c.args.spec.now c.args.bytes.now c.from_value.result (ok_along c.from_value.result _ _ is c.from_value.ensures.ok)
