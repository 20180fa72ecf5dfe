use Rattle.std.proofs.Common.{◌≡◌, ◌+◌, suc, ℕ, length, slice_get, Some, refl, sym, ◌∙◌, arith}
use Rattle.std.proofs.lemmas.Option.{slice_get_read}
use Rattle.report_verifier.specs.Verifier.{logged}
use Rattle.report_verifier.proofs.Deferred.{log_all-next}
use Rattle.report_verifier.proofs.deferring.add_lines.Goals as goal

pub loop-line-preserved : goal.loop-line-preserved
loop-line-preserved c =
    let ls = c.args.lines.now in
    let j = c.args.judgement.now in
    let k : ℕ = c.loop-line.line-index in
    let inv = c.loop-line.invariant in
    let item : slice_get ls k ≡ Some c.line-item.result = slice_get_read ls (length ls) k c.line-item.result refl c.loop-line-test.true c.line-item.is in
    let number : c.in-Some.next ≡ j.line + (k + 1) = let a = c.in-Some.ensures in let b = inv.number in omega (arith, a, b) in
    let here : c.in-Some.next ≡ suc j.line + k = omega (arith, number) in
    record {
      number = number;
      taken = c.in_ok-log_line.ensures ∙ (λ i. logged (here i) (Some c.line-item.result) (inv.taken i)) ∙ sym (log_all-next (suc j.line) k ls c.line-item.result j item);
    }
