use Rattle.std.proofs.Common.{◌≡◌, ◌+◌, ◌-◌, ℕ, take, drop, ap, ◌∙◌, arith}
use Rattle.report_upgrader.proofs.LogBytes.{line_is}
use Rattle.report_upgrader.proofs.log_bytes.line_at.Goals as goal

pub returns : goal.returns
returns c = λ h.
    let long : c.args.place + c.args.len - c.args.place ≡ c.args.len = omega arith in
    ap (λ (k : ℕ). take k (drop c.args.place c.args.bytes.now)) long ∙ line_is c.args.place c.args.len c.args.bytes.now h
