use Rattle.std.proofs.Common.{◌≤◌, ◌*◌, arith, subst}
use Rattle.ground_groups.proofs.Counted.{count_first}
use Rattle.ground_groups.proofs.assigning.+count_choices.Goals as goal

pub returns-in-len1-up : goal.returns-in-len1-up
returns-in-len1-up t c =
    let xs = c.first-item.result in
    let r : c.saturating_mul.result ≤ c.len.result * c.count_choices.result = omega (arith, c.saturating_mul.ensures) in
    count_first c.args.options.now xs c.count_choices.result c.saturating_mul.result c.in-len1-up.len_at_least c.first-item.is c.count_choices.ensures (subst (λ n. c.saturating_mul.result ≤ n * c.count_choices.result) c.len.ensures r)
