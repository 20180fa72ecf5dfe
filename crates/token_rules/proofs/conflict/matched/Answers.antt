use Rattle.std.proofs.Common.{◌∙◌, ap}
use Rattle.std.specs.List.{list_any}
use Rattle.spec_core.specs.Specification.{Specification}
use Rattle.token_rules.specs.Conflict.{lines_match}
use Rattle.token_rules.proofs.conflict.matched.Goals as goal

pub returns : goal.returns
returns c =
    let a = c.as_slice.ensures in let b = c.as_slice-2.ensures in
    let rules = c.as_slice-3.ensures ∙ ap (λ (d : Specification). d.rules) c.spec.view_is in
    c.some_rule_matches.ensures
    ∙ λ i. list_any (λ rule. list_any (λ t. list_any (λ u. lines_match c.args.world.now (a i) (b i) rule t u) (c.takes_of-second.ensures i)) (c.takes_of-first.ensures i)) (rules i)
