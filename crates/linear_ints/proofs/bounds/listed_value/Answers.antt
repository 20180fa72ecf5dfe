use Rattle.std.proofs.Common.{rules, ℕ, ℤ, sym, ◌∙◌, ap, FitsSigned, to_z-of_z}
use mir.Syntax.{w128}
use Rattle.linear_ints.proofs.ListedLemmas.{listed-is}
use Rattle.linear_ints.proofs.bounds.listed_value.Goals as goal

pub returns : goal.returns
returns c =
    let f : FitsSigned w128 c.value_of.result = search rules in
    to_z-of_z f ∙ c.value_of.ensures ∙ sym (ap (λ (x : ℕ → ℤ). x c.args.place) (listed-is c.args.values.now))
