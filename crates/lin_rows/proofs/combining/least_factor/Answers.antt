use mir.Syntax.{w128}
use Rattle.std.proofs.Common.{rules, ◌≡◌, ◌∙◌, pos, ◌^◌, ◌<◌, ◌/◌, sym, ℕ, unsigned_abs, subst, [], ◌∷◌}
use Rattle.std.proofs.lemmas.Int.{to_z_pos}
use Rattle.lin_rows.specs.Divisors.{common_divisor}
use Rattle.lin_rows.proofs.Divisor.{common_divisor-pair, positive_divisor}
use Rattle.lin_rows.proofs.CancellingLemmas.{size_positive, size_below, quotient_below}
use Rattle.lin_rows.proofs.combining.least_factor.Goals as goal

pub nonzero_div-result : goal.nonzero_div-result
nonzero_div-result c =
    let e : c.unsigned_abs.result ≡ unsigned_abs c.args.one.now = search rules in
    positive_divisor c.gcd-divisor.result c.unsigned_abs.result (subst (λ (n : ℕ). 0 < n) (sym e) (size_positive c.args.one.now c.requires.one_not)) c.gcd-divisor.ensures.0

pub returns-clause-value : goal.returns-clause-value
returns-clause-value c =
    let a : c.unsigned_abs.result ≡ unsigned_abs c.args.one.now = search rules in
    let b : c.unsigned_abs-2.result ≡ unsigned_abs c.args.other.now = search rules in
    let e : c.unsigned_abs-3.result ≡ unsigned_abs c.args.other.now = search rules in
    let g = common_divisor-pair c.unsigned_abs.result c.unsigned_abs-2.result c.gcd-divisor.result c.gcd-divisor.ensures in
    let small = quotient_below c.unsigned_abs-3.result c.gcd-divisor.result (subst (λ (n : ℕ). n < 2 ^ 127) (sym e) (size_below c.args.other.now c.requires.other)) in
    to_z_pos w128 (c.unsigned_abs-3.result / c.gcd-divisor.result) small
    ∙ (λ i. pos (e i / g i))
    ∙ (λ i. pos (unsigned_abs c.args.other.now / common_divisor (a i ∷ b i ∷ [])))
