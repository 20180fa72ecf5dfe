use mir.Syntax.{w128}
use Rattle.std.proofs.Common.{rules, ◌≡◌, ◌∙◌, ap, pos, ◌^◌, ◌<◌, subst, sym, ℕ, arith, ℤ, ◌<ℤ◌}
use Rattle.std.proofs.lemmas.Int.{to_z_pos, fits_signed_from_abs, ints}
use Rattle.lin_rows.specs.Divisors.{divisor_of}
use Rattle.lin_rows.proofs.Rounding.{divisor_of-row}
use Rattle.lin_rows.proofs.Kept.{rises_of}
use Rattle.lin_rows.proofs.tightening.divisor.Goals as goal

pub overflow_cast-result : goal.overflow_cast-result
overflow_cast-result c =
    let d = divisor_of-row c.args.row.now.terms c.requires (rises_of c.args.row.now c.terms.ensures.row) in
    let e : c.common.result ≡ divisor_of c.args.row.now.terms = search rules in
    let b : c.common.result < 2 ^ 127 = omega (arith, d.below, e) in
    fits_signed_from_abs w128 (pos c.common.result) b

pub returns-clause-value : goal.returns-clause-value
returns-clause-value c =
    let d = divisor_of-row c.args.row.now.terms c.requires (rises_of c.args.row.now c.terms.ensures.row) in
    let e : c.common.result ≡ divisor_of c.args.row.now.terms = search rules in
    let b : c.common.result < 2 ^ 127 = omega (arith, d.below, e) in
    to_z_pos w128 c.common.result b ∙ ap (λ (n : ℕ). pos n) e

pub returns-clause-positive : goal.returns-clause-positive
returns-clause-positive c =
    let d = divisor_of-row c.args.row.now.terms c.requires (rises_of c.args.row.now c.terms.ensures.row) in
    let e : c.common.result ≡ divisor_of c.args.row.now.terms = search rules in
    let b : c.common.result < 2 ^ 127 = omega (arith, d.below, e) in
    let p : 0 < c.common.result = omega (arith, d.positive, e) in
    subst (λ (z : ℤ). pos 0 <ℤ z) (sym (to_z_pos w128 c.common.result b)) (omega (arith, ints))
