use mir.Val.{SFits}
use mir.Syntax.{w128}
use Rattle.std.proofs.lemmas.Int.{to_z-of_z}
use Rattle.std.proofs.Common.{rules, drop, get_or, pos, subst, ℕ}
use Rattle.std.specs.Int.{IsGcd}
use Rattle.lin_rows.proofs.Divisor.{common-step, common-end, divisor_of-is}
use Rattle.lin_rows.proofs.Ones.{divisor_of-one}
use Rattle.lin_rows.proofs.tightening.common.Goals as goal

pub loop-term-preserved : goal.loop-term-preserved
loop-term-preserved c g h =
    let s : SFits w128 (get_or c.args.terms.now c.loop-term.term-index (record { place = 0; coef = pos 0 })).coef = search rules in
    let e = simp to_z-of_z at c.unsigned_abs.ensures.value in
    c.loop-term.invariant g (common-step c.args.terms.now c.loop-term.term-index (record { place = 0; coef = pos 0 }) c.loop-term.g c.next_divisor-g.result g c.loop-term-test.true (subst (λ (z : ℕ). IsGcd c.loop-term.g z c.next_divisor-g.result) e c.next_divisor-g.ensures) h)

pub returns : goal.returns
returns c = divisor_of-is c.args.terms.now c.loop-term.g (c.loop-term.invariant c.loop-term.g (common-end c.args.terms.now c.loop-term.term-index c.loop-term.g c.loop-term-test.false))

pub returns-then-g-eq1 : goal.returns-then-g-eq1
returns-then-g-eq1 c = divisor_of-one c.args.terms.now (drop c.loop-term.term-index c.args.terms.now) c.loop-term.g c.if-g-eq1.true c.loop-term.invariant
