use Rattle.std.proofs.Common.{◌≡◌, false, take, List, sym, subst, ◌∙◌, ap, arith}
use Rattle.std.proofs.Math.Seq.{take-length}
use Rattle.proof_lines.specs.declared.clause.Lit.{Lit}
use Rattle.proof_lines.specs.Clauses.{has}
use Rattle.proof_lines.proofs.Resolving.{found-at, not-found}
use Rattle.proof_lines.proofs.clause.place_of.Goals as goal

pub returns-then-same-clause-around : goal.returns-then-same-clause-around
returns-then-same-clause-around c =
    let none : Lit = record { atom = 0; positive = false } in
    (found-at c.args.lit c.args.lits.now c.loop-i.i none c.requires c.loop-i-test.true (sym c.same.ensures ∙ c.if-same.true)).1

absent : (c : goal.After-loop-i) → has c.args.lits.now c.args.lit ≡ false
absent c =
    let all : take c.loop-i.i c.args.lits.now ≡ c.args.lits.now = ap (λ k. take k c.args.lits.now) (omega (arith, c.loop-i-test.false, c.loop-i.auto.i-end)) ∙ take-length c.args.lits.now in
    subst (λ (z : List Lit). has z c.args.lit ≡ false) all c.loop-i.invariant

pub returns-clause-there : goal.returns-clause-there
returns-clause-there c = (not-found c.args.lit c.args.lits.now (absent c)).0

pub returns-clause-around : goal.returns-clause-around
returns-clause-around c = (not-found c.args.lit c.args.lits.now (absent c)).1
