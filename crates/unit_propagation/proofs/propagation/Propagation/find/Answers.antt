use Rattle.std.proofs.Common.{◌∷◌, [], List, ℕ, length, arith, ap, ◌∙◌, length-append, refl, subst, sym, ◌<◌}
use Rattle.proof_lines.specs.declared.clause.Lit.{Lit}
use Rattle.unit_propagation.specs.Watches.{pair_at, IsKept}
use Rattle.unit_propagation.proofs.Following.{none_false_there, rest_there, settled_there, look-unit, look-rest}
use Rattle.unit_propagation.proofs.Changing.{considered_kept, considered_rest, considered_unit}
use Rattle.unit_propagation.proofs.propagation.Propagation.find.Goals as goal

pub consider-requires-clause-kept : goal.consider-requires-clause-kept
consider-requires-clause-kept c =
    let w = c.loop-clause.self.watches in
    let i = c.in-Some-pop.clause in
    let l : i < length c.args.problem.now.clauses = subst (λ (n : ℕ). i < n) c.clause_count.ensures c.if-clause-clause_count.true in
    subst (λ (z : List Lit). IsKept z c.args.trail.now 0 [] w.lists.items i (pair_at w.pairs.items i)) (sym c.lits_of-lits.ensures.lits) (c.loop-clause.invariant.kept.each i l)

pub returns-in-Unit-clause-found : goal.returns-in-Unit-clause-found
returns-in-Unit-clause-found c =
    let i = c.in-Some-pop.clause in
    let u = look-unit _ c.in-Unit.lit _ _ c.args.trail.now (pair_at c.consider.new.self.pairs.items i) c.in_ok-consider.ensures.look c.in-Unit.is c.lits_of-lits.ensures.lits in
    (omega (arith, c.if-clause-clause_count.true, c.clause_count.ensures), u.0, none_false_there c.args.problem.now.clauses c.args.trail.now c.loop-clause.self.watches c.requires.trail c.loop-clause.invariant)

pub loop-clause-smaller-in-Open : goal.loop-clause-smaller-in-Open
loop-clause-smaller-in-Open c =
    let u = ap (λ (z : List ℕ). length z) c.in_ok-consider.ensures.units in
    let p = ap (λ (z : List ℕ). length z) c.in-Some-pop.ensures.last ∙ length-append c.pop.new.self (c.in-Some-pop.clause ∷ []) in
    omega (arith, u, p)

pub loop-clause-preserved-in-Open : goal.loop-clause-preserved-in-Open
loop-clause-preserved-in-Open c =
    let w = c.loop-clause.self.watches in
    let u = c.consider.new.self in
    let i = c.in-Some-pop.clause in
    let k = subst (λ (z : List Lit). IsKept z c.args.trail.now 0 [] u.lists.items i (pair_at u.pairs.items i)) c.lits_of-lits.ensures.lits c.in_ok-consider.ensures.kept in
    let r = look-rest _ _ c.args.trail.now (pair_at u.pairs.items i) c.in_ok-consider.ensures.look c.in-Open.is in
    considered_rest c.args.problem.now.clauses c.args.trail.now i w (record { pairs = w.pairs; lists = w.lists; units = c.pop.new.self }) u
    c.loop-clause.invariant refl refl c.in-Some-pop.ensures.last c.in_ok-consider.ensures.moved c.in_ok-consider.ensures.many (λ l. k) (λ l. r)

pub returns-in-False-clause-watched : goal.returns-in-False-clause-watched
returns-in-False-clause-watched c =
    let w = c.loop-clause.self.watches in
    let u = c.consider.new.self in
    let i = c.in-Some-pop.clause in
    let k = subst (λ (z : List Lit). IsKept z c.args.trail.now 0 [] u.lists.items i (pair_at u.pairs.items i)) c.lits_of-lits.ensures.lits c.in_ok-consider.ensures.kept in
    considered_kept c.args.problem.now.clauses c.args.trail.now i w (record { pairs = w.pairs; lists = w.lists; units = c.pop.new.self }) u
    c.loop-clause.invariant.kept refl refl c.in_ok-consider.ensures.moved c.in_ok-consider.ensures.many (λ l. k)

pub returns-clause-found : goal.returns-clause-found
returns-clause-found c =
    let n = none_false_there c.args.problem.now.clauses c.args.trail.now c.loop-clause.self.watches c.requires.trail c.loop-clause.invariant in
    let r = rest_there c.args.problem.now.clauses c.args.trail.now c.loop-clause.self.watches c.in_default-pop.ensures.none c.loop-clause.invariant in
    (settled_there c.args.problem.now.clauses c.args.trail.now c.loop-clause.self.watches c.requires.trail c.loop-clause.invariant.kept r, n)

pub returns-clause-watched : goal.returns-clause-watched
returns-clause-watched c = (record { many = c.loop-clause.invariant.kept.many; each = c.loop-clause.invariant.kept.each }, rest_there c.args.problem.now.clauses c.args.trail.now c.loop-clause.self.watches c.in_default-pop.ensures.none c.loop-clause.invariant)

pub returns-in-Unit-clause-watched : goal.returns-in-Unit-clause-watched
returns-in-Unit-clause-watched c =
    let w = c.loop-clause.self.watches in
    let u = c.consider.new.self in
    let i = c.in-Some-pop.clause in
    let k = subst (λ (z : List Lit). IsKept z c.args.trail.now 0 [] u.lists.items i (pair_at u.pairs.items i)) c.lits_of-lits.ensures.lits c.in_ok-consider.ensures.kept in
    let o = look-unit _ c.in-Unit.lit _ _ c.args.trail.now (pair_at u.pairs.items i) c.in_ok-consider.ensures.look c.in-Unit.is c.lits_of-lits.ensures.lits in
    considered_unit c.args.problem.now.clauses c.args.trail.now i w (record { pairs = w.pairs; lists = w.lists; units = c.pop.new.self }) u (record { pairs = u.pairs; lists = u.lists; units = c.push.new.self })
    c.loop-clause.invariant refl refl c.in-Some-pop.ensures.last c.in_ok-consider.ensures.moved c.in_ok-consider.ensures.many c.in_ok-consider.ensures.units (λ l. k) (λ l. o.1) refl refl c.in_ok-push-in-Unit.ensures.ok
