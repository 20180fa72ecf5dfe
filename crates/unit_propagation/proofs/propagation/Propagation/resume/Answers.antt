use Rattle.std.proofs.Common.{false, ◌≡◌, ◌≤◌, ◌<◌, ℕ, List, [], length, refl, sym, ap, subst, arith, Option}
use Rattle.proof_lines.specs.declared.clause.Lit.{Lit}
use Rattle.sat_core.specs.Trails.{is_false, open_in, before_last}
use Rattle.unit_propagation.specs.declared.looking.Watched.{Watched}
use Rattle.unit_propagation.specs.Watches.{pair_at, IsKept, AreWatched}
use Rattle.unit_propagation.specs.Ready.{IsReadyWith}
use Rattle.unit_propagation.proofs.Following.{one_more_watched}
use Rattle.unit_propagation.proofs.Changing.{resumed_watched}
use Rattle.unit_propagation.proofs.propagation.Propagation.resume.Goals as goal

pub overflow_cast-known : goal.overflow_cast-known
overflow_cast-known c =
    let many = ap (λ (z : List Watched). length z) c.make_room.ensures.pairs in
    omega (arith, c.requires.resumed.many, c.len-known.ensures, c.requires.few, many)

pub loop-clause-init : goal.loop-clause-init
loop-clause-init c =
    let cs = c.args.problem.now.clauses in
    let t = c.args.trail.now in
    let w = c.args.self.now.watches in
    let v = c.make_room.new.self in
    let p = c.make_room.ensures.pairs in
    let many : length v.pairs.items ≡ length w.pairs.items = ap (λ (z : List Watched). length z) p in
    let e : length w.pairs.items ≡ c.len-known.result = omega (arith, c.len-known.ensures, many) in
    (refl, subst (λ (n : ℕ). AreWatched n cs t 0 [] v) e (resumed_watched cs t w v c.requires.resumed p c.make_room.ensures.lists), omega (arith, e))

pub attach-requires-clause-new : goal.attach-requires-clause-new
attach-requires-clause-new c = c.loop-clause.invariant.1.kept.many

pub attach-requires-clause-not_false : goal.attach-requires-clause-not_false
attach-requires-clause-not_false c =
    let i = c.loop-clause.clause in
    let l : i < length c.args.problem.now.clauses = omega arith in
    subst (λ (z : List Lit). is_false c.args.trail.now z ≡ false) (sym c.lits_of-lits.ensures.lits) (c.requires.resumed.none_false i l)

pub attach-requires-clause-wide : goal.attach-requires-clause-wide
attach-requires-clause-wide c d =
    let i = c.loop-clause.clause in
    let l : i < length c.args.problem.now.clauses = omega arith in
    subst (λ (z : List Lit). 2 ≤ open_in (before_last c.args.trail.now) z) (sym c.lits_of-lits.ensures.lits) (c.requires.resumed.wide d i c.loop-clause.invariant.2 l)

pub loop-clause-preserved : goal.loop-clause-preserved
loop-clause-preserved c =
    let u = c.attach.new.self in
    let i = c.loop-clause.clause in
    let k = subst (λ (z : List Lit). IsKept z c.args.trail.now 0 [] u.lists.items i (pair_at u.pairs.items i)) c.lits_of-lits.ensures.lits c.in_ok-attach.ensures.kept in
    (c.loop-clause.invariant.0, one_more_watched c.args.problem.now.clauses c.args.trail.now i c.loop-clause.self.watches u c.loop-clause.invariant.1 c.in_ok-attach.ensures.moved c.in_ok-attach.ensures.many k c.in_ok-attach.ensures.quiet, omega (arith, c.loop-clause.invariant.2))

pub returns : goal.returns
returns c =
    let cs = c.args.problem.now.clauses in
    let w = c.loop-clause.self.watches in
    let many = ap (λ (z : List Watched). length z) c.make_room.ensures.pairs in
    let e : c.loop-clause.clause ≡ length cs = omega (arith, c.requires.resumed.many, many) in
    subst (λ (z : Option ℕ). IsReadyWith z cs c.args.trail.now w) (sym c.loop-clause.invariant.0) (subst (λ (n : ℕ). AreWatched n cs c.args.trail.now 0 [] w) e c.loop-clause.invariant.1)
