use Rattle.std.proofs.Common.{Option, ℕ, ◌++◌, ◌∷◌, [], ◌<◌, List, length, subst, get_or, sym}
use Rattle.proof_lines.specs.declared.clause.Lit.{Lit}
use Rattle.unit_propagation.specs.Watches.{code, pair_at, IsKept, AreWatched}
use Rattle.unit_propagation.specs.Ready.{IsReadyWith}
use Rattle.unit_propagation.proofs.Following.{visited_watched, visited_kept, to_visit, looked-quiet, looked-false}
use Rattle.unit_propagation.proofs.propagation.Propagation.follow.Goals as goal

pub visit_watch-requires-clause-kept : goal.visit_watch-requires-clause-kept
visit_watch-requires-clause-kept c =
    let cs = c.args.problem.now.clauses in
    let t = c.args.trail.now in
    let w = c.loop-clause.self.watches in
    let a = subst (λ (z : List ℕ). AreWatched (length cs) cs t (code c.args.gone) z w) c.in-Some.ensures.last c.loop-clause.invariant.1 in
    let l : c.in-Some.clause < length cs = subst (λ (n : ℕ). c.in-Some.clause < n) c.clause_count.ensures c.if-clause-clause_count.true in
    subst (λ (z : List Lit). IsKept z t (code c.args.gone) (c.in-Some.clause ∷ []) w.lists.items c.in-Some.clause (pair_at w.pairs.items c.in-Some.clause)) (sym c.lits_of-lits.ensures.lits)
    (to_visit (get_or cs c.in-Some.clause []) t (code c.args.gone) (c.pop.new.self ++ c.in-Some.clause ∷ []) w.lists.items c.in-Some.clause (pair_at w.pairs.items c.in-Some.clause) (a.kept.each c.in-Some.clause l))

pub loop-clause-preserved-else-not-branch : goal.loop-clause-preserved-else-not-branch
loop-clause-preserved-else-not-branch c =
    let cs = c.args.problem.now.clauses in
    let t = c.args.trail.now in
    let w = c.loop-clause.self.watches in
    let u = c.visit_watch.new.self in
    let i = c.in-Some.clause in
    let k = subst (λ (z : List Lit). IsKept z t 0 [] u.lists.items i (pair_at u.pairs.items i)) c.lits_of-lits.ensures.lits c.in_ok-visit_watch.ensures.kept in
    let q = looked-quiet _ _ t u.units i (pair_at u.pairs.items i) c.in_ok-visit_watch.ensures.looked c.if-not-branch.false in
    let a = subst (λ (z : List ℕ). AreWatched (length cs) cs t (code c.args.gone) z w) c.in-Some.ensures.last c.loop-clause.invariant.1 in
    (c.loop-clause.invariant.0, visited_watched (length cs) cs t (code c.args.gone) c.pop.new.self i w u a c.in_ok-visit_watch.ensures.moved c.in_ok-visit_watch.ensures.many (λ l. k) (λ l. q))

pub returns-then-not-branch : goal.returns-then-not-branch
returns-then-not-branch c =
    let cs = c.args.problem.now.clauses in
    let t = c.args.trail.now in
    let w = c.loop-clause.self.watches in
    let u = c.visit_watch.new.self in
    let i = c.in-Some.clause in
    let l : i < length cs = subst (λ (n : ℕ). i < n) c.clause_count.ensures c.if-clause-clause_count.true in
    let k = subst (λ (z : List Lit). IsKept z t 0 [] u.lists.items i (pair_at u.pairs.items i)) c.lits_of-lits.ensures.lits c.in_ok-visit_watch.ensures.kept in
    let a = subst (λ (z : List ℕ). AreWatched (length cs) cs t (code c.args.gone) z w) c.in-Some.ensures.last c.loop-clause.invariant.1 in
    let f = looked-false _ _ (get_or cs i []) t u.units i (pair_at u.pairs.items i) c.in_ok-visit_watch.ensures.looked c.if-not-branch.true c.lits_of-lits.ensures.lits in
    let all = c.in_ok-put_back.ensures.kept (length cs) cs t (visited_kept (length cs) cs t (code c.args.gone) c.pop.new.self i w u a.kept c.in_ok-visit_watch.ensures.moved c.in_ok-visit_watch.ensures.many (λ h. k)) in
    subst (λ (z : Option ℕ). IsReadyWith z cs t c.put_back.new.self.watches) (sym c.in_ok-put_back.ensures.conflict) (l, f, all)
