use Rattle.std.proofs.Common.{◌≡◌, ◌+◌, ◌^◌, ◌<◌, true, false, List, [], ◌∷◌, ◌++◌, length, get_or, sym, ◌∙◌, ap, subst, arith}
use Rattle.proof_lines.specs.declared.clause.Lit.{Lit}
use Rattle.proof_lines.specs.Clauses.{has, distinct, flip}
use Rattle.proof_lines.specs.Problems.{PlainProblem}
use Rattle.sat_core.specs.declared.trail.Entry.{Entry}
use Rattle.sat_core.specs.Trails.{is_done}
use Rattle.sat_core.specs.SearchLogs.{with_clause, resolved_on, resolve_line}
use Rattle.sat_core.proofs.Chain.{longer}
use Rattle.sat_core.specs.declared.state.SearchState.{SearchState}
use Rattle.sat_core.specs.Searching.{with_trail, InChain, GoesOn}
use Rattle.sat_core.proofs.Resolving.{chain_pops, has_reason, chain_steps, state-so, moved_on}
use Rattle.sat_core.proofs.state.SearchState.step_back.Goals as goal

few_so : (q : PlainProblem) (c : List Lit) (r : PlainProblem) → r ≡ with_clause q c → length r.clauses < 2 ^ 32 → length q.clauses + 1 < 2 ^ 32
few_so q c r e h = let m = longer q.clauses c in let k : length (q.clauses ++ c ∷ []) < 2 ^ 32 = subst (λ (z : PlainProblem). length z.clauses < 2 ^ 32) e h in omega (arith, m, k)

pub returns-then-not-holds : goal.returns-then-not-holds
returns-then-not-holds c =
    let s = c.args.self.now in
    let h : has (get_or s.grown.clauses c.args.reached []) (flip c.in-Some.entry.lit) ≡ false = (λ i. has (sym c.lits_of.ensures.lits i) (sym c.opposite.ensures i)) ∙ sym c.holds.ensures ∙ c.if-not-holds.true in
    let e : length s.trail ≡ length (c.in-Some.entry ∷ c.pop.new.self) = ap (λ (z : List Entry). length z) c.in-Some.ensures in
    let g : GoesOn c.args.budget (with_trail s (c.in-Some.entry ∷ c.pop.new.self)) c.args.reached (with_trail s c.pop.new.self) c.args.reached =
    λ a before x. chain_pops a c.args.budget before (with_trail s c.pop.new.self) c.in-Some.entry c.args.reached x h in
    (subst (λ (z : List Entry). GoesOn c.args.budget (with_trail s z) c.args.reached (with_trail s c.pop.new.self) c.args.reached) (sym c.in-Some.ensures) g, omega (arith, e))

pub unreachable-requires-in_default-reason : goal.unreachable-requires-in_default-reason
unreachable-requires-in_default-reason c =
    let s = c.args.self.now in
    let h : has (get_or s.grown.clauses c.args.reached []) (flip c.in-Some.entry.lit) ≡ true = (λ i. has (sym c.lits_of.ensures.lits i) (sym c.opposite.ensures i)) ∙ sym c.holds.ensures ∙ c.if-not-holds.false in
    let n : is_done (c.in-Some.entry ∷ c.pop.new.self) (get_or s.grown.clauses c.args.reached []) ≡ false = subst (λ (z : List Entry). is_done z (get_or s.grown.clauses c.args.reached []) ≡ false) c.in-Some.ensures c.requires.undone in
    let x = subst (λ (z : List Entry). InChain c.requires.chain.aim c.args.budget c.requires.chain.before (with_trail s z) c.args.reached) c.in-Some.ensures c.requires.chain.chain in
    has_reason c.requires.chain.aim c.args.budget c.requires.chain.before (with_trail s c.pop.new.self) c.in-Some.entry c.args.reached x h n c.in_default-reason.is

pub returns : goal.returns
returns c =
    let s = c.args.self.now in
    let q = s.grown in
    let h : has (get_or q.clauses c.args.reached []) (flip c.in-Some.entry.lit) ≡ true = (λ i. has (sym c.lits_of.ensures.lits i) (sym c.opposite.ensures i)) ∙ sym c.holds.ensures ∙ c.if-not-holds.false in
    let n : is_done (c.in-Some.entry ∷ c.pop.new.self) (get_or q.clauses c.args.reached []) ≡ false = subst (λ (z : List Entry). is_done z (get_or q.clauses c.args.reached []) ≡ false) c.in-Some.ensures c.requires.undone in
    let e : length s.trail ≡ length (c.in-Some.entry ∷ c.pop.new.self) = ap (λ (z : List Entry). length z) c.in-Some.ensures in
    let set : distinct (get_or q.clauses c.in-Some-reason.reason []) ≡ true = subst (λ (z : List Lit). distinct z ≡ true) c.lits_of-2.ensures.lits c.lits_of-2.ensures.set in
    let o = c.in_ok-next.ensures in
    let gives = resolved_on c.in-Some.entry.lit (get_or q.clauses c.in-Some-reason.reason []) (get_or q.clauses c.args.reached []) in
    let r = c.resolve_on.new.self in
    let few : length q.clauses + 1 < 2 ^ 32 = few_so q gives r.grown o.1 o.3 in
    let ms = s.log ++ resolve_line c.in-Some.entry.lit c.in-Some-reason.reason c.args.reached ∷ [] in
    let m : SearchState = record { grown = with_clause q gives; trail = c.pop.new.self; log = ms } in
    let g : GoesOn c.args.budget (with_trail s (c.in-Some.entry ∷ c.pop.new.self)) c.args.reached m (length q.clauses) =
    λ a before x. chain_steps a c.args.budget before (with_trail s c.pop.new.self) c.in-Some.entry c.args.reached x h n c.in-Some-reason.reason c.in-Some-reason.is set c.requires.room few in
    let f : length r.trail ≡ length c.pop.new.self = ap (λ (z : List Entry). length z) o.4 in (
      moved_on c.args.budget s c.args.reached m r (length q.clauses) c.in_ok-next.next
          (subst (λ (z : List Entry). GoesOn c.args.budget (with_trail s z) c.args.reached m (length q.clauses)) (sym c.in-Some.ensures) g)
          (sym (state-so r (with_clause q gives) c.pop.new.self ms o.1 o.4 o.2)) (sym o.0),
      omega (arith, e, f),
    )
