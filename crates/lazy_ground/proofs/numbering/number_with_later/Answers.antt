use Rattle.std.proofs.Common.{ℕ, ◌≡◌, ◌<◌, [], ◌∷◌, List, length, get_or, sym, ◌∙◌, ap, arith}
use Rattle.spec_core.specs.declared.update.Thing.{Thing}
use Rattle.spec_core.specs.declared.update.Thing.TheVariants as thing
use Rattle.ground_problem.specs.Equality.{congruent}
use Rattle.ground_atoms.specs.Known.{Known}
use Rattle.ground_atoms.specs.Making.{make}
use Rattle.lazy_ground.proofs.NamedAfter.{readings_stay_after, with_next}
use Rattle.lazy_ground.proofs.Wholes.{tuple_at}
use Rattle.lazy_ground.proofs.numbering.number_with_later.Goals as goal

pub loop-later-preserved : goal.loop-later-preserved
loop-later-preserved c =
    let ts : List (List ℕ) = c.args.pairs.now.tuples in
    let x : Thing = thing.Relation c.args.pairs.now.relation in
    let k : Known = c.loop-later.atoms in
    let new : Known = c.number_pair.new.atoms in
    let i : ℕ = c.args.earlier in
    let j : ℕ = c.loop-later.later in
    let many = ap length c.as_slice-tuples.ensures in
    let within : j < length ts = omega (arith, c.loop-later-test.true, c.loop-later.auto.later-end, many) in
    let p = tuple_at ts _ i _ _ _ c.as_slice.ensures c.index-tuples-earlier.is c.as_slice-tuples.ensures c.requires.earlier in
    let q = tuple_at ts _ j _ _ _ c.as_slice-in-loop-later.ensures c.index-tuples-later.is c.as_slice-tuples.ensures within in
    let fact : new ≡ (make k (congruent x (get_or ts i []) (get_or ts j []))).known = c.in_ok-number_pair.ensures ∙ (λ z. (make k (congruent x (p z) (q z))).known) in
    record {
      above = omega (arith, c.loop-later.invariant.above);
      known = readings_stay_after k new (congruent x (get_or ts i []) (get_or ts j []) ∷ []) c.args.pairs.now.relation ts fact c.loop-later.invariant.known;
      after = sym (with_next k new x (get_or ts i []) ts j within fact) ∙ c.loop-later.invariant.after;
    }
