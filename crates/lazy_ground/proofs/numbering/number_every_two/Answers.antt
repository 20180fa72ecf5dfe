use Rattle.std.proofs.Common.{ℕ, ◌≡◌, ◌<◌, ◌+◌, [], List, length, map, drop, get_or, sym, ◌∙◌, arith}
use Rattle.spec_core.specs.declared.update.Thing.{Thing}
use Rattle.spec_core.specs.declared.update.Thing.TheVariants as thing
use Rattle.ground_problem.specs.Equality.{congruent}
use Rattle.ground_atoms.specs.Known.{Known}
use Rattle.lazy_ground.specs.Named.{known_after}
use Rattle.lazy_ground.proofs.NamedAfter.{readings_stay_after, from_next}
use Rattle.lazy_ground.proofs.numbering.number_every_two.Goals as goal

pub loop-earlier-preserved : goal.loop-earlier-preserved
loop-earlier-preserved c =
    let ts : List (List ℕ) = c.args.pairs.now.tuples in
    let x : Thing = thing.Relation c.args.pairs.now.relation in
    let k : Known = c.loop-earlier.atoms in
    let new : Known = c.number_with_later.new.atoms in
    let i : ℕ = c.loop-earlier.earlier in
    let within : i < length ts = omega (arith, c.loop-earlier-test.true, c.loop-earlier.auto.earlier-end, c.len-earlier-end.ensures) in
    let fact : new ≡ known_after k (map (congruent x (get_or ts i [])) (drop (i + 1) ts)) = c.in_ok-number_with_later.ensures in
    record {
      known = readings_stay_after k new (map (congruent x (get_or ts i [])) (drop (i + 1) ts)) c.args.pairs.now.relation ts fact c.loop-earlier.invariant.known;
      after = sym (from_next k new x ts i within fact) ∙ c.loop-earlier.invariant.after;
    }
