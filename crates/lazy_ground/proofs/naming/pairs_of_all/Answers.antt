use Rattle.std.proofs.Common.{◌≡◌, ◌++◌, ◌∷◌, [], map, rules}
use Rattle.ground_atoms.specs.Symbols.{reading_of}
use Rattle.lazy_ground.proofs.Loops.{of_some, things_next, built_next, numbered_next}
use Rattle.lazy_ground.proofs.naming.pairs_of_all.Goals as goal

pub loop-thing-preserved : goal.loop-thing-preserved
loop-thing-preserved c =
    let o = c.args.atoms.now.table in
    let qs = map reading_of c.args.readings.now in
    let found = of_some o qs _ c.in_ok-more.field-0 c.in-Some.more c.in-Some.is c.in_ok-more.ensures in
    let new : c.push.new.self ≡ c.loop-thing.pairs ++ c.in-Some.more ∷ [] = search rules in
    record {
      things = things_next c.args.things.now c.loop-thing.thing-index _ c.loop-thing.pairs c.push.new.self c.in-Some.more c.loop-thing-test.true found.thing new c.loop-thing.invariant.things;
      built = built_next qs c.loop-thing.pairs c.push.new.self c.in-Some.more c.loop-thing.invariant.built found.built new;
      numbered = numbered_next o c.loop-thing.pairs c.push.new.self c.in-Some.more c.loop-thing.invariant.numbered found.numbers new;
    }
