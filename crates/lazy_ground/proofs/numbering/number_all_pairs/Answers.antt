use Rattle.std.proofs.Common.{ℕ, ◌≡◌, ◌+◌, List, drop, refl, sym, ◌∙◌}
use Rattle.ground_atoms.specs.Known.{Known}
use Rattle.lazy_ground.specs.declared.pairs.ReadingPairs.{ReadingPairs}
use Rattle.lazy_ground.specs.Pairs.{pairs_of}
use Rattle.lazy_ground.specs.Named.{known_after}
use Rattle.lazy_ground.proofs.NamedAfter.{all_after_there, drop_numbered, numbered_after, all_next}
use Rattle.lazy_ground.proofs.numbering.number_all_pairs.Goals as goal

pub returns-then-are_columns_known : goal.returns-then-are_columns_known
returns-then-are_columns_known c =
    sym (all_after_there c.args.atoms.now c.args.pairs.now (c.if-are_columns_known.ensures refl) c.requires.fit c.requires.numbered)

pub loop-some-preserved : goal.loop-some-preserved
loop-some-preserved c =
    let ss : List ReadingPairs = c.args.pairs.now in
    let k : Known = c.loop-some.atoms in
    let new : Known = c.number_pairs.new.atoms in
    let i : ℕ = c.loop-some.some-index in
    let s : ReadingPairs = c.some-item.result in
    let here = drop_numbered k.table ss i s c.loop-some-test.true c.some-item.is c.loop-some.invariant.numbered c.loop-some.invariant.fit in
    let fact : new ≡ known_after k (pairs_of s) = c.in_ok-number_pairs.ensures in
    record {
      numbered = numbered_after k new (pairs_of s) (drop (i + 1) ss) fact here.0.1;
      fit = here.1.1;
      after = sym (all_next k new ss i s c.loop-some-test.true c.some-item.is fact) ∙ c.loop-some.invariant.after;
    }
