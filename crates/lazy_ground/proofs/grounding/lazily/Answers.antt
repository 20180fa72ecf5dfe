use Rattle.std.proofs.Common.{◌≡◌, Some, [], map, refl, subst, sym, ◌∙◌}
use Rattle.std.specs.Prelude.{Err}
use Rattle.std.specs.List.{flat_map}
use Rattle.ground_problem.specs.Equality.{congruence}
use Rattle.ground_atoms.specs.Known.{Known}
use Rattle.ground_atoms.specs.Symbols.{reading_of}
use Rattle.ground_groups.specs.Limited.{Makes, make_upto, made_in}
use Rattle.lazy_ground.specs.Pairs.{pairs_of, AllNumbered}
use Rattle.lazy_ground.specs.Named.{known_after, AllFit}
use Rattle.lazy_ground.proofs.Parts.{lazy_from}
use Rattle.lazy_ground.proofs.Counts.{behind_refused}
use Rattle.lazy_ground.proofs.Entries.{lazy_kept}
use Rattle.lazy_ground.proofs.NamedAfter.{after_table, fit_built, named_after}
use Rattle.lazy_ground.proofs.grounding.lazily.Goals as goal

pub add_behind-added-requires-clause-fit : goal.add_behind-added-requires-clause-fit
add_behind-added-requires-clause-fit c = subst AllFit (sym c.as_slice-2.ensures) (fit_built (map reading_of c.args.front.readings) c.args.pairs c.requires.pairs.built)

pub add_behind-added-requires-clause-numbered : goal.add_behind-added-requires-clause-numbered
add_behind-added-requires-clause-numbered c =
    subst (AllNumbered c.new-behind.result.atoms.table) (sym c.as_slice-2.ensures)
    (subst (λ (k : Known). AllNumbered k.table c.args.pairs) (sym c.new-behind.ensures.atoms) c.requires.pairs.numbered)

pub returns-in-Err-clause-ground : goal.returns-in-Err-clause-ground
returns-in-Err-clause-ground c =
    let fs = congruence (map reading_of c.as_slice.result.now) c.args.counters.now in
    behind_refused c.args.spec.now c.args.ob.now c.in-Err.error c.args.front (flat_map pairs_of c.as_slice-2.result.now) c.add_behind-added.new.behind c.as_slice.result.now c.args.relations.now c.args.counters.now
    c.requires.front c.requires.things c.as_slice.ensures
    (subst (λ (k : Known). Makes {A = Unit {0}} (Err c.in-Err.error) (known_after k (flat_map pairs_of c.as_slice-2.result.now)) fs c.add_behind-added.new.behind) c.new-behind.ensures.atoms c.in-Err.ensures)

pub returns-clause-ground : goal.returns-clause-ground
returns-clause-ground c =
    let f = c.args.front in
    let k = f.grounding.atoms in
    let mid : Known = known_after k (flat_map pairs_of c.args.pairs) in
    let fs = congruence (map reading_of c.as_slice.result.now) c.args.counters.now in
    let made : make_upto [] mid fs ≡ Some (made_in c.add_behind-added.new.behind) =
    (λ i. make_upto [] (known_after (sym c.new-behind.ensures.atoms i) (flat_map pairs_of (sym c.as_slice-2.ensures i))) fs) ∙ c.in-Ok.ensures in
    lazy_from c.args.spec.now c.args.ob.now f c.args.pairs c.args.relations.now c.args.counters.now c.as_slice.result.now mid c.add_behind-added.new.behind
    c.requires.few c.requires.front c.requires.pairs c.requires.things c.as_slice.ensures (after_table k (flat_map pairs_of c.args.pairs))
    (named_after (map reading_of f.readings) k mid c.args.pairs refl c.requires.pairs.built c.requires.pairs.numbered) made

pub returns-clause-kept : goal.returns-clause-kept
returns-clause-kept c =
    let f = c.args.front in
    let mid : Known = known_after f.grounding.atoms (flat_map pairs_of c.args.pairs) in
    let fs = congruence (map reading_of c.as_slice.result.now) c.args.counters.now in
    let made : make_upto [] mid fs ≡ Some (made_in c.add_behind-added.new.behind) =
    (λ i. make_upto [] (known_after (sym c.new-behind.ensures.atoms i) (flat_map pairs_of (sym c.as_slice-2.ensures i))) fs) ∙ c.in-Ok.ensures in
    lazy_kept c.args.spec.now c.args.ob.now f c.args.pairs c.args.relations.now fs mid c.add_behind-added.new.behind c.requires.front c.requires.pairs refl made
