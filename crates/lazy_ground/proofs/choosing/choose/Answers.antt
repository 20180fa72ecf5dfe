use Rattle.std.proofs.Common.{List, map, refl, subst, ◌∙◌, ap, sym}
use Rattle.std.specs.Prelude.{IfSome}
use Rattle.lazy_ground.specs.declared.pairs.ReadingPairs.{ReadingPairs}
use Rattle.lazy_ground.specs.Kept.{thing_of}
use Rattle.lazy_ground.specs.Front.{ArePairsFor}
use Rattle.lazy_ground.proofs.choosing.choose.Goals as goal

pub returns-then-are_relations_of : goal.returns-then-are_relations_of
returns-then-are_relations_of c =
    let f = c.args.front.now in
    let h : ArePairsFor f c.in-Some.pairs = subst (λ k. IfSome k (ArePairsFor f)) c.in-Some.is c.requires in
    record {
      things = ap (λ (ss : List ReadingPairs). map thing_of ss) (sym c.as_slice.ensures) ∙ c.if-are_relations_of.ensures refl;
      built = h.0;
      numbered = h.1;
    }
