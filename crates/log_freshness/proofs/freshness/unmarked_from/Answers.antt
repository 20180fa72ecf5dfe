use Rattle.std.proofs.Common.{◌≡◌, ◌∙◌, ap, refl, Bool, true, false, ◌&&◌, take}
use Rattle.log_freshness.specs.Index.{lits_marked}
use Rattle.log_freshness.proofs.Index.{marked-from}
use Rattle.log_freshness.proofs.freshness.unmarked_from.Goals as goal

and_false : (a : Bool) → (a && false) ≡ false
and_false true = refl
and_false false = refl

and_true : (a : Bool) → (a && true) ≡ a
and_true true = refl
and_true false = refl

pub returns-in-Some : goal.returns-in-Some
returns-in-Some c =
    let before : Bool = lits_marked c.args.count c.args.marks.now (take c.args.start c.args.lits.now) in
    marked-from c.args.count c.args.marks.now c.args.lits.now c.args.start c.requires.within
    ∙ ap (λ (b : Bool). before && b) c.in-Some.ensures ∙ and_false before

pub returns-in-None : goal.returns-in-None
returns-in-None c =
    let before : Bool = lits_marked c.args.count c.args.marks.now (take c.args.start c.args.lits.now) in
    marked-from c.args.count c.args.marks.now c.args.lits.now c.args.start c.requires.within
    ∙ ap (λ (b : Bool). before && b) c.in-None.ensures ∙ and_true before ∙ c.first_unmarked-in-None.ensures
