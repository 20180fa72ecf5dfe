use Rattle.std.proofs.Common.{[], ◌∷◌, sym, ◌∙◌, subst, Err}
use Rattle.ground_atoms.specs.Known.{Known}
use Rattle.instances.specs.Equalities.{AreNumbered}
use Rattle.instances.proofs.Equalities.{implied_known}
use Rattle.instances.proofs.Triples.{where_two}
use Rattle.ground_groups.proofs.Lists.{seq, seq_refused}
use Rattle.instances.proofs.equating.push_three.Goals as goal

pub returns-in-Err : goal.returns-in-Err
returns-in-Err c a b d h =
    let k = c.args.grounding.now.atoms in
    seq_refused c.in-Err.refused _ _ (where_two a b b d a d ∷ []) (where_two a b a d b d ∷ where_two a d b d a b ∷ [])
    (c.in-Err.ensures.formula (where_two a b b d a d) (implied_known k a b b d a d c.args.front c.args.back c.args.ends h.front h.back h.ends))

pub returns-in-Err-push_implied : goal.returns-in-Err-push_implied
returns-in-Err-push_implied c a b d h =
    let k = c.args.grounding.now.atoms in
    let l = c.push_implied.new.grounding.atoms in
    let i = subst (λ (z : Known). AreNumbered z a b d c.args.front c.args.back c.args.ends) (sym c.in-Ok.ensures.atoms) h in
    seq {A = Unit {0}} (Err c.in-Err-push_implied.refused) _ _ _ (where_two a b b d a d ∷ []) (where_two a b a d b d ∷ where_two a d b d a b ∷ [])
    (c.in-Ok.ensures.formula (where_two a b b d a d) (implied_known k a b b d a d c.args.front c.args.back c.args.ends h.front h.back h.ends))
    (seq_refused c.in-Err-push_implied.refused _ _ (where_two a b a d b d ∷ []) (where_two a d b d a b ∷ [])
    (c.in-Err-push_implied.ensures.formula (where_two a b a d b d) (implied_known l a b a d b d c.args.front c.args.ends c.args.back i.front i.ends i.back)))

pub returns : goal.returns
returns c a b d h =
    let k = c.args.grounding.now.atoms in
    let l = c.push_implied.new.grounding.atoms in
    let m = c.push_implied-2.new.grounding.atoms in
    let i = subst (λ (z : Known). AreNumbered z a b d c.args.front c.args.back c.args.ends) (sym c.in-Ok.ensures.atoms) h in
    let j = subst (λ (z : Known). AreNumbered z a b d c.args.front c.args.back c.args.ends) (sym c.in-Ok-push_implied.ensures.atoms) i in
    seq c.push_implied-3.result _ _ _ (where_two a b b d a d ∷ []) (where_two a b a d b d ∷ where_two a d b d a b ∷ [])
    (c.in-Ok.ensures.formula (where_two a b b d a d) (implied_known k a b b d a d c.args.front c.args.back c.args.ends h.front h.back h.ends))
    (seq c.push_implied-3.result _ _ _ (where_two a b a d b d ∷ []) (where_two a d b d a b ∷ [])
    (c.in-Ok-push_implied.ensures.formula (where_two a b a d b d) (implied_known l a b a d b d c.args.front c.args.ends c.args.back i.front i.ends i.back))
    (c.push_implied-3.ensures.formula (where_two a d b d a b) (implied_known m a d b d a b c.args.ends c.args.back c.args.front j.ends j.back j.front)))
