-- How many pairs there are.
use Rattle.std.proofs.Common.{◌≡◌, ℕ, suc, ◌+◌, ◌-◌, List, [], ◌∷◌, length, map, length-append, refl, ◌∙◌, ap, arith}
use Rattle.std.specs.Prelude.{Err}
use Rattle.std.proofs.lemmas.List.{length-map}
use Rattle.spec_core.specs.declared.update.Thing.{Thing}
use Rattle.ground_problem.specs.Equality.{congruent, congruent_pairs}
use Rattle.ground_problem.specs.Problem.{most_formulas}
use Rattle.ground_atoms.specs.Formulas.{form_of}
use Rattle.ground_groups.specs.Limited.{Appends, HasRoomFor}
use Rattle.ground_groups.specs.declared.grounding.Grounding.{Grounding}
use Rattle.ground_groups.specs.declared.refused.GroundRefused.{GroundRefused}
use Rattle.ground_groups.specs.declared.refused.GroundRefused.TheVariants.{TooMany, Memory}
use Rattle.ground_groups.proofs.Lists.{upto_beyond}
use Rattle.instances.specs.Pairs.{pair_count}

-- one member more makes a pair with each of the others
pub pairs_more : (n : ℕ) → pair_count (n + 1) ≡ n + pair_count n
pairs_more n = (let e : n + 1 ≡ suc n = omega arith in ap pair_count e)

pub pairs_length : (x : Thing) (ts : List (List ℕ)) → length (congruent_pairs x ts) ≡ pair_count (length ts)
pairs_length x [] = refl
pairs_length x (t ∷ ts) =
    let e = length-append (map (congruent x t) ts) (congruent_pairs x ts) in
    let f : length (map (congruent x t) ts) ≡ length ts = length-map ts (congruent x t) in
    let g = pairs_length x ts in
    e ∙ (λ i. f i + g i)

-- where there is no room for all pairs, there are too many
pub pairs_beyond : (why : GroundRefused) (old new : Grounding) (x : Thing) (ts : List (List ℕ))
    → HasRoomFor (Err why) (most_formulas - length old.formulas) (pair_count (length ts)) → Appends {A = Unit {0}} (Err why) old (congruent_pairs x ts) new
pairs_beyond TooMany old new x ts h =
    let e : length (map form_of old.formulas) ≡ length old.formulas = length-map old.formulas form_of in
    let g = pairs_length x ts in
    upto_beyond (map form_of old.formulas) old.atoms (congruent_pairs x ts) (omega (arith, e, g, h))
pairs_beyond Memory old new x ts h = tt
