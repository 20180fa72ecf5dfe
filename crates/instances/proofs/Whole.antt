-- The whole list: its table, its formulas over numbers and its length.
use Rattle.std.proofs.Common.{◌≡◌, ℕ, ◌<◌, ◌≤◌, Bool, true, false, Some, None, List, [], length, filter, refl, sym, ◌∙◌, ap, arith}
use Rattle.std.specs.Prelude.{ltb, ◌==◌, Err}
use Rattle.std.proofs.lemmas.Bool.{ltb-true, ltb-false}
use Rattle.std.proofs.lemmas.Option.{none-some}
use Rattle.spec_core.specs.Specification.{Specification}
use Rattle.obligation_list.specs.declared.obligation.Obligation.{Obligation}
use Rattle.ground_problem.specs.Symbols.{Symbolic}
use Rattle.ground_problem.specs.Problem.{formulas_of}
use Rattle.ground_problem.specs.Definitions.{readings_after}
use Rattle.ground_numbers.specs.Numbered.{Numbered}
use Rattle.ground_numbers.specs.Problem.{table_of, numbered_of}
use Rattle.ground_atoms.specs.Known.{Known}
use Rattle.ground_atoms.specs.Making.{MadeList, make_all}
use Rattle.ground_atoms.proofs.Numbering.{make_all-is, readings_after-made}
use Rattle.ground_problem.specs.Problem.{most_formulas}
use Rattle.ground_groups.specs.Limited.{make_upto, Makes}
use Rattle.instances.specs.Ground.{IsGround}
use Rattle.ground_groups.specs.declared.refused.GroundRefused.{GroundRefused}
use Rattle.ground_groups.specs.declared.refused.GroundRefused.TheVariants.{TooMany, Memory}
use Rattle.ground_groups.specs.declared.grounding.Grounding.{Grounding}
use Rattle.ground_groups.specs.Calls.{numbered_arguments}
use Rattle.ground_groups.proofs.Lists.{upto_beyond, upto_is_all, upto_made}

-- the readings that a list names are those that were named as it was made
pub named_are : (d : Specification) (ob : Obligation) (n : ℕ) (list : List Symbolic) (l : Known) (fs : List Numbered) → make_upto [] (numbered_arguments d ob) list ≡ Some (record { known = l; forms = fs })
    → filter (λ q. length q.stage == n) l.named ≡ readings_after n list
named_are d ob n list l fs e =
    sym (readings_after-made d ob [] n list ∙ ap (λ (m : MadeList). filter (λ q. length q.stage == n) m.known.named) (upto_made [] (numbered_arguments d ob) list (record { known = l; forms = fs }) e))

pub table_made : (d : Specification) (ob : Obligation) (k : Known) (fs : List Numbered) → make_upto [] (numbered_arguments d ob) (formulas_of d ob) ≡ Some (record { known = k; forms = fs }) → k.table ≡ table_of d ob
table_made d ob k fs e =
    ap (λ (m : MadeList). m.known.table) (sym (upto_made [] (numbered_arguments d ob) (formulas_of d ob) (record { known = k; forms = fs }) e) ∙ make_all-is [] (numbered_arguments d ob) (formulas_of d ob))

pub forms_made : (d : Specification) (ob : Obligation) (k : Known) (fs : List Numbered) → make_upto [] (numbered_arguments d ob) (formulas_of d ob) ≡ Some (record { known = k; forms = fs }) → fs ≡ numbered_of d ob
forms_made d ob k fs e =
    ap (λ (m : MadeList). m.forms) (sym (upto_made [] (numbered_arguments d ob) (formulas_of d ob) (record { known = k; forms = fs }) e) ∙ make_all-is [] (numbered_arguments d ob) (formulas_of d ob))

-- ---- the length

pub few_made : (k : Known) (list : List Symbolic) (m : MadeList) → make_upto [] k list ≡ Some m → length list ≤ most_formulas
few_made k list m e = by_test (ltb most_formulas (length list)) refl
  where
    by_test : (b : Bool) → ltb most_formulas (length list) ≡ b → length list ≤ most_formulas
    by_test true h = absurd (let l = ltb-true most_formulas (length list) h in let n : make_upto [] k list ≡ None = upto_beyond [] k list (omega (arith, l)) in none-some m (sym n ∙ e))
    by_test false h = ltb-false most_formulas (length list) h

pub many_made : (k : Known) (list : List Symbolic) → make_upto [] k list ≡ None → most_formulas < length list
many_made k list e = by_test (ltb most_formulas (length list)) refl
  where
    by_test : (b : Bool) → ltb most_formulas (length list) ≡ b → most_formulas < length list
    by_test true h = ltb-true most_formulas (length list) h
    by_test false h = absurd (let l = ltb-false most_formulas (length list) h in let n : make_upto [] k list ≡ Some (make_all [] k list) = upto_is_all [] k list (omega (arith, l)) in none-some (make_all [] k list) (sym e ∙ n))

pub ground_refused : (d : Specification) (ob : Obligation) (why : GroundRefused) (new : Grounding) → Makes {A = Unit {0}} (Err why) (numbered_arguments d ob) (formulas_of d ob) new → IsGround d ob (Err why)
ground_refused d ob TooMany new e = many_made (numbered_arguments d ob) (formulas_of d ob) e
ground_refused d ob Memory new e = tt
