-- The constants that are gathered one list after another are those of the obligation.
use Rattle.std.proofs.Common.{◌≡◌, ℕ, suc, ◌+◌, Bool, true, false, cond, Option, Some, None, List, [], ◌∷◌, ◌++◌, length, map, length-append, append_assoc, refl, ◌∙◌, ap}
use Rattle.std.specs.List.{flat_map, range_with_len}
use Rattle.spec_core.specs.declared.operation.Param.{Param as Parameter}
use Rattle.spec_core.specs.Specification.{Specification, op_of}
use Rattle.spec_core.specs.Typed.{is_int}
use Rattle.obligation_list.specs.declared.obligation.Obligation.{Obligation}
use Rattle.obligation_list.specs.Breaking.{operations_of, elements_of}
use Rattle.ground_problem.specs.Constants.{constants_of, sorts_of_params, params_from, all_params_from, concatenated, all_chosen_from, params_of, chosen_of}
use Rattle.ground_atoms.specs.declared.call.GroundCall.{GroundCall}
use Rattle.ground_atoms.specs.declared.call.GroundArg.TheVariants.{Elem, Int}
use Rattle.ground_atoms.specs.Formulas.{consts_of_args}
use Rattle.ground_atoms.specs.Calls.{args_from, calls_from}
use Rattle.ground_groups.specs.Calls.{constants_in}

args-params : (n i : ℕ) (ps : List Parameter) → consts_of_args (args_from n i ps) ≡ params_from n ps
args-params n i [] = refl
args-params n i (p ∷ ps) = by_kind (is_int p.kind) (args-params n (suc i) ps) (args-params (suc n) i ps)
  where
    by_kind : (b : Bool) → consts_of_args (args_from n (suc i) ps) ≡ params_from n ps → consts_of_args (args_from (suc n) i ps) ≡ params_from (suc n) ps
        → consts_of_args (cond b (Int i ∷ args_from n (suc i) ps) (Elem n ∷ args_from (suc n) i ps)) ≡ cond b (None ∷ params_from n ps) (Some n ∷ params_from (suc n) ps)
    by_kind true e f = ap (λ (l : List (Option ℕ)). None ∷ l) e
    by_kind false e f = ap (λ (l : List (Option ℕ)). Some n ∷ l) f

pub calls-params : (d : Specification) (n i : ℕ) (os : List ℕ) → map (λ g. consts_of_args g.args) (calls_from d n i os) ≡ all_params_from n (map (λ o. (op_of d o).params) os)
calls-params d n i [] = refl
calls-params d n i (o ∷ os) = (let e = args-params n i (op_of d o).params in let f = calls-params d (n + length (sorts_of_params (op_of d o).params)) _ os in λ z. e z ∷ f z)

pub gathered : (d : Specification) (ob : Obligation) (declared first second all : List ℕ) (calls : List GroundCall) (chosen : List (List (List ℕ))) (elements : List ℕ)
    → declared ≡ map (λ c. c.sort) d.consts
    → calls ≡ calls_from d (length declared) 0 (operations_of ob)
    → first ≡ declared ++ flat_map sorts_of_params (params_of d ob)
    → chosen ≡ all_chosen_from (length first) (chosen_of d ob)
    → second ≡ first ++ flat_map concatenated (chosen_of d ob)
    → elements ≡ range_with_len (length second) (length (elements_of d ob))
    → all ≡ second ++ elements_of d ob
    → constants_in (record { sorts = all; calls = calls; chosen = chosen; elements = elements }) ≡ constants_of d ob
gathered d ob declared first second all calls chosen elements a b c e f g h =
    let params = flat_map sorts_of_params (params_of d ob) in
    let picked = flat_map concatenated (chosen_of d ob) in
    let es = elements_of d ob in
    let front : declared ++ params ≡ map (λ k. k.sort) d.consts ++ params = ap (λ (l : List ℕ). l ++ params) a in
    let first_is : first ≡ map (λ k. k.sort) d.consts ++ params = c ∙ front in
    let second_is : second ≡ (map (λ k. k.sort) d.consts ++ params) ++ picked = f ∙ ap (λ (l : List ℕ). l ++ picked) first_is in
    let all_is : all ≡ map (λ k. k.sort) d.consts ++ (params ++ (picked ++ es)) =
    h ∙ ap (λ (l : List ℕ). l ++ es) second_is ∙ append_assoc (map (λ k. k.sort) d.consts ++ params) picked es ∙ append_assoc (map (λ k. k.sort) d.consts) params (picked ++ es) in
    let first_length : length first ≡ length (map (λ k. k.sort) d.consts) + length params = ap length first_is ∙ length-append (map (λ k. k.sort) d.consts) params in
    let second_length : length second ≡ length (map (λ k. k.sort) d.consts) + length params + length picked =
    ap length second_is ∙ length-append (map (λ k. k.sort) d.consts ++ params) picked ∙ ap (λ (n : ℕ). n + length picked) (length-append (map (λ k. k.sort) d.consts) params) in
    let calls_are : map (λ k. consts_of_args k.args) calls ≡ all_params_from (length (map (λ k. k.sort) d.consts)) (params_of d ob) =
    ap (map (λ k. consts_of_args k.args)) (b ∙ ap (λ (l : List ℕ). calls_from d (length l) 0 (operations_of ob)) a) ∙ calls-params d (length (map (λ k. k.sort) d.consts)) 0 (operations_of ob) in
    let chosen_are : chosen ≡ all_chosen_from (length (map (λ k. k.sort) d.consts) + length params) (chosen_of d ob) = e ∙ ap (λ (n : ℕ). all_chosen_from n (chosen_of d ob)) first_length in
    let elements_are : elements ≡ range_with_len (length (map (λ k. k.sort) d.consts) + length params + length picked) (length es) = g ∙ ap (λ (n : ℕ). range_with_len n (length es)) second_length in
    λ i. record { sorts = all_is i; params = calls_are i; chosen = chosen_are i; elements = elements_are i }
