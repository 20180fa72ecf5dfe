-- The sorts of the constants of an obligation.
use Rattle.std.proofs.Common.{◌≡◌, ℕ, zero, suc, ◌+◌, ◌<◌, true, cond, Option, None, Some, unwrap_or, List, [], ◌∷◌, ◌++◌, map, length, get_or, slice_get, slice_index, flat_map, filter_map, sym, ◌∙◌, ap, subst, arith, append_assoc, append-nil}
use Rattle.std.specs.List.{range_with_len}
use Rattle.std.proofs.lemmas.Bool.{and_parts, eqb-true}
use Rattle.std.proofs.lemmas.Bool.Decides.{nat_tests}
use Rattle.spec_core.specs.declared.operation.Kind.{Kind}
use Rattle.spec_core.specs.declared.operation.Kind.TheVariants.{Sort, Int}
use Rattle.spec_core.specs.declared.operation.Param.{Param as Parameter}
use Rattle.spec_core.specs.State.{is_in}
use Rattle.spec_core.specs.Specification.{Specification, op_of}
use Rattle.spec_core.specs.Typed.{sort_of_kind, sort_of_param, is_sort, is_int}
use Rattle.obligation_list.specs.declared.obligation.Obligation.{Obligation}
use Rattle.obligation_list.specs.Breaking.{operations_of, elements_of}
use Rattle.ground_problem.specs.Constants.{constants_of, sorts_of_params, params_from, all_params_from, chosen_of, concatenated, chosen_from, all_chosen_from, of_sort, assignments}
use Rattle.ground_problem.specs.Formulas.{caller}
use Rattle.ground_problem.proofs.Choices.{members, one_of, in_choices, in_sort}
use Rattle.ground_problem.proofs.First.{sorts_of_calls}
use Rattle.ground_problem.proofs.Worlds.{HasSort, has_sort}
use Rattle.ground_problem.proofs.Rows.{HaveSorts}

-- the sorts that stand from a place on
abbrev pub SortsFrom : List ℕ → ℕ → List ℕ → Type 0
SortsFrom sorts n rest = (j : ℕ) → slice_get sorts (n + j) ≡ slice_get rest j

from_whole : (sorts : List ℕ) → SortsFrom sorts 0 sorts
from_whole sorts j = (let e : 0 + j ≡ j = omega arith in ap (slice_get sorts) e)

from_next : (sorts : List ℕ) (n x : ℕ) (rest : List ℕ) → SortsFrom sorts n (x ∷ rest) → SortsFrom sorts (suc n) rest
from_next sorts n x rest h j = (let e : suc n + j ≡ n + suc j = omega arith in ap (slice_get sorts) e ∙ h (suc j))

from_past : (sorts : List ℕ) (n : ℕ) (t rest : List ℕ) → SortsFrom sorts n (t ++ rest) → SortsFrom sorts (n + length t) rest
from_past sorts n [] rest h j = (let e : n + 0 + j ≡ n + j = omega arith in ap (slice_get sorts) e ∙ h j)
from_past sorts n (x ∷ t) rest h j = (let e : n + suc (length t) + j ≡ suc n + length t + j = omega arith in ap (slice_get sorts) e ∙ from_past sorts (suc n) t rest (from_next sorts n x (t ++ rest) h) j)

from_grouped : (sorts : List ℕ) (n : ℕ) (a b : List ℕ) → a ≡ b → SortsFrom sorts n a → SortsFrom sorts n b
from_grouped sorts n a b e h j = h j ∙ ap (λ (x : List ℕ). slice_get x j) e

same_true : (s : ℕ) → is_sort (Some s) s ≡ true
same_true s = grind (arith, nat_tests)

here : (sorts : List ℕ) (n x : ℕ) (rest : List ℕ) → SortsFrom sorts n (x ∷ rest) → HasSort sorts x n
here sorts n x rest h = (let e : n ≡ n + 0 = omega arith in ap (λ (y : Option ℕ). is_sort y x) (ap (slice_get sorts) e ∙ h 0) ∙ same_true x)

range_sorted : (sorts : List ℕ) (n : ℕ) (t rest : List ℕ) → SortsFrom sorts n (t ++ rest) → HaveSorts sorts t (range_with_len n (length t))
range_sorted sorts n [] rest h = tt
range_sorted sorts n (x ∷ t) rest h = (here sorts n x (t ++ rest) h, (let e : suc n ≡ n + 1 = omega arith in range_sorted sorts (n + 1) t rest (subst (λ (y : ℕ). SortsFrom sorts y (t ++ rest)) e (from_next sorts n x (t ++ rest) h))))

-- the constants of parameters have their sorts
params_sorted_from : (sorts : List ℕ) (n : ℕ) (ps : List Parameter) (rest : List ℕ) → SortsFrom sorts n (sorts_of_params ps ++ rest) → (i s : ℕ) → is_sort (sort_of_param (slice_get ps i)) s ≡ true → HasSort sorts s (unwrap_or (get_or (params_from n ps) i None) 0)
params_sorted_from sorts n [] rest h i s k = absurd cc
params_sorted_from sorts n (p ∷ ps) rest h i s k = by_kind p.kind h i k (params_sorted_from sorts n ps rest) (params_sorted_from sorts (suc n) ps rest)
  where
    by_kind : (kind : Kind) → SortsFrom sorts n (filter_map (λ (p : Parameter). sort_of_kind p.kind) (record p { kind = kind } ∷ ps) ++ rest) → (i : ℕ) → is_sort (sort_of_param (slice_get (record p { kind = kind } ∷ ps) i)) s ≡ true
        → (SortsFrom sorts n (sorts_of_params ps ++ rest) → (i s : ℕ) → is_sort (sort_of_param (slice_get ps i)) s ≡ true → HasSort sorts s (unwrap_or (get_or (params_from n ps) i None) 0))
        → (SortsFrom sorts (suc n) (sorts_of_params ps ++ rest) → (i s : ℕ) → is_sort (sort_of_param (slice_get ps i)) s ≡ true → HasSort sorts s (unwrap_or (get_or (params_from (suc n) ps) i None) 0))
        → HasSort sorts s (unwrap_or (get_or (cond (is_int kind) (None ∷ params_from n ps) (Some n ∷ params_from (suc n) ps)) i None) 0)
    by_kind (Sort t) h zero k one more = subst (λ (y : ℕ). HasSort sorts y n) (eqb-true t s k) (here sorts n t (sorts_of_params ps ++ rest) h)
    by_kind (Sort t) h (suc i) k one more = more (from_next sorts n t (sorts_of_params ps ++ rest) h) i s k
    by_kind Int h zero k one more = absurd cc
    by_kind Int h (suc i) k one more = one h i s k

calls_sorted : (d : Specification) (sorts : List ℕ) (n : ℕ) (os rest : List ℕ) → SortsFrom sorts n (sorts_of_calls d os ++ rest) → (k : ℕ) → k < length os → (i s : ℕ) → is_sort (sort_of_param (slice_get (op_of d (slice_index os k)).params i)) s ≡ true
    → HasSort sorts s (unwrap_or (get_or (get_or (all_params_from n (map (λ o. (op_of d o).params) os)) k []) i None) 0)
calls_sorted d sorts n [] rest h k l i s q = absurd (omega arith)
calls_sorted d sorts n (o ∷ os) rest h zero l i s q = params_sorted_from sorts n (op_of d o).params (sorts_of_calls d os ++ rest) (from_grouped sorts n _ _ (append_assoc (sorts_of_params (op_of d o).params) (sorts_of_calls d os) rest) h) i s q
calls_sorted d sorts n (o ∷ os) rest h (suc k) l i s q = calls_sorted d sorts (n + length (sorts_of_params (op_of d o).params)) os rest (from_past sorts n (sorts_of_params (op_of d o).params) (sorts_of_calls d os ++ rest) (from_grouped sorts n _ _ (append_assoc (sorts_of_params (op_of d o).params) (sorts_of_calls d os) rest) h)) k (omega arith) i s q

-- the constants of requires lines
abbrev pub OwnSorted : List ℕ → List (List ℕ) → List (List ℕ) → Type 0
OwnSorted sorts [] [] = Unit {0}
OwnSorted sorts [] (own ∷ owns) = ⊥
OwnSorted sorts (ss ∷ more) [] = ⊥
OwnSorted sorts (ss ∷ more) (own ∷ owns) = HaveSorts sorts ss own × OwnSorted sorts more owns

abbrev pub AllSorted : List ℕ → List (List (List ℕ)) → List (List (List ℕ)) → Type 0
AllSorted sorts [] [] = Unit {0}
AllSorted sorts [] (own ∷ owns) = ⊥
AllSorted sorts (ss ∷ more) [] = ⊥
AllSorted sorts (ss ∷ more) (own ∷ owns) = OwnSorted sorts ss own × AllSorted sorts more owns

own_sorted : (sorts : List ℕ) (n : ℕ) (ss : List (List ℕ)) (rest : List ℕ) → SortsFrom sorts n (concatenated ss ++ rest) → OwnSorted sorts ss (chosen_from n ss)
own_sorted sorts n [] rest h = tt
own_sorted sorts n (s ∷ ss) rest h = (let g = from_grouped sorts n _ _ (append_assoc s (concatenated ss) rest) h in (range_sorted sorts n s (concatenated ss ++ rest) g, own_sorted sorts (n + length s) ss rest (from_past sorts n s (concatenated ss ++ rest) g)))

all_sorted : (sorts : List ℕ) (n : ℕ) (ss : List (List (List ℕ))) (rest : List ℕ) → SortsFrom sorts n (flat_map concatenated ss ++ rest) → AllSorted sorts ss (all_chosen_from n ss)
all_sorted sorts n [] rest h = tt
all_sorted sorts n (s ∷ ss) rest h = (let g = from_grouped sorts n _ _ (append_assoc (concatenated s) (flat_map concatenated ss) rest) h in (own_sorted sorts n s (flat_map concatenated ss ++ rest) g, all_sorted sorts (n + length (concatenated s)) ss rest (from_past sorts n (concatenated s) (flat_map concatenated ss ++ rest) g)))

front_sorted : (a b : List ℕ) (n s : ℕ) → HasSort a s n → HasSort (a ++ b) s n
front_sorted [] b n s h = absurd cc
front_sorted (x ∷ a) b zero s h = h
front_sorted (x ∷ a) b (suc n) s h = front_sorted a b n s h

module _ (d : Specification) (ob : Obligation) where
  abbrev pub sorts : List ℕ
  sorts = (constants_of d ob).sorts

  abbrev declared : List ℕ
  declared = map (λ c. c.sort) d.consts

  abbrev chosen : List ℕ
  chosen = flat_map concatenated (chosen_of d ob)

  params_at : SortsFrom sorts (length declared) (sorts_of_calls d (operations_of ob) ++ (chosen ++ elements_of d ob))
  params_at = subst (λ (n : ℕ). SortsFrom sorts n (sorts_of_calls d (operations_of ob) ++ (chosen ++ elements_of d ob))) (let e : 0 + length declared ≡ length declared = omega arith in e) (from_past sorts 0 declared (sorts_of_calls d (operations_of ob) ++ (chosen ++ elements_of d ob)) (from_whole sorts))

  chosen_at : SortsFrom sorts (length declared + length (sorts_of_calls d (operations_of ob))) (chosen ++ elements_of d ob)
  chosen_at = from_past sorts (length declared) (sorts_of_calls d (operations_of ob)) (chosen ++ elements_of d ob) params_at

  elements_at : SortsFrom sorts (length declared + length (sorts_of_calls d (operations_of ob)) + length chosen) (elements_of d ob)
  elements_at = from_past sorts (length declared + length (sorts_of_calls d (operations_of ob))) chosen (elements_of d ob) chosen_at

  pub own_sort : (n s : ℕ) → HasSort declared s n → HasSort sorts s n
  own_sort n s h = front_sorted declared (sorts_of_calls d (operations_of ob) ++ (chosen ++ elements_of d ob)) n s h

  pub params_sorted : (n : ℕ) → n < length (operations_of ob) → (i s : ℕ) → is_sort (sort_of_param (slice_get (op_of d (slice_index (operations_of ob) n)).params i)) s ≡ true → HasSort sorts s (unwrap_or (get_or (caller (constants_of d ob) n).params i None) 0)
  params_sorted n l i s k = calls_sorted d sorts (length declared) (operations_of ob) (chosen ++ elements_of d ob) params_at n l i s k

  pub chosen_sorted : AllSorted sorts (chosen_of d ob) (constants_of d ob).chosen
  chosen_sorted = all_sorted sorts (length declared + length (sorts_of_calls d (operations_of ob))) (chosen_of d ob) (elements_of d ob) chosen_at

  pub elements_sorted : HaveSorts sorts (elements_of d ob) (constants_of d ob).elements
  elements_sorted = range_sorted sorts _ (elements_of d ob) [] (λ j. elements_at j ∙ ap (λ (x : List ℕ). slice_get x j) (sym (append-nil (elements_of d ob))))

  members_sorted : (vars vs : List ℕ) → members (map (of_sort 0 sorts) vars) vs ≡ true → HaveSorts sorts vars vs
  members_sorted [] [] h = tt
  members_sorted [] (x ∷ xs) h = absurd cc
  members_sorted (s ∷ ss) [] h = absurd cc
  members_sorted (s ∷ ss) (x ∷ xs) h =
      let h2 = and_parts (one_of x (of_sort 0 sorts s)) (members (map (of_sort 0 sorts) ss) xs) h in
      let p = in_sort x 0 sorts s h2.0 in
      let e : p.0 ≡ x = (let q = p.1 in omega arith) in
      (subst (λ (y : ℕ). HasSort sorts s y) e (has_sort sorts s p.0 p.2 p.3), members_sorted ss xs h2.1)

  pub assigned_sorted : (vars vs : List ℕ) → is_in vs (assignments (constants_of d ob) vars) ≡ true → HaveSorts sorts vars vs
  assigned_sorted vars vs h = members_sorted vars vs (sym (in_choices (map (of_sort 0 sorts) vars) vs) ∙ h)
