-- The calls at constants and at names, with the elements and the values of a program, are those that an interpretation gives.
use Rattle.std.proofs.Common.{◌≡◌, ℕ, zero, suc, ◌+◌, ◌<◌, ℤ, pos, true, cond, None, Some, unwrap_or, List, [], ◌∷◌, ◌++◌, map, length, get_or, slice_get, slice_index, refl, sym, ◌∙◌, ap, subst, arith}
use Rattle.std.specs.List.{fold}
use Rattle.std.proofs.lemmas.Bool.{eq-eqb}
use Rattle.std.proofs.lemmas.List.{length-map}
use Rattle.std.proofs.lemmas.Option.{slice_get_within, get_or_from_slice_get}
use Rattle.spec_core.specs.declared.operation.Kind.{Kind}
use Rattle.spec_core.specs.declared.operation.Kind.TheVariants.{Sort, Int}
use Rattle.spec_core.specs.declared.operation.Param.{Param as Parameter}
use Rattle.spec_core.specs.Specification.{Specification, op_of}
use Rattle.spec_core.specs.Typed.{is_int, is_sort, sort_of_param}
use Rattle.obligation_list.specs.declared.obligation.Obligation.{Obligation}
use Rattle.obligation_list.specs.Breaking.{operations_of}
use Rattle.proof_lines.specs.Problems.{Meaning}
use Rattle.ground_problem.specs.Symbols.{Integer, argument, Interpretation}
use Rattle.ground_problem.specs.Constants.{constants_of, params_from, all_params_from, params_of, sorts_of_params}
use Rattle.ground_problem.specs.Formulas.{caller}
use Rattle.ground_problem.specs.Problem.{formulas_of}
use Rattle.ground_problem.specs.Readback as back
use Rattle.ground_problem.proofs.Sorted.{params_sorted}
use Rattle.ground_problem.proofs.Worlds.{sort_of}
use Rattle.ground_numbers.specs.Numbers.{same_integers, Table, has_integer, integer_of, with_integer}
use Rattle.ground_numbers.specs.Problem.{numbers_from, arguments_from, arguments_of, table_of, interpretation_of}
use Rattle.ground_numbers.proofs.Growing.{naming_all-extends}
use Rattle.model_back.proofs.Numbered.{no_integer}
use Rattle.ground_numbers.proofs.Sameness.{same_integers-refl}
use Rattle.ground_atoms.specs.declared.call.GroundArg.TheVariants as arg
use Rattle.ground_atoms.specs.Calls.{args_from, ints_among, calls_from, calls_of}
use Rattle.model_back.specs.Calls.{argument_by, call_by}
use Rattle.model_back.proofs.Places.{any-at, Apart, added-apart}

-- ---- what stands in a list from a place on

abbrev From : List Integer → ℕ → List Integer → Type 0
From all n rest = (j : ℕ) → slice_get all (n + j) ≡ slice_get rest j

from_whole : (all : List Integer) → From all 0 all
from_whole all j = (let e : 0 + j ≡ j = omega arith in ap (slice_get all) e)

from_past : (all : List Integer) (n : ℕ) (xs rest : List Integer) → From all n (xs ++ rest) → From all (n + length xs) rest
from_past all n [] rest h j = (let e : n + 0 + j ≡ n + j = omega arith in ap (slice_get all) e ∙ h j)
from_past all n (x ∷ xs) rest h j = (let e : n + suc (length xs) + j ≡ suc n + length xs + j = omega arith in ap (slice_get all) e ∙ from_past all (suc n) xs rest next j)
  where
    next : From all (suc n) (xs ++ rest)
    next i = (let e : suc n + i ≡ n + suc i = omega arith in ap (slice_get all) e ∙ h (suc i))

front : (n : ℕ) (ps : List ℕ) (rest : List Integer) (j p : ℕ) → slice_get ps j ≡ Some p → slice_get (map (argument n) ps ++ rest) j ≡ Some (argument n p)
front n [] rest j p h = absurd cc
front n (q ∷ ps) rest zero p h = (let e : q ≡ p = cc in ap (λ (x : ℕ). Some (argument n x)) e)
front n (q ∷ ps) rest (suc j) p h = front n ps rest j p h

how_many : (n from : ℕ) (ps : List Parameter) → length (map (argument n) (numbers_from from ps)) ≡ ints_among ps
how_many n from [] = refl
how_many n from (p ∷ ps) = by_kind p.kind (how_many n (suc from) ps)
  where
    by_kind : (k : Kind) → length (map (argument n) (numbers_from (suc from) ps)) ≡ ints_among ps → length (map (argument n) (cond (is_int k) (from ∷ numbers_from (suc from) ps) (numbers_from (suc from) ps))) ≡ cond (is_int k) (suc (ints_among ps)) (ints_among ps)
    by_kind (Sort s) h = h
    by_kind Int h = ap suc h

-- ---- integers that are numbered one by one stand at the first place of an equal one

abbrev AnyName : Integer → Type 0
AnyName x = Unit {0}

abbrev AreApart : List Integer → Type 0
AreApart xs = Apart same_integers same_integers-refl no_integer AnyName xs

numbered-apart : (t : Table) (xs : List Integer) → AreApart t.ints → AreApart (fold with_integer t xs).ints
numbered-apart t [] h = h
numbered-apart t (x ∷ xs) h = numbered-apart (with_integer t x) xs (added-apart same_integers same_integers-refl no_integer AnyName t.ints x h)

nothing-apart : AreApart []
nothing-apart i l w = absurd (omega arith)

-- ---- the arguments of one call

args-are : (val : ℕ → ℕ) (num : ℕ → ℤ) (e : ℕ → ℕ) (f : ℕ → ℤ) (n i from : ℕ) (ps : List Parameter)
    → ((j s : ℕ) → is_sort (sort_of_param (slice_get ps j)) s ≡ true → val (unwrap_or (get_or (params_from n ps) j None) 0) ≡ e (from + j))
    → ((j p : ℕ) → slice_get (numbers_from from ps) j ≡ Some p → num (i + j) ≡ f p)
    → map (argument_by val num) (args_from n i ps) ≡ back.arguments_from e f from ps
args-are val num e f n i from [] h k = refl
args-are val num e f n i from (p ∷ ps) h k = by_kind p.kind h k (args-are val num e f (suc n) i (from + 1) ps) (args-are val num e f n (suc i) (from + 1) ps)
  where
    place : (j : ℕ) → from + suc j ≡ from + 1 + j
    place j = omega arith

    one : from + 0 ≡ from
    one = omega arith

    next : suc from ≡ from + 1
    next = omega arith

    self : (s : ℕ) → is_sort (Some s) s ≡ true
    self s = eq-eqb s s refl

    -- the elements and the numbers of the parameters after this one, whose first constant and first integer have these numbers
    Elements : ℕ → Type 0
    Elements c = (j s : ℕ) → is_sort (sort_of_param (slice_get ps j)) s ≡ true → val (unwrap_or (get_or (params_from c ps) j None) 0) ≡ e (from + 1 + j)

    Numbers : ℕ → Type 0
    Numbers n = (j q : ℕ) → slice_get (numbers_from (from + 1) ps) j ≡ Some q → num (n + j) ≡ f q

    Are : ℕ → ℕ → Type 0
    Are c n = map (argument_by val num) (args_from c n ps) ≡ back.arguments_from e f (from + 1) ps

    by_kind : (kind : Kind)
        → ((j s : ℕ) → is_sort (sort_of_param (slice_get (record p { kind = kind } ∷ ps) j)) s ≡ true → val (unwrap_or (get_or (cond (is_int kind) (None ∷ params_from n ps) (Some n ∷ params_from (suc n) ps)) j None) 0) ≡ e (from + j))
        → ((j q : ℕ) → slice_get (cond (is_int kind) (from ∷ numbers_from (suc from) ps) (numbers_from (suc from) ps)) j ≡ Some q → num (i + j) ≡ f q)
        → (Elements (suc n) → Numbers i → Are (suc n) i) → (Elements n → Numbers (suc i) → Are n (suc i))
        → map (argument_by val num) (cond (is_int kind) (arg.Int i ∷ args_from n (suc i) ps) (arg.Elem n ∷ args_from (suc n) i ps)) ≡ back.argument_of kind (e from) (f from) ∷ back.arguments_from e f (from + 1) ps
    by_kind (Sort t) h k more one_more =
        let here : val n ≡ e from = h 0 t (self t) ∙ ap e one in
        let rest = more (λ j s q. h (suc j) s q ∙ ap e (place j)) (λ j q g. k j q (ap (λ (x : ℕ). slice_get (numbers_from x ps) j) next ∙ g)) in
        λ z. pos (here z) ∷ rest z
    by_kind Int h k more one_more =
        let zeroth : i ≡ i + 0 = omega arith in
        let here : num i ≡ f from = ap num zeroth ∙ k 0 from refl in
        let rest = one_more (λ j s q. h (suc j) s q ∙ ap e (place j)) (λ j q g. (let w : suc i + j ≡ i + suc j = omega arith in ap num w ∙ k (suc j) q (ap (λ (x : ℕ). slice_get (numbers_from x ps) j) next ∙ g))) in
        λ z. here z ∷ rest z

-- ---- the calls of an obligation

module _ (d : Specification) (ob : Obligation) (are_first : fold with_integer (record { atoms = []; ints = [] }) (arguments_of d ob) ≡ record { atoms = []; ints = arguments_of d ob }) (mu : Meaning) (val : ℕ → ℕ) (own : (c : ℕ) → c < length (constants_of d ob).sorts → val c ≡ back.element_at d ob (interpretation_of (table_of d ob) mu) c) where
  abbrev o : Table
  o = table_of d ob

  abbrev m : Interpretation
  m = interpretation_of o mu

  abbrev first : List Integer
  first = arguments_of d ob

  abbrev start : Table
  start = record { atoms = []; ints = first }

  abbrev params : ℕ → List Parameter
  params x = (op_of d x).params

  first-apart : AreApart first
  first-apart = subst (λ (t : Table). AreApart t.ints) are_first (numbered-apart (record { atoms = []; ints = [] }) first nothing-apart)

  -- a name among the first has its place as number
  argument-is : (i : ℕ) (x : Integer) → slice_get first i ≡ Some x → mu.number i ≡ m.int x
  argument-is i x h =
      let l = slice_get_within first i x h in
      let g = get_or_from_slice_get first i x no_integer h in
      let there : has_integer start x ≡ true = any-at (same_integers x) first i no_integer l (subst (λ (y : Integer). same_integers x y ≡ true) (sym g) (same_integers-refl x)) in
      let number : integer_of start x ≡ i = subst (λ (y : Integer). integer_of start y ≡ i) g (first-apart i l tt) in
      let stays = (naming_all-extends start (formulas_of d ob)).ints x there in
      sym (ap (λ b. cond b (mu.number (integer_of o x)) (pos 0)) stays.0 ∙ ap mu.number (stays.1 ∙ number))

  calls-from : (n i k : ℕ) (os : List ℕ)
      → ((q j s : ℕ) → q < length os → is_sort (sort_of_param (slice_get (params (slice_index os q)) j)) s ≡ true → val (unwrap_or (get_or (get_or (all_params_from n (map params os)) q []) j None) 0) ≡ back.element_at d ob m (unwrap_or (get_or (caller (constants_of d ob) (k + q)).params j None) 0))
      → From first i (arguments_from k (map params os))
      → map (call_by val mu.number) (calls_from d n i os) ≡ back.calls_from d ob m k os
  calls-from n i k [] h t = refl
  calls-from n i k (x ∷ os) h t =
      let zeroth : k + 0 ≡ k = omega arith in
      let ns = map (argument k) (numbers_from 0 (params x)) in
      let rest = arguments_from (suc k) (map params os) in
      let here = args-are val mu.number (λ j. back.element_at d ob m (unwrap_or (get_or (caller (constants_of d ob) k).params j None) 0)) (λ j. m.int (argument k j)) n i 0 (params x)
      (λ j s q. (let e : j ≡ 0 + j = omega arith in h 0 j s (omega arith) q ∙ ap (λ (y : ℕ). back.element_at d ob m (unwrap_or (get_or (caller (constants_of d ob) y).params j None) 0)) zeroth ∙ ap (λ (y : ℕ). back.element_at d ob m (unwrap_or (get_or (caller (constants_of d ob) k).params y None) 0)) e))
      (λ j p g. argument-is (i + j) (argument k p) (t j ∙ front k (numbers_from 0 (params x)) rest j p g)) in
      let more = calls-from (n + length (sorts_of_params (params x))) (i + ints_among (params x)) (suc k) os
      (λ q j s l g. (let e : k + suc q ≡ suc k + q = omega arith in h (suc q) j s (omega arith) g ∙ ap (λ (y : ℕ). back.element_at d ob m (unwrap_or (get_or (caller (constants_of d ob) y).params j None) 0)) e))
      (subst (λ (y : ℕ). From first (i + y) rest) (how_many k 0 (params x)) (from_past first i ns rest t)) in
      λ z. record { op = x; args = here z } ∷ more z

  -- with the elements of all constants and the values of all names
  pub calls-are : map (call_by val mu.number) (calls_of d ob) ≡ back.calls_of d ob m
  calls-are =
      let declared : length d.consts ≡ length (map (λ c. c.sort) d.consts) = sym (length-map d.consts (λ c. c.sort)) in
      calls-from (length d.consts) 0 0 (operations_of ob)
      (λ q j s l g. (let e : q ≡ 0 + q = omega arith in
      let same = ap (λ (n : ℕ). val (unwrap_or (get_or (get_or (all_params_from n (params_of d ob)) q []) j None) 0)) declared in
      same ∙ own (unwrap_or (get_or (caller (constants_of d ob) q).params j None) 0) (sort_of (constants_of d ob).sorts s _ (params_sorted d ob q l j s g)).0
      ∙ ap (λ (y : ℕ). back.element_at d ob m (unwrap_or (get_or (caller (constants_of d ob) y).params j None) 0)) e))
      (from_whole first)
