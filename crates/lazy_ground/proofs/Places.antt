-- The equality of two tuples, place by place, over numbers that are known.
use Rattle.std.proofs.Common.{◌≡◌, ℕ, suc, zero, ◌+◌, ◌<◌, List, [], ◌∷◌, length, map, drop, drop-cons, get_or, Option, Some, None, refl, sym, ◌∙◌, ap, subst, arith}
use Rattle.std.specs.Prelude.{IfSome}
use Rattle.ground_problem.specs.Symbols.{Symbolic, both, both_and, all_parts, same_const}
use Rattle.ground_problem.specs.Equality.{tuples_same}
use Rattle.ground_numbers.specs.Numbered.{Numbered, conjunction}
use Rattle.ground_numbers.specs.Numbers.{Table, numbered}
use Rattle.ground_atoms.specs.Formulas.{form_of}
use Rattle.ground_atoms.specs.declared.formula.GroundFormula.{GroundFormula}

-- parts behind a formula, nested to the left
abbrev pub joined : Numbered → List Numbered → Numbered
joined f [] = f
joined f (g ∷ gs) = joined (conjunction f g) gs

-- a formula, and the equality of two tuples from a place on
abbrev pub with_places : Table → List ℕ → List ℕ → ℕ → Numbered → Numbered
with_places o t u j f = joined f (map (numbered o) (tuples_same (drop j t) (drop j u)))

-- the equality of two tuples
abbrev pub tuples_form : Table → List ℕ → List ℕ → Numbered
tuples_form o t u = numbered o (all_parts (tuples_same t u))

-- where there is a formula, it and the places from this one on are the equality of the tuples
abbrev pub IsJoinedTo : Table → List ℕ → List ℕ → ℕ → Option GroundFormula → Type 0
IsJoinedTo o t u j done = IfSome done (λ f. with_places o t u j (form_of f) ≡ tuples_form o t u)

parts_joined : (o : Table) (f : Symbolic) (gs : List Symbolic) → numbered o (both_and f gs) ≡ joined (numbered o f) (map (numbered o) gs)
parts_joined o f [] = refl
parts_joined o f (g ∷ gs) = parts_joined o (both f g) gs

-- one place more
place_next : (o : Table) (t u : List ℕ) (j a b : ℕ) (f : Numbered) → j < length t → j < length u
    → with_places o t u j f ≡ with_places o t u (j + 1) (conjunction f (numbered o (same_const (get_or t j a) (get_or u j b))))
place_next o t u j a b f h k =
    let n : suc j ≡ j + 1 = omega arith in
    (λ i. joined f (map (numbered o) (tuples_same (drop-cons t j a h i) (drop-cons u j b k i))))
    ∙ (λ i. joined (conjunction f (numbered o (same_const (get_or t j a) (get_or u j b)))) (map (numbered o) (tuples_same (drop (n i) t) (drop (n i) u))))

-- the first place
pub places_begin : (o : Table) (t u : List ℕ) (a b : ℕ) (done : Option GroundFormula) → 0 < length t → length t ≡ length u
    → IfSome done (λ f. form_of f ≡ numbered o (same_const (get_or t 0 a) (get_or u 0 b))) → IsJoinedTo o t u 1 done
places_begin o t u a b None h k is = tt
places_begin o [] u a b (Some f) h k is = absurd (omega (arith, h))
places_begin o (x ∷ t) [] a b (Some f) h k is = absurd (omega (arith, k))
places_begin o (x ∷ t) (y ∷ u) a b (Some f) h k is =
    ap (λ (g : Numbered). joined g (map (numbered o) (tuples_same t u))) is ∙ sym (parts_joined o (same_const x y) (tuples_same t u))

-- the formula before, and what is found at a place
pub places_next : (o : Table) (t u : List ℕ) (j a b : ℕ) (before : GroundFormula) (so_far found : Option GroundFormula) → so_far ≡ Some before → j < length t → length t ≡ length u
    → IsJoinedTo o t u j so_far → IfSome found (λ f. form_of f ≡ conjunction (form_of before) (numbered o (same_const (get_or t j a) (get_or u j b))))
    → IsJoinedTo o t u (j + 1) found
places_next o t u j a b before so_far None is h k old new = tt
places_next o t u j a b before so_far (Some f) is h k old new =
    let was : with_places o t u j (form_of before) ≡ tuples_form o t u = subst (IsJoinedTo o t u j) is old in
    ap (with_places o t u (j + 1)) new ∙ sym (place_next o t u j a b (form_of before) h (omega (arith, h, k))) ∙ was

drop_all : (t : List ℕ) (j : ℕ) → length t ≡ j → drop j t ≡ []
drop_all [] zero h = refl
drop_all [] (suc j) h = refl
drop_all (x ∷ t) zero h = absurd (omega (arith, h))
drop_all (x ∷ t) (suc j) h = drop_all t j (omega (arith, h))

-- behind the last place
pub places_end : (o : Table) (t u : List ℕ) (j : ℕ) (done : Option GroundFormula) → length t ≡ j → length t ≡ length u → IsJoinedTo o t u j done
    → IfSome done (λ f. form_of f ≡ tuples_form o t u)
places_end o t u j None h k is = tt
places_end o t u j (Some f) h k is =
    let a = drop_all t j h in
    let b = drop_all u j (omega (arith, h, k)) in
    sym (λ i. joined (form_of f) (map (numbered o) (tuples_same (a i) (b i)))) ∙ is
