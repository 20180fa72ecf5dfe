-- The clauses of formulas behind the first so many, whose clauses were kept.
use Rattle.std.proofs.Common.{◌≡◌, ℕ, ◌+◌, ◌-◌, ◌≤◌, List, [], ◌++◌, length, map, take, drop, slice_get, sym, ◌∙◌, ap, subst, arith, Some}
use Rattle.std.specs.List.{flat_map}
use Rattle.std.proofs.lemmas.List.{take-append-drop, append-nil, append_assoc, length-map}
use Rattle.proof_lines.specs.declared.clause.Lit.{Lit}
use Rattle.ground_numbers.specs.Numbered.{Numbered}
use Rattle.ground_numbers.specs.Clauses.{all_clauses, all_names}
use Rattle.clausify.specs.declared.kept.KeptClauses.{KeptClauses}
use Rattle.clausify.specs.Kept.{AreClausesOf, raised}
use Rattle.clausify.proofs.Raised.{kept-raised}
use Rattle.clausify.proofs.Appending.{clauses-append}
use Rattle.ground_atoms.specs.Formulas.{form_of}
use Rattle.lazy_ground.specs.declared.grounding.LazyGround.{LazyGround}
use Rattle.lazy_ground.specs.Pairs.{pair_forms}
use Rattle.lazy_ground.specs.Lazy.{lazy_forms}
use Rattle.lazy_search.proofs.Pieces.{get-front}
use Rattle.lazy_search.specs.declared.places.Place.{Place}
use Rattle.lazy_search.specs.Chosen.{StandFrom, IsBehind}
use Rattle.lazy_search.proofs.Standing.{stand_between, more_behind}

-- the place behind the formulas whose clauses were kept
pub behind_kept : (k : KeptClauses) (name n : ℕ) (fs : List Numbered) (at : Place) → k.first ≤ name → AreClausesOf (take n fs) k
    → at.clause ≡ length k.clauses → at.name ≡ name + k.names → IsBehind name (take n fs) at
behind_kept k name n fs at le h c m = (
  c ∙ sym (length-map k.clauses (map (raised k.first (name - k.first)))) ∙ ap length (sym (kept-raised k name (take n fs) le h)),
  m ∙ ap (λ (z : ℕ). name + z) h.names,
)

-- what stands among clauses that stand among all from the first on
stand_among : (every xs ys : List (List Lit)) (m : ℕ) → StandFrom every 0 xs → StandFrom xs m ys → StandFrom every m ys
stand_among every xs ys m s t j c e =
    let zero_more : 0 + (m + j) ≡ m + j = omega arith in
    ap (slice_get every) (sym zero_more) ∙ s (m + j) c (t j c e)

-- the clauses of the formulas behind stand among all from that place on
pub stand_behind : (every : List (List Lit)) (name n : ℕ) (fs gs : List Numbered) (at : Place) → IsBehind name (take n fs) at → gs ≡ drop n fs
    → StandFrom every 0 (all_clauses name fs) → StandFrom every at.clause (all_clauses at.name gs)
stand_behind every name n fs gs at b is s =
    let whole : take n fs ++ (drop n fs ++ []) ≡ fs = ap (λ (z : List Numbered). take n fs ++ z) (append-nil (drop n fs)) ∙ take-append-drop n fs in
    let t : StandFrom (all_clauses name fs) at.clause (all_clauses at.name (drop n fs)) =
    subst (λ (z : List Numbered). StandFrom (all_clauses name z) at.clause (all_clauses at.name (drop n fs))) whole (stand_between name (take n fs) (drop n fs) [] at b) in
    subst (λ (z : List Numbered). StandFrom every at.clause (all_clauses at.name z)) (sym is) (stand_among every (all_clauses name fs) (all_clauses at.name (drop n fs)) at.clause s t)

-- and the place behind these
pub behind_both : (name n : ℕ) (fs gs : List Numbered) (at next : Place) → IsBehind name (take n fs) at → gs ≡ drop n fs
    → next.clause ≡ at.clause + length (all_clauses at.name gs) → next.name ≡ at.name + all_names gs → IsBehind name fs next
behind_both name n fs gs at next b is c m =
    subst (λ (z : List Numbered). IsBehind name z next) (ap (λ (z : List Numbered). take n fs ++ z) is ∙ take-append-drop n fs) (more_behind name (take n fs) gs at next b c m)

-- a clause of the entry stands among all clauses where it stands among the entry's
pub kept_stands : (g : LazyGround) (name n place : ℕ) (c : List Lit) → slice_get (all_clauses name (take n (map form_of g.front))) place ≡ Some c → slice_get (all_clauses name (lazy_forms g)) place ≡ Some c
kept_stands g name n place c h =
    let fs = map form_of g.front in
    let rest = flat_map (pair_forms g.atoms.table) g.pairs ++ map form_of g.behind in
    let whole : take n fs ++ (drop n fs ++ rest) ≡ lazy_forms g = sym (append_assoc (take n fs) (drop n fs) rest) ∙ ap (λ (z : List Numbered). z ++ rest) (take-append-drop n fs) in
    ap (λ (z : List Numbered). slice_get (all_clauses name z) place) (sym whole)
    ∙ ap (λ (z : List (List Lit)). slice_get z place) (clauses-append name (take n fs) (drop n fs ++ rest))
    ∙ get-front (all_clauses name (take n fs)) (all_clauses (name + all_names (take n fs)) (drop n fs ++ rest)) place c h
