-- The formula that two different tuples of a relation read the same, where they are equal, has three clauses and one atom that names a part.
use Rattle.std.proofs.Common.{◌≡◌, ℕ, suc, ◌+◌, ◌==◌, ltb, Bool, true, false, cond, ◌⊎◌, inl, inr, List, [], ◌∷◌, ◌++◌, length, refl, sym, ◌∙◌, ap, subst, arith}
use Rattle.std.proofs.lemmas.Bool.Decides.{nat_tests}
use Rattle.proof_lines.specs.declared.clause.Lit.{Lit}
use Rattle.spec_core.specs.declared.update.Thing.TheVariants as thing
use Rattle.ground_problem.specs.Symbols.{Symbolic, same, always, both, both_and, all_parts, same_const}
use Rattle.ground_problem.specs.Equality.{tuples_same, congruent}
use Rattle.ground_numbers.specs.Numbers.{Table, numbered}
use Rattle.ground_numbers.specs.Clauses.{Normal, lit, all, any, Folded, settled, unsettled, fold_any, folded, names, inner_names, parts, written, clauses_of, names_of}

-- ---- an "or" of literals

-- no "and" stands in it
abbrev IsFlat : Normal → Type 0
IsFlat (lit l) = Unit {0}
IsFlat (all f g) = ⊥
IsFlat (any f g) = IsFlat f × IsFlat g

flat-names : (f : Normal) → IsFlat f → names f ≡ 0
flat-names (lit l) h = refl
flat-names (all f g) h = absurd h
flat-names (any f g) h = omega (arith, flat-names f h.0, flat-names g h.1)

flat-inner : (f : Normal) → IsFlat f → inner_names f ≡ 0
flat-inner (lit l) h = refl
flat-inner (all f g) h = absurd h
flat-inner (any f g) h = omega (arith, flat-inner f h.0, flat-inner g h.1)

flat-written : (p n : ℕ) (f : Normal) → IsFlat f → written (parts p) n f ≡ []
flat-written p n (lit l) h = refl
flat-written p n (all f g) h = absurd h
flat-written p n (any f g) h =
    ap (λ (z : List (List Lit)). z ++ written (parts (p + names f)) (n + inner_names f) g) (flat-written p n f h.0)
    ∙ flat-written (p + names f) (n + inner_names f) g h.1

-- ---- what is folded to one, or to false

-- false, or an "or" of literals
abbrev IsOr : Folded → Type 0
IsOr (settled true) = ⊥
IsOr (settled false) = Unit {0}
IsOr (unsettled f) = IsFlat f

-- an "or" of literals
abbrev HasLiterals : Folded → Type 0
HasLiterals (settled b) = ⊥
HasLiterals (unsettled f) = IsFlat f

or-any : (f g : Folded) → IsOr f → IsOr g → IsOr (fold_any f g)
or-any (settled true) g h k = absurd h
or-any (settled false) g h k = k
or-any (unsettled f) (settled true) h k = absurd k
or-any (unsettled f) (settled false) h k = h
or-any (unsettled f) (unsettled g) h k = (h, k)

some-left : (f g : Folded) → HasLiterals f → IsOr g → HasLiterals (fold_any f g)
some-left (settled b) g h k = absurd h
some-left (unsettled f) (settled true) h k = absurd k
some-left (unsettled f) (settled false) h k = h
some-left (unsettled f) (unsettled g) h k = (h, k)

some-right : (f g : Folded) → IsOr f → HasLiterals g → HasLiterals (fold_any f g)
some-right (settled true) g h k = absurd h
some-right (settled false) g h k = k
some-right (unsettled f) (settled b) h k = absurd k
some-right (unsettled f) (unsettled g) h k = (h, k)

-- ---- the equalities of two tuples, negated

abbrev unequal : Table → Symbolic → Folded
unequal o f = folded false (numbered o f)

lesser-first : (o : Table) (a b : ℕ) (x : Bool) → HasLiterals (unequal o (cond x (same a b) (same b a)))
lesser-first o a b true = tt
lesser-first o a b false = tt

const-or : (o : Table) (a b : ℕ) (x : Bool) → IsOr (unequal o (cond x (always true) (cond (ltb a b) (same a b) (same b a))))
const-or o a b true = tt
const-or o a b false = by_order (ltb a b)
  where
    by_order : (x : Bool) → IsOr (unequal o (cond x (same a b) (same b a)))
    by_order true = tt
    by_order false = tt

const-some : (o : Table) (a b : ℕ) → (a == b) ≡ false → HasLiterals (unequal o (same_const a b))
const-some o a b e = subst (λ (z : Bool). HasLiterals (unequal o (cond z (always true) (cond (ltb a b) (same a b) (same b a))))) (sym e) (lesser-first o a b (ltb a b))

-- a literal so far, or one of the tuples' places
abbrev Differ : Table → Symbolic → List ℕ → List ℕ → Type 0
Differ o f t u = HasLiterals (unequal o f) ⊎ (t ≡ u → ⊥)

differ-next : (o : Table) (f : Symbolic) (a b : ℕ) (t u : List ℕ) → IsOr (unequal o f) → Differ o f (a ∷ t) (b ∷ u) → (x : Bool) → (a == b) ≡ x → Differ o (both f (same_const a b)) t u
differ-next o f a b t u h (inl s) x e = inl (some-left (unequal o f) (unequal o (same_const a b)) s (const-or o a b (a == b)))
differ-next o f a b t u h (inr d) true e =
    let same : a ≡ b = grind (arith, nat_tests) in
    inr (λ q. d (ap (λ (z : ℕ). z ∷ t) same ∙ ap (λ (z : List ℕ). b ∷ z) q))
differ-next o f a b t u h (inr d) false e = inl (some-right (unequal o f) (unequal o (same_const a b)) h (const-some o a b e))

both-some : (o : Table) (f : Symbolic) (t u : List ℕ) → length t ≡ length u → IsOr (unequal o f) → Differ o f t u → HasLiterals (unequal o (both_and f (tuples_same t u)))
both-some o f [] [] l h (inl s) = s
both-some o f [] [] l h (inr d) = absurd (d refl)
both-some o f [] (b ∷ u) l h d = absurd (omega (arith, l))
both-some o f (a ∷ t) [] l h d = absurd (omega (arith, l))
both-some o f (a ∷ t) (b ∷ u) l h d =
    both-some o (both f (same_const a b)) t u (omega (arith, l))
    (or-any (unequal o f) (unequal o (same_const a b)) h (const-or o a b (a == b)))
    (differ-next o f a b t u h d (a == b) refl)

tuples-some : (o : Table) (t u : List ℕ) → length t ≡ length u → (t ≡ u → ⊥) → HasLiterals (unequal o (all_parts (tuples_same t u)))
tuples-some o [] [] l d = absurd (d refl)
tuples-some o [] (b ∷ u) l d = absurd (omega (arith, l))
tuples-some o (a ∷ t) [] l d = absurd (omega (arith, l))
tuples-some o (a ∷ t) (b ∷ u) l d = both-some o (same_const a b) t u (omega (arith, l)) (const-or o a b (a == b)) (by_place (a == b) refl)
  where
    by_place : (x : Bool) → (a == b) ≡ x → Differ o (same_const a b) t u
    by_place true e =
        let same : a ≡ b = grind (arith, nat_tests) in
        inr (λ q. d (ap (λ (z : ℕ). z ∷ t) same ∙ ap (λ (z : List ℕ). b ∷ z) q))
    by_place false e = inl (const-some o a b e)

-- ---- the sizes

-- three clauses, and one atom that names a part
abbrev pub IsSized : Folded → Type 0
IsSized f = ((n : ℕ) → length (clauses_of n f) ≡ 3) × (names_of f ≡ 1)

beside-sized : (f : Folded) (a b c d : Lit) → HasLiterals f → IsSized (fold_any f (unsettled (all (any (lit a) (lit b)) (any (lit c) (lit d)))))
beside-sized (settled x) a b c d h = absurd h
beside-sized (unsettled f) a b c d h = (long, omega (arith, flat-names f h, flat-inner f h))
  where
    agree : Normal
    agree = all (any (lit a) (lit b)) (any (lit c) (lit d))

    long : (n : ℕ) → length (clauses_of n (unsettled (any f agree))) ≡ 3
    long n =
        let from : ℕ = n + names f + names agree in
        ap (λ (z : List (List Lit)). suc (length (z ++ written (parts (n + names f)) (from + inner_names f) agree))) (flat-written n from f h)

pub congruent-sized : (o : Table) (r : ℕ) (t u : List ℕ) → length t ≡ length u → (t ≡ u → ⊥) → IsSized (folded true (numbered o (congruent (thing.Relation r) t u)))
congruent-sized o r t u l d = beside-sized (unequal o (all_parts (tuples_same t u))) _ _ _ _ (tuples-some o t u l d)
