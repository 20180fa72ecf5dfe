-- Tables of marks: what one more mark changes.
use Rattle.std.proofs.Common.{◌≡◌, ℕ, zero, suc, ◌<◌, ◌==◌, Bool, true, false, cond, ◌||◌, List, [], ◌∷◌, ◌++◌, length, set, refl, sym, ◌∙◌, ap, subst, arith}
use Rattle.std.specs.Prelude.{slice_index_or}
use Rattle.std.proofs.lemmas.Bool.{eqb-true}
use Rattle.std.proofs.lemmas.Bool.Decides.{nat_tests}
use Rattle.std.proofs.lemmas.List.{length-set}
use Rattle.proof_lines.specs.declared.clause.Lit.{Lit}
use Rattle.proof_lines.specs.Clauses.{has, same_lit, lit_of}
use Rattle.proof_lines.specs.Marks.{place, HasMarks}
use Rattle.proof_lines.proofs.Sets.{has-append, same_lit-is, same_nat-refl}

zero-suc : (k : ℕ) → (0 == suc k) ≡ false
zero-suc k = grind (arith, nat_tests)

suc-zero : (k : ℕ) → (suc k == 0) ≡ false
suc-zero k = grind (arith, nat_tests)

suc-suc : (j k : ℕ) → (suc j == suc k) ≡ (j == k)
suc-suc j k = grind (arith, nat_tests)

-- a place within a table has what was put there last
mark-at : (marks : List Bool) (at k : ℕ) (b : Bool) → k < length marks → slice_index_or (set marks at b) k false ≡ cond (at == k) b (slice_index_or marks k false)
mark-at [] at k b lt = absurd (omega arith)
mark-at (x ∷ marks) zero zero b lt = refl
mark-at (x ∷ marks) zero (suc k) b lt = ap (λ z. cond z b (slice_index_or marks k false)) (sym (zero-suc k))
mark-at (x ∷ marks) (suc at) zero b lt = ap (λ z. cond z b x) (sym (suc-zero at))
mark-at (x ∷ marks) (suc at) (suc k) b lt = mark-at marks at k b (omega arith) ∙ ap (λ z. cond z b (slice_index_or marks k false)) (sym (suc-suc at k))

-- literals are equal where their places are
place-apart : (a b : Lit) → (place a == place b) ≡ true → same_lit a b ≡ true
place-apart a b h = by_sign a.atom a.positive b.atom b.positive (eqb-true (place a) (place b) h)
  where
    by_sign : (m : ℕ) (p : Bool) (n : ℕ) (q : Bool) → place (lit_of m p) ≡ place (lit_of n q) → same_lit (lit_of m p) (lit_of n q) ≡ true
    by_sign m true n true e = let f : m ≡ n = omega arith in grind (arith, nat_tests)
    by_sign m false n false e = let f : m ≡ n = omega arith in grind (arith, nat_tests)
    by_sign m true n false e = absurd (omega arith)
    by_sign m false n true e = absurd (omega arith)

place-same : (a b : Lit) → (place a == place b) ≡ same_lit a b
place-same a b = by_case (place a == place b) (same_lit a b) refl refl
  where
    by_case : (p s : Bool) → (place a == place b) ≡ p → same_lit a b ≡ s → p ≡ s
    by_case true true e f = refl
    by_case false false e f = refl
    by_case true false e f = absurd (let g = place-apart a b e in cc)
    by_case false true e f = absurd (let g : (place a == place b) ≡ true = subst (λ (z : Lit). (place a == place z) ≡ true) (same_lit-is a b f) (same_nat-refl (place a)) in cc)

-- a table without marks has those of no literals
pub marks-none : (marks : List Bool) → ((k : ℕ) → slice_index_or marks k false ≡ false) → HasMarks marks []
marks-none marks none l lt = none (place l)

-- with one mark more, it has those of one literal more
pub marks-next : (marks : List Bool) (c : List Lit) (x : Lit) → HasMarks marks c → HasMarks (set marks (place x) true) (c ++ x ∷ [])
marks-next marks c x h l lt =
    let within : place l < length marks = subst (λ (z : ℕ). place l < z) (length-set marks (place x) true) lt in
    mark-at marks (place x) (place l) true within
    ∙ ap (λ b. cond b true (slice_index_or marks (place l) false)) (place-same x l)
    ∙ ap (cond (same_lit x l) true) (h l within)
    ∙ either_way (has c l) (same_lit x l)
    ∙ sym (has-append c (x ∷ []) l)
  where
    either_way : (a b : Bool) → cond b true a ≡ (a || (b || false))
    either_way true true = refl
    either_way true false = refl
    either_way false true = refl
    either_way false false = refl
