-- The constants that a program lists as equal are those that an interpretation says are equal.
use Rattle.std.proofs.Common.{◌≡◌, ℕ, zero, suc, ◌+◌, ◌<◌, ◌==◌, ltb, Bool, true, false, cond, ◌&&◌, inl, inr, List, [], ◌∷◌, length, get_or, refl, sym, ◌∙◌, ap, subst, arith}
use Rattle.std.proofs.lemmas.Bool.{or_left, or_right, or_cases, and_parts, and_from, eqb-true, eq-eqb}
use Rattle.std.proofs.lemmas.List.Folds.{list_any-append}
use Rattle.spec_core.specs.Specification.{Specification}
use Rattle.obligation_list.specs.declared.obligation.Obligation.{Obligation}
use Rattle.proof_lines.specs.Problems.{Meaning}
use Rattle.ground_problem.specs.Symbols.{always, same, Interpretation, is_true}
use Rattle.ground_problem.specs.Classes.{alike}
use Rattle.ground_numbers.specs.Numbers.{Atom, same_atom, has_atom, row_atom, same_atoms, Table, has_number, number_of}
use Rattle.ground_numbers.specs.Problem.{table_of, interpretation_of}
use Rattle.ground_numbers.proofs.Lookups.{position-below}
use Rattle.model_back.proofs.Numbered.{no_atom, atom-there}
use Rattle.ground_numbers.proofs.Sameness.{same_atoms-refl}
use Rattle.model_back.specs.declared.equals.Equal.{Equal}
use Rattle.model_back.specs.Equals.{equal_of, equals_from, is_listed, alike_by}
use Rattle.model_back.proofs.Places.{any-at, table-placed}

iff : (a b : Bool) → (a ≡ true → b ≡ true) → (b ≡ true → a ≡ true) → a ≡ b
iff a b f g = grind arith

zero_more : (n : ℕ) → 0 + n ≡ n
zero_more n = omega arith

module _ (v : ℕ → Bool) (a b : ℕ) where
  abbrev Tells : ℕ → List Atom → Type 0
  Tells n atoms = (i : ℕ) × (i < length atoms) × (get_or atoms i no_atom ≡ same_atom a b) × (v (n + i) ≡ true)

  one-tells : (e : Bool) (x : Atom) → is_listed (equal_of e x) a b ≡ true → (x ≡ same_atom a b) × (e ≡ true)
  one-tells true (same_atom c d) h = elim (or_cases ((c == a) && (d == b)) false h) [
    | inl q ↦ (let p = and_parts (c == a) (d == b) q in let r = eqb-true c a p.0 in let s = eqb-true d b p.1 in ((λ i. same_atom (r i) (s i)), refl))
    | inr q ↦ absurd cc
  ]
  one-tells false (same_atom c d) h = absurd cc
  one-tells e (has_atom k r u) h = absurd cc
  one-tells e (row_atom r) h = absurd cc

  listed-tells : (n : ℕ) (atoms : List Atom) → is_listed (equals_from v n atoms) a b ≡ true → Tells n atoms
  listed-tells n [] h = absurd cc
  listed-tells n (x ∷ more) h = elim (or_cases (is_listed (equal_of (v n) x) a b) (is_listed (equals_from v (suc n) more) a b) (sym (list_any-append (λ (e : Equal). (e.lesser == a) && (e.greater == b)) (equal_of (v n) x) (equals_from v (suc n) more)) ∙ h)) [
    | inl q ↦ (let p = one-tells (v n) x q in (0, (let l : 0 < suc (length more) = omega arith in l), p.0, (let z : n + 0 ≡ n = omega arith in ap v z ∙ p.1)))
    | inr q ↦ (let p = listed-tells (suc n) more q in (suc p.0, (let l = p.1 in omega arith), p.2, (let z : n + suc p.0 ≡ suc n + p.0 = omega arith in ap v z ∙ p.3)))
  ]

  one-listed : (e : Bool) → e ≡ true → is_listed (equal_of e (same_atom a b)) a b ≡ true
  one-listed true h = or_left ((a == a) && (b == b)) false (and_from (a == a) (b == b) (eq-eqb a a refl) (eq-eqb b b refl))
  one-listed false h = absurd cc

  says-listed : (n i : ℕ) (atoms : List Atom) → i < length atoms → get_or atoms i no_atom ≡ same_atom a b → v (n + i) ≡ true → is_listed (equals_from v n atoms) a b ≡ true
  says-listed n i [] l e h = absurd (omega arith)
  says-listed n zero (x ∷ more) l e h =
      list_any-append (λ (e : Equal). (e.lesser == a) && (e.greater == b)) (equal_of (v n) x) (equals_from v (suc n) more)
      ∙ or_left (is_listed (equal_of (v n) x) a b) (is_listed (equals_from v (suc n) more) a b) (subst (λ (y : Atom). is_listed (equal_of (v n) y) a b ≡ true) (sym e) (one-listed (v n) (let z : n ≡ n + 0 = omega arith in ap v z ∙ h)))
  says-listed n (suc i) (x ∷ more) l e h =
      list_any-append (λ (e : Equal). (e.lesser == a) && (e.greater == b)) (equal_of (v n) x) (equals_from v (suc n) more)
      ∙ or_right (is_listed (equal_of (v n) x) a b) (is_listed (equals_from v (suc n) more) a b) (says-listed (suc n) i more (omega arith) e (let z : suc n + i ≡ n + suc i = omega arith in ap v z ∙ h))

module _ (d : Specification) (ob : Obligation) (mu : Meaning) where
  abbrev o : Table
  o = table_of d ob

  abbrev m : Interpretation
  m = interpretation_of o mu

  listed-same : (a b : ℕ) → is_listed (equals_from mu.truth 0 o.atoms) a b ≡ m.same a b
  listed-same a b = iff _ _ forth back
    where
      forth : is_listed (equals_from mu.truth 0 o.atoms) a b ≡ true → m.same a b ≡ true
      forth h =
          let p = listed-tells mu.truth a b 0 o.atoms h in
          let there : has_number o (same_atom a b) ≡ true = any-at (same_atoms (same_atom a b)) o.atoms p.0 no_atom p.1 (subst (λ (y : Atom). same_atoms (same_atom a b) y ≡ true) (sym p.2) (same_atoms-refl (same_atom a b))) in
          let number : number_of o (same_atom a b) ≡ p.0 = subst (λ (y : Atom). number_of o y ≡ p.0) p.2 ((table-placed d ob).atoms p.0 p.1 tt) in
          and_from (has_number o (same_atom a b)) (mu.truth (number_of o (same_atom a b))) there (ap mu.truth (number ∙ sym (zero_more p.0)) ∙ p.3)

      back : m.same a b ≡ true → is_listed (equals_from mu.truth 0 o.atoms) a b ≡ true
      back h =
          let q = and_parts (has_number o (same_atom a b)) (mu.truth (number_of o (same_atom a b))) h in
          says-listed mu.truth a b 0 (number_of o (same_atom a b)) o.atoms (position-below (same_atoms (same_atom a b)) o.atoms q.0) (atom-there o (same_atom a b) q.0) (ap mu.truth (zero_more (number_of o (same_atom a b))) ∙ q.1)

  -- two constants are listed as equal exactly where the interpretation says so
  pub alike-listed : (a b : ℕ) → alike_by (equals_from mu.truth 0 o.atoms) a b ≡ alike m a b
  alike-listed a b = by_tests (a == b) (ltb a b)
    where
      by_tests : (p q : Bool) → cond p true (cond q (is_listed (equals_from mu.truth 0 o.atoms) a b) (is_listed (equals_from mu.truth 0 o.atoms) b a)) ≡ is_true m (cond p (always true) (cond q (same a b) (same b a)))
      by_tests true q = refl
      by_tests false true = listed-same a b
      by_tests false false = listed-same b a
