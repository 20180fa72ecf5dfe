-- Where no meaning makes all clauses true, forced literals don't satisfy them.
use Rattle.std.proofs.Common.{◌≡◌, ℕ, zero, suc, ◌<◌, ℤ, pos, Bool, true, false, not, ◌||◌, ◌⊎◌, inl, inr, List, [], ◌∷◌, length, get_or, slice_get, refl, sym, subst, ◌∙◌, arith}
use Rattle.std.specs.List.{list_any, list_all}
use Rattle.std.proofs.lemmas.Bool.{and_parts, or_cases, or_left, or_right, and_from}
use Rattle.proof_lines.specs.declared.clause.Lit.{Lit}
use Rattle.proof_lines.specs.declared.problem.AtomKind.{AtomKind}
use Rattle.proof_lines.specs.declared.problem.AtomKind.TheVariants.{Plain, Row as OfRow}
use Rattle.proof_lines.specs.Clauses.{has, same_lit, flip, lit_of, lit_true, clause_true, all_true}
use Rattle.proof_lines.specs.Forced.{Forced, by_clause}
use Rattle.proof_lines.specs.Problems.{PlainProblem, Meaning, HasNoInterpretation, kind_true, atom_true}
use Rattle.proof_lines.proofs.Sets.{same_lit-is, same_lit-refl}
use Rattle.sat_core.specs.Forcing.{AreRefuted, AreSatisfied, is_plain, are_plain}
use Rattle.sat_core.specs.Answers.{IsEasy}

any_there : (p : Lit → Bool) (c : List Lit) (l : Lit) → has c l ≡ true → p l ≡ true → list_any p c ≡ true
any_there p [] l h k = absurd cc
any_there p (x ∷ c) l h k = elim (or_cases (same_lit x l) (has c l) h) [
  | inl e ↦ or_left (p x) (list_any p c) (subst (λ (z : Lit). p z ≡ true) (sym (same_lit-is x l e)) k)
  | inr e ↦ or_right (p x) (list_any p c) (any_there p c l e k)
]

-- a literal and its opposite that are both forced refute a clause
both_forced : (cs : List (List Lit)) (l : Lit) → Forced cs l → Forced cs (flip l) → AreRefuted cs
both_forced cs l (by_clause i b m h f) g = (i, b, λ k e. by_case k e (same_lit k l) refl)
  where
    by_case : (k : Lit) → has (get_or cs i []) k ≡ true → (d : Bool) → same_lit k l ≡ d → Forced cs (flip k)
    by_case k e true q = subst (λ (z : Lit). Forced cs (flip z)) (sym (same_lit-is k l q)) g
    by_case k e false q = f k e q

-- each of some clauses holds a literal that these clauses force
abbrev AreHeld : List (List Lit) → List (List Lit) → Type 0
AreHeld cs ds = (i : ℕ) → i < length ds → (l : Lit) × (has (get_or ds i []) l ≡ true) × Forced cs l

abbrev rest : (cs : List (List Lit)) (d : List Lit) (ds : List (List Lit)) → AreHeld cs (d ∷ ds) → AreHeld cs ds
rest cs d ds f i h = f (suc i) (omega (arith, h))

abbrev first : (cs : List (List Lit)) (d : List Lit) (ds : List (List Lit)) → AreHeld cs (d ∷ ds) → (l : Lit) × (has d l ≡ true) × Forced cs l
first cs d ds f = f zero (omega arith)

-- these literals
abbrev picks : (cs ds : List (List Lit)) → AreHeld cs ds → List Lit
picks cs [] f = []
picks cs (d ∷ ds) f = (first cs d ds f).0 ∷ picks cs ds (rest cs d ds f)

picked-forced : (cs ds : List (List Lit)) (f : AreHeld cs ds) (l : Lit) → has (picks cs ds f) l ≡ true → Forced cs l
picked-forced cs [] f l h = absurd cc
picked-forced cs (d ∷ ds) f l h =
    let x = first cs d ds f in
    elim (or_cases (same_lit x.0 l) (has (picks cs ds (rest cs d ds f)) l) h) [
      | inl e ↦ subst (λ (z : Lit). Forced cs z) (same_lit-is x.0 l e) x.2
      | inr e ↦ picked-forced cs ds (rest cs d ds f) l e
    ]

all-picked : (v : ℕ → Bool) (cs ds : List (List Lit)) (f : AreHeld cs ds) → ((l : Lit) → has (picks cs ds f) l ≡ true → lit_true v l ≡ true) → all_true v ds ≡ true
all-picked v cs [] f g = refl
all-picked v cs (d ∷ ds) f g =
    let x = first cs d ds f in
    let more = picks cs ds (rest cs d ds f) in
    and_from (clause_true v d) (all_true v ds)
    (any_there (lit_true v) d x.0 x.1 (g x.0 (or_left (same_lit x.0 x.0) (has more x.0) (same_lit-refl x.0))))
    (all-picked v cs ds (rest cs d ds f) (λ l m. g l (or_right (same_lit x.0 l) (has more l) m)))

kind-plain : (m : Meaning) (b : ℕ) (atoms : List AtomKind) (a : ℕ) → list_all is_plain atoms ≡ true → kind_true m b (slice_get atoms a) ≡ m.truth b
kind-plain m b [] a h = refl
kind-plain m b (Plain ∷ atoms) zero h = refl
kind-plain m b (OfRow r ∷ atoms) zero h = absurd cc
kind-plain m b (x ∷ atoms) (suc a) h = kind-plain m b atoms a (and_parts (is_plain x) (list_all is_plain atoms) h).1

pub none-uneasy : (p : PlainProblem) → HasNoInterpretation p → IsEasy p → ⊥
none-uneasy p none e = none m (all-picked (atom_true m p.atoms) p.clauses p.clauses held true_lit)
  where
    held : AreHeld p.clauses p.clauses
    held = e.1.1

    chosen : List Lit
    chosen = picks p.clauses p.clauses held

    m : Meaning
    m = record { truth = λ a. has chosen (lit_of a true); number = λ n. pos 0 }

    plain : (a : ℕ) → atom_true m p.atoms a ≡ has chosen (lit_of a true)
    plain a = kind-plain m a p.atoms a e.0

    by_sign : (a : ℕ) (s b : Bool) → has chosen (lit_of a s) ≡ true → has chosen (lit_of a true) ≡ b → lit_true (atom_true m p.atoms) (lit_of a s) ≡ true
    by_sign a true b h q = let r = plain a in cc
    by_sign a false false h q = let r = plain a in cc
    by_sign a false true h q = absurd (e.1.0 (both_forced p.clauses (lit_of a true) (picked-forced p.clauses p.clauses held (lit_of a true) q) (picked-forced p.clauses p.clauses held (lit_of a false) h)))

    true_lit : (l : Lit) → has chosen l ≡ true → lit_true (atom_true m p.atoms) l ≡ true
    true_lit l h = by_sign l.atom l.positive (has chosen (lit_of l.atom true)) h refl
