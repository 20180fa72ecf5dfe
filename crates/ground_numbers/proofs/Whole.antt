-- Meanings of an obligation's problem, and interpretations of its formulas.
use Rattle.std.proofs.Common.{◌≡◌, ℕ, zero, suc, ◌≤◌, ◌<◌, Bool, true, false, Some, List, [], ◌∷◌, ◌++◌, map, length, get_or, refl, sym, ◌∙◌, ap, arith, slice_get, append-nil}
use Rattle.std.specs.Prelude.{nat_lt, replicate}
use Rattle.std.specs.List.{list_all}
use Rattle.std.proofs.lemmas.Bool.{and_from}
use Rattle.std.proofs.lemmas.Bool.Decides.{nat_tests}
use Rattle.spec_core.specs.declared.world.World.{World}
use Rattle.spec_core.specs.declared.world.Call.{Call}
use Rattle.spec_core.specs.Specification.{Specification}
use Rattle.spec_core.specs.State.{Listing}
use Rattle.spec_core.specs.Typed.{is_specification}
use Rattle.obligation_list.specs.declared.obligation.Obligation.{Obligation}
use Rattle.obligation_list.specs.Obligations.{IsObligation}
use Rattle.obligation_list.specs.Breaking.{Breaks, Holds}
use Rattle.proof_lines.specs.declared.problem.AtomKind.{AtomKind}
use Rattle.proof_lines.specs.declared.problem.AtomKind.TheVariants.{Plain}
use Rattle.proof_lines.specs.Clauses.{all_true as clauses_true}
use Rattle.proof_lines.specs.Problems.{fits, Meaning, kind_true, atom_true, makes_true, HasNoInterpretation}
use Rattle.ground_problem.specs.Symbols.{Symbolic, Interpretation, all_true}
use Rattle.ground_problem.specs.Problem.{formulas_of}
use Rattle.ground_problem.specs.Readback.{ReadFrom}
use Rattle.ground_problem.proofs.Interpret.{first_direction}
use Rattle.ground_problem.proofs.Second.{second_direction}
use Rattle.ground_numbers.specs.Numbered.{Numbered, all_hold, is_below}
use Rattle.ground_numbers.specs.Numbers.{Atom, same_atom, has_atom, row_atom, Table, numbered}
use Rattle.ground_numbers.specs.Clauses.{all_names, all_clauses}
use Rattle.ground_numbers.specs.Problem.{arguments_of, table_of, numbered_of, kind_of, rows_placed, problem, problem_of, interpretation_of}
use Rattle.ground_numbers.proofs.Lookups.{get-map}
use Rattle.ground_numbers.proofs.Growing.{AllNamesIn, naming_all-has, numbered-below}
use Rattle.ground_numbers.proofs.Meant.{atom_says, all-mean, no_atom, integer_values, atom_values, values-agree, meaning-agrees}
use Rattle.ground_numbers.proofs.Placed.{naming_all-placed, problem-fits}
use Rattle.ground_numbers.proofs.Clausal.{clauses-sound}
use Rattle.ground_numbers.proofs.Named.{SameBelow, clauses-complete}

all-below : (o : Table) (fs : List Symbolic) → AllNamesIn o fs → list_all (is_below (length o.atoms)) (map (numbered o) fs) ≡ true
all-below o [] h = refl
all-below o (f ∷ fs) h = and_from (is_below (length o.atoms) (numbered o f)) _ (numbered-below o f h.0) (all-below o fs h.1)

-- ---- the truth of the atoms of a problem

plain-true : (m : Meaning) (a k n : ℕ) → kind_true m a (slice_get (replicate k Plain) n) ≡ m.truth a
plain-true m a zero n = refl
plain-true m a (suc k) zero = refl
plain-true m a (suc k) (suc n) = plain-true m a k n

beyond-true : (m : Meaning) (a : ℕ) (atoms : List Atom) (k n : ℕ) → length atoms ≤ n → kind_true m a (slice_get (map kind_of atoms ++ replicate k Plain) n) ≡ m.truth a
beyond-true m a [] k n h = plain-true m a k n
beyond-true m a (b ∷ atoms) k zero h = absurd (omega arith)
beyond-true m a (b ∷ atoms) k (suc n) h = beyond-true m a atoms k n (omega arith)

module _ (o : Table) (i : Interpretation) (u : ℕ → Bool) (e : SameBelow (length o.atoms) (atom_values o i) u) (k : ℕ) where
  abbrev pub given : Meaning
  given = record { truth = u; number = integer_values o i }

  atom-given : (a : ℕ) → atom_true given (map kind_of o.atoms ++ replicate k Plain) a ≡ u a
  atom-given a = by_test (nat_lt a (length o.atoms)) refl
    where
      below : (m n : ℕ) → nat_lt m n ≡ true → m < n
      below m n h = grind (arith, nat_tests)

      above : (m n : ℕ) → nat_lt m n ≡ false → n ≤ m
      above m n h = grind (arith, nat_tests)

      by_kind : (b : Atom) → atom_says i (integer_values o i) b ≡ u a → kind_true given a (Some (kind_of b)) ≡ u a
      by_kind (same_atom x y) h = refl
      by_kind (has_atom x r t) h = refl
      by_kind (row_atom r) h = h

      by_test : (c : Bool) → nat_lt a (length o.atoms) ≡ c → atom_true given (map kind_of o.atoms ++ replicate k Plain) a ≡ u a
      by_test true h = ap (kind_true given a) (get-map kind_of o.atoms (replicate k Plain) a no_atom (below a (length o.atoms) h)) ∙ by_kind (get_or o.atoms a no_atom) (e a h)
      by_test false h = beyond-true given a o.atoms k a (above a (length o.atoms) h)

  pub atoms-given : atom_true given (map kind_of o.atoms ++ replicate k Plain) ≡ u
  atoms-given = λ z a. atom-given a z

-- ---- from interpretations to meanings

-- An interpretation of formulas gives a meaning of their problem.
pub interpretation-solves : (o : Table) (i : Interpretation) (fs : List Symbolic) → AllNamesIn o fs → all_true i fs ≡ true → (m : Meaning) × (makes_true m (problem o (map (numbered o) fs)) ≡ true)
interpretation-solves o i fs h t =
    let gs = map (numbered o) fs in
    let x = integer_values o i in
    let v = atom_values o i in
    let q = clauses-complete (length o.atoms) v gs (all-below o fs h) (all-mean o v x i (values-agree o i) fs h ∙ t) in
    (record { truth = q.0; number = x }, ap (λ (w : ℕ → Bool). clauses_true w (all_clauses (length o.atoms) gs)) (atoms-given o i q.0 q.1 (all_names gs)) ∙ q.2)

-- ---- from meanings to interpretations

-- A meaning of a problem makes its formulas true.
pub meaning-holds : (o : Table) (m : Meaning) (gs : List Numbered) → makes_true m (problem o gs) ≡ true → all_hold (atom_true m (problem o gs).atoms) gs ≡ true
meaning-holds o m gs t = clauses-sound (atom_true m (problem o gs).atoms) (length o.atoms) gs t

-- Formulas over numbers are true in a meaning where those over names are true in its interpretation.
pub meaning-interprets : (o : Table) (rest : List AtomKind) (m : Meaning) (fs : List Symbolic) → AllNamesIn o fs → all_hold (atom_true m (map kind_of o.atoms ++ rest)) (map (numbered o) fs) ≡ all_true (interpretation_of o m) fs
meaning-interprets o rest m fs h = all-mean o (atom_true m (map kind_of o.atoms ++ rest)) m.number (interpretation_of o m) (meaning-agrees o rest m) fs h

-- ---- of an obligation

pub names-of : (d : Specification) (ob : Obligation) → AllNamesIn (table_of d ob) (formulas_of d ob)
names-of d ob = naming_all-has (record { atoms = []; ints = arguments_of d ob }) (formulas_of d ob)

pub broken_has_meaning : (d : Specification) (ob : Obligation) (w : World) (s : Listing) (cs : List Call) (es : List ℕ) → is_specification d ≡ true → Breaks d ob w s cs es → (m : Meaning) × (makes_true m (problem_of d ob) ≡ true)
broken_has_meaning d ob w s cs es t br =
    let p = first_direction d ob w s cs es t br in
    interpretation-solves (table_of d ob) p.0 (formulas_of d ob) (names-of d ob) p.1

pub no_meaning_holds : (d : Specification) (ob : Obligation) → is_specification d ≡ true → HasNoInterpretation (problem_of d ob) → Holds d ob
no_meaning_holds d ob t none = λ w s cs es br. (let p = broken_has_meaning d ob w s cs es t br in none p.0 p.1)

pub meaning_interprets : (d : Specification) (ob : Obligation) (m : Meaning) → makes_true m (problem_of d ob) ≡ true → all_true (interpretation_of (table_of d ob) m) (formulas_of d ob) ≡ true
meaning_interprets d ob m t =
    let o = table_of d ob in
    sym (meaning-interprets o (replicate (all_names (numbered_of d ob)) Plain) m (formulas_of d ob) (names-of d ob))
    ∙ meaning-holds o m (numbered_of d ob) t

-- the formulas of an obligation, where the atoms that name parts are left out
pub numbers_are_names : (d : Specification) (ob : Obligation) (m : Meaning) → all_hold (atom_true m (map kind_of (table_of d ob).atoms)) (numbered_of d ob) ≡ all_true (interpretation_of (table_of d ob) m) (formulas_of d ob)
numbers_are_names d ob m =
    let o = table_of d ob in
    ap (λ atoms. all_hold (atom_true m atoms) (numbered_of d ob)) (sym (append-nil (map kind_of o.atoms)))
    ∙ meaning-interprets o [] m (formulas_of d ob) (names-of d ob)

pub clauses_make_formulas_true : (d : Specification) (ob : Obligation) (m : Meaning) → makes_true m (problem_of d ob) ≡ true → all_hold (atom_true m (map kind_of (table_of d ob).atoms)) (numbered_of d ob) ≡ true
clauses_make_formulas_true d ob m t = numbers_are_names d ob m ∙ meaning_interprets d ob m t

abbrev pub Broken : Specification → Obligation → Interpretation → Type 0
Broken d ob i = (w : World) × (s : Listing) × (cs : List Call) × (es : List ℕ) × Breaks d ob w s cs es × ReadFrom d ob i w s cs

pub meaning_breaks : (d : Specification) (ob : Obligation) (m : Meaning) → is_specification d ≡ true → IsObligation d ob → all_hold (atom_true m (map kind_of (table_of d ob).atoms)) (numbered_of d ob) ≡ true → Broken d ob (interpretation_of (table_of d ob) m)
meaning_breaks d ob m t io h = second_direction d ob (interpretation_of (table_of d ob) m) t io (sym (numbers_are_names d ob m) ∙ h)

-- ---- what keeps within its limits

pub table_placed : (d : Specification) (ob : Obligation) → rows_placed (table_of d ob) ≡ true
table_placed d ob = naming_all-placed (record { atoms = []; ints = arguments_of d ob }) (formulas_of d ob) refl

pub numbered_below : (d : Specification) (ob : Obligation) → list_all (is_below (length (table_of d ob).atoms)) (numbered_of d ob) ≡ true
numbered_below d ob = all-below (table_of d ob) (formulas_of d ob) (names-of d ob)

pub problem_fits : (d : Specification) (ob : Obligation) → fits (problem_of d ob) ≡ true
problem_fits d ob = problem-fits (table_of d ob) (numbered_of d ob) (table_placed d ob) (numbered_below d ob)
