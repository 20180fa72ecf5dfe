-- The state of a kernel: its live clauses, and what it keeps.
use Rattle.std.proofs.Common.{◌≡◌, ℕ, zero, suc, ◌+◌, ◌<◌, ◌≤◌, ◌^◌, Bool, true, false, not, cond, ◌&&◌, List, [], ◌∷◌, ◌++◌, length, map, set, get_or, take, refl, sym, ◌∙◌, ap, subst, arith, Option, Some, None, length-append, drop, drop-cons}
use Rattle.std.specs.Prelude.{slice_index_or, slice_set, is_some}
use Rattle.std.specs.List.{list_all}
use Rattle.std.proofs.lemmas.List.Folds.{list_all-append}
use Rattle.lin_rows.specs.Rows.{Row, is_row, places_below}
use Rattle.proof_lines.specs.declared.clause.Lit.{Lit}
use Rattle.proof_lines.specs.declared.problem.AtomKind.{AtomKind}
use Rattle.proof_lines.specs.declared.problem.AtomKind.TheVariants.{Row as OfRow}
use Rattle.proof_lines.specs.Problems.{PlainProblem, atoms_below, names_below, has_good_row, fits}
use Rattle.log_freshness.specs.Freshness.{live_of}
use Rattle.proof_kernel.specs.Rules.{State, StateFits, live_clause, clause_or_empty, cleared}
use Rattle.proof_lines.specs.Numbers.{are_different, stands_in}
use Rattle.std.proofs.lemmas.Bool.{and_parts, and_from, and_right}
use Rattle.line_rows.proofs.Names.{all-weaker}

-- the live clauses
pub live_of-push : (slots : List (Option (List Lit))) (c : List Lit) → live_of (slots ++ Some c ∷ []) ≡ live_of slots ++ c ∷ []
live_of-push [] c = refl
live_of-push (Some d ∷ slots) c = ap (λ (z : List (List Lit)). d ∷ z) (live_of-push slots c)
live_of-push (None ∷ slots) c = live_of-push slots c

pub live_of-map : (cs : List (List Lit)) → live_of (map (λ c. Some c) cs) ≡ cs
live_of-map [] = refl
live_of-map (c ∷ cs) = ap (λ (z : List (List Lit)). c ∷ z) (live_of-map cs)

pub length-live_of : (slots : List (Option (List Lit))) → length (live_of slots) ≤ length slots
length-live_of [] = omega arith
length-live_of (Some c ∷ slots) = let h = length-live_of slots in omega (arith, h)
length-live_of (None ∷ slots) = let h = length-live_of slots in omega (arith, h)

-- what holds of all live clauses holds of the clause of a live number
pub all-live_of : (p : List Lit → Bool) (slots : List (Option (List Lit))) (i : ℕ) → is_some (slice_index_or slots i None) ≡ true
    → list_all p (live_of slots) ≡ true → p (clause_or_empty (slice_index_or slots i None)) ≡ true
all-live_of p [] i s h = absurd cc
all-live_of p (Some c ∷ slots) zero s h = (and_parts (p c) (list_all p (live_of slots)) h).0
all-live_of p (None ∷ slots) zero s h = absurd cc
all-live_of p (Some c ∷ slots) (suc i) s h = all-live_of p slots i s (and_parts (p c) (list_all p (live_of slots)) h).1
all-live_of p (None ∷ slots) (suc i) s h = all-live_of p slots i s h

-- and of those that are left
pub all-set_none : (p : List Lit → Bool) (slots : List (Option (List Lit))) (i : ℕ) → list_all p (live_of slots) ≡ true → list_all p (live_of (set slots i None)) ≡ true
all-set_none p [] i h = refl
all-set_none p (Some c ∷ slots) zero h = (and_parts (p c) (list_all p (live_of slots)) h).1
all-set_none p (None ∷ slots) zero h = h
all-set_none p (Some c ∷ slots) (suc i) h =
    let q = and_parts (p c) (list_all p (live_of slots)) h in
    and_from (p c) (list_all p (live_of (set slots i None))) q.0 (all-set_none p slots i q.1)
all-set_none p (None ∷ slots) (suc i) h = all-set_none p slots i h

pub all-cleared : (p : List Lit → Bool) (slots : List (Option (List Lit))) (ns : List ℕ) → list_all p (live_of slots) ≡ true → list_all p (live_of (cleared slots ns)) ≡ true
all-cleared p slots [] h = h
all-cleared p slots (n ∷ ns) h = all-cleared p (slice_set slots n None) ns (all-set_none p slots n h)

pub length-cleared : (slots : List (Option (List Lit))) (ns : List ℕ) → length (cleared slots ns) ≡ length slots
length-cleared slots [] = refl
length-cleared slots (n ∷ ns) = length-cleared (slice_set slots n None) ns ∙ length-set_none slots n
  where
    length-set_none : (xs : List (Option (List Lit))) (i : ℕ) → length (set xs i None) ≡ length xs
    length-set_none [] i = refl
    length-set_none (x ∷ xs) zero = refl
    length-set_none (x ∷ xs) (suc i) = ap suc (length-set_none xs i)

-- the state of a kernel
pub fits-grown : (s : State) (slots : List (Option (List Lit))) (c : List Lit) (e : Bool) → StateFits s → slots ≡ s.slots ++ Some c ∷ [] → length slots < 2 ^ 32
    → atoms_below (length s.atoms) c ≡ true → StateFits (record { atoms = s.atoms; ints = s.ints; given = s.given; slots = slots; empty = e })
fits-grown s slots c e f is few below =
    let l : length slots ≡ length s.slots + 1 = ap length is ∙ length-append s.slots (Some c ∷ []) in
    let g = f.given_first in
    let named : list_all (atoms_below (length s.atoms)) (live_of (s.slots ++ Some c ∷ [])) ≡ true =
    rw (live_of-push s.slots c, list_all-append) (and_from (list_all (atoms_below (length s.atoms)) (live_of s.slots)) (atoms_below (length s.atoms) c && true) f.atoms_named (and_from (atoms_below (length s.atoms) c) true below refl)) in
    record {
      few_clauses = few;
      few_atoms = f.few_atoms;
      given_first = omega (arith, l, g);
      atoms_named = subst (λ (z : List (Option (List Lit))). list_all (atoms_below (length s.atoms)) (live_of z) ≡ true) (sym is) named;
      places_named = f.places_named;
      rows_good = f.rows_good;
    }

pub fits-cleared : (s : State) (slots : List (Option (List Lit))) (ns : List ℕ) → StateFits s → slots ≡ cleared s.slots ns
    → StateFits (record { atoms = s.atoms; ints = s.ints; given = s.given; slots = slots; empty = s.empty })
fits-cleared s slots ns f is =
    let l : length slots ≡ length s.slots = ap length is ∙ length-cleared s.slots ns in
    let g = f.given_first in
    let n = f.few_clauses in
    record {
      few_clauses = subst (λ (k : ℕ). k < 2 ^ 32) (sym l) n;
      few_atoms = f.few_atoms;
      given_first = omega (arith, l, g);
      atoms_named = subst (λ (z : List (Option (List Lit))). list_all (atoms_below (length s.atoms)) (live_of z) ≡ true) (sym is) (all-cleared (atoms_below (length s.atoms)) s.slots ns f.atoms_named);
      places_named = f.places_named;
      rows_good = f.rows_good;
    }

pub fits-start : (p : PlainProblem) (slots : List (Option (List Lit))) (g : ℕ) (e : Bool) → g ≡ length p.clauses → fits p ≡ true → list_all has_good_row p.atoms ≡ true → slots ≡ map (λ c. Some c) p.clauses → length p.clauses < 2 ^ 32 → length p.atoms < 2 ^ 32
    → StateFits (record { atoms = p.atoms; ints = p.ints; given = g; slots = slots; empty = e })
fits-start p slots g e gl f good is few fewer =
    let q = and_parts (list_all (names_below p.ints) p.atoms) (list_all (atoms_below (length p.atoms)) p.clauses) f in
    let l : length slots ≡ length p.clauses = ap length is ∙ length-somes p.clauses in
    record {
      few_clauses = subst (λ (k : ℕ). k < 2 ^ 32) (sym l) few;
      few_atoms = fewer;
      given_first = omega (arith, l, gl);
      atoms_named = subst (λ (z : List (Option (List Lit))). list_all (atoms_below (length p.atoms)) (live_of z) ≡ true) (sym is) (rw (live_of-map p.clauses) q.1);
      places_named = q.0;
      rows_good = good;
    }
  where
    length-somes : (cs : List (List Lit)) → length (map (λ (c : List Lit). Some c) cs) ≡ length cs
    length-somes [] = refl
    length-somes (c ∷ cs) = ap suc (length-somes cs)

pub live-named : (s : State) → StateFits s → (i : ℕ) (c : List Lit) → Some c ≡ live_clause s i → atoms_below (length s.atoms) c ≡ true
live-named s f i c e =
    subst (λ (z : Option (List Lit)). atoms_below (length s.atoms) (clause_or_empty z) ≡ true) (sym e)
    (all-live_of (atoms_below (length s.atoms)) s.slots i (subst (λ (z : Option (List Lit)). is_some z ≡ true) e refl) f.atoms_named)

-- numbers without a repetition
pub different-stop : (ns : List ℕ) (i j : ℕ) → j ≡ suc i → i < length ns → stands_in (drop j ns) (get_or ns i 0) ≡ true → are_different (drop i ns) ≡ false
different-stop ns i j e lt h = rw (drop-cons ns i 0) (by_case (stands_in (drop (suc i) ns) (get_or ns i 0)) (subst (λ (k : ℕ). stands_in (drop k ns) (get_or ns i 0) ≡ true) e h))
  where
    by_case : (b : Bool) → b ≡ true → (not b && are_different (drop (suc i) ns)) ≡ false
    by_case true e = refl
    by_case false e = absurd cc

pub different-drop : (ns : List ℕ) (i : ℕ) → are_different (drop i ns) ≡ false → are_different ns ≡ false
different-drop ns zero h = h
different-drop [] (suc i) h = h
different-drop (n ∷ ns) (suc i) h = and_right (not (stands_in ns n)) (are_different ns) (different-drop ns i h)

-- how many clauses are live among some slots and the next one
pub live_of-one : (slots : List (Option (List Lit))) (i : ℕ) (b : Bool) → i < length slots → is_some (get_or slots i None) ≡ b
    → length (live_of (take (suc i) slots)) ≡ length (live_of (take i slots)) + cond b 1 0
live_of-one [] i b lt s = absurd (omega (arith, lt))
live_of-one (x ∷ slots) zero b lt s = by_case x b s
  where
    by_case : (x : Option (List Lit)) (b : Bool) → is_some x ≡ b → length (live_of (x ∷ [])) ≡ 0 + cond b 1 0
    by_case (Some c) true s = refl
    by_case (Some c) false s = absurd cc
    by_case None true s = absurd cc
    by_case None false s = refl
live_of-one (Some c ∷ slots) (suc i) b lt s = let h = live_of-one slots i b (omega (arith, lt)) s in one_more (length (live_of (take (suc i) slots))) (length (live_of (take i slots))) (cond b 1 0) h
  where
    one_more : (m n k : ℕ) → m ≡ n + k → suc m ≡ suc n + k
    one_more m n k h = omega (arith, h)
live_of-one (None ∷ slots) (suc i) b lt s = live_of-one slots i b (omega (arith, lt)) s

pub fits-named : (s : State) (atoms : List AtomKind) (r : Row) → StateFits s → atoms ≡ s.atoms ++ OfRow r ∷ [] → length atoms < 2 ^ 32 → is_row r ≡ true → places_below s.ints r ≡ true
    → StateFits (record { atoms = atoms; ints = s.ints; given = s.given; slots = s.slots; empty = s.empty })
fits-named s atoms r f is few good below =
    let l : length atoms ≡ length s.atoms + 1 = ap length is ∙ length-append s.atoms (OfRow r ∷ []) in
    let placed : list_all (names_below s.ints) (s.atoms ++ OfRow r ∷ []) ≡ true =
    rw list_all-append (and_from (list_all (names_below s.ints) s.atoms) (places_below s.ints r && true) f.places_named (and_from (places_below s.ints r) true below refl)) in
    let goods : list_all has_good_row (s.atoms ++ OfRow r ∷ []) ≡ true =
    rw list_all-append (and_from (list_all has_good_row s.atoms) (is_row r && true) f.rows_good (and_from (is_row r) true good refl)) in
    record {
      few_clauses = f.few_clauses;
      few_atoms = few;
      given_first = f.given_first;
      atoms_named = all-weaker (length s.atoms) (length atoms) (live_of s.slots) (omega (arith, l)) f.atoms_named;
      places_named = subst (λ (z : List AtomKind). list_all (names_below s.ints) z ≡ true) (sym is) placed;
      rows_good = subst (λ (z : List AtomKind). list_all has_good_row z ≡ true) (sym is) goods;
    }
