-- Soundness: what makes the clauses that stand true makes those true that stand after a line.
use Rattle.std.proofs.Common.{◌≡◌, ℕ, zero, suc, Bool, true, false, not, cond, ◌&&◌, ◌||◌, List, [], ◌∷◌, ◌++◌, length, map, refl, sym, ◌∙◌, ap, subst, arith, Option, Some, Result, Ok, Err}
use Rattle.std.specs.Prelude.{slice_get, nat_lt, ℤ, OnOk, IfOk, MatchResult}
use Rattle.std.specs.List.{list_any, list_all}
use Rattle.std.proofs.lemmas.Bool.Decides.{nat_tests}
use Rattle.std.proofs.lemmas.List.Folds.{list_all-append}
use Rattle.lin_rows.specs.Rows.{Row}
use Rattle.proof_lines.specs.declared.clause.Lit.{Lit}
use Rattle.proof_lines.specs.declared.problem.AtomKind.{AtomKind}
use Rattle.proof_lines.specs.declared.problem.AtomKind.TheVariants.{Row as OfRow}
use Rattle.proof_lines.specs.declared.line.RowStep.{RowStep}
use Rattle.proof_lines.specs.declared.line.Line.{Line}
use Rattle.proof_lines.specs.declared.line.Line.TheVariants.{Resolve, Farkas, Split, Drop}
use Rattle.proof_lines.specs.declared.line.LineRefused.{LineRefused}
use Rattle.proof_lines.specs.declared.line.Why.{Why}
use Rattle.proof_lines.specs.declared.line.Why.TheVariants.{Place, Pivot, Contradiction, SplitAgain, Dropped}
use Rattle.proof_lines.specs.Clauses.{is_empty, has, lit_of, same_bool, clause_true, all_true, resolvent, negations}
use Rattle.proof_lines.specs.Problems.{Meaning, atom_true, kind_true, atoms_below, PlainProblem, makes_true, has_good_row}
use Rattle.line_rows.specs.Refusals.{then_, IsTold}
use Rattle.line_rows.specs.Steps.{line_rows, ends_badly, row_at}
use Rattle.line_rows.specs.Splits.{split_fits, split_cause, at_most, is_at_most}
use Rattle.log_freshness.specs.Freshness.{live_of}
use Rattle.proof_kernel.specs.Rules.{State, StateFits, next, holds, is_live, clause_at, grown, named, resolved, combined, combined_after, split, split_after, dropped, without_clauses, is_some_number, cleared, start}
use Rattle.proof_lines.specs.Numbers.{are_different}
use Rattle.std.proofs.lemmas.Bool.{and_parts, and_from}
use Rattle.proof_lines.proofs.Sets.{resolvent-true}
use Rattle.proof_kernel.proofs.States.{live_of-push, all-live_of, all-cleared, live_of-map}
use Rattle.line_rows.proofs.Sound.{ok_is, farkas-true, none_empty}

-- what soundness asks of a state: literals name atoms, and the rows of atoms are rows
pub record Keeps (s : State) : Type 0 where
  pub atoms_named : list_all (atoms_below (length s.atoms)) (live_of s.slots) ≡ true
  pub rows_good : list_all has_good_row s.atoms ≡ true

-- one rule after the other
pub record Went {A B : Type 0} (o : Result A Why) (f : A → Result B Why) (b : B) : Type 0 where
  pub first : A
  pub is : o ≡ Ok first
  pub second : f first ≡ Ok b

pub then-went : {A B : Type 0} (o : Result A Why) (f : A → Result B Why) (b : B) → then_ o f ≡ Ok b → Went o f b
then-went (Ok a) f b h = record { first = a; is = refl; second = h }
then-went (Err w) f b h = absurd cc

-- what stands before the first line
pub start-holds : (m : Meaning) (p : PlainProblem) → makes_true m p ≡ true → holds m (start p) ≡ true
start-holds m p h =
    let v = atom_true m p.atoms in
    and_from (all_true v (live_of (map (λ c. Some c) p.clauses))) (not (list_any is_empty p.clauses))
    (rw (live_of-map p.clauses) h)
    (ap not (none_empty v p.clauses h))

pub begun-sound : {E : Type 0} (p : PlainProblem) (r : Result State E) → IfOk r (λ s. s ≡ start p) → IfOk r (λ s. (m : Meaning) → makes_true m p ≡ true → holds m s ≡ true)
begun-sound p (Ok s) e = λ m h. subst (λ (z : State). holds m z ≡ true) (sym e) (start-holds m p h)
begun-sound p (Err x) e = e

-- one true clause more
grown-holds : (m : Meaning) (s : State) (c : List Lit) → holds m s ≡ true → clause_true (atom_true m s.atoms) c ≡ true → holds m (grown s c) ≡ true
grown-holds m s c h t =
    let v = atom_true m s.atoms in
    let p = and_parts (all_true v (live_of s.slots)) (not s.empty) h in
    and_from (all_true v (live_of (s.slots ++ Some c ∷ []))) (not (s.empty || is_empty c))
    (rw (live_of-push s.slots c, list_all-append) (and_from (all_true v (live_of s.slots)) (clause_true v c && true) p.0 (and_from (clause_true v c) true t refl)))
    (not_either s.empty (is_empty c) p.1 (not_empty c t))
  where
    not_empty : (c : List Lit) → clause_true (atom_true m s.atoms) c ≡ true → is_empty c ≡ false
    not_empty [] t = absurd cc
    not_empty (l ∷ c) t = refl

    not_either : (a b : Bool) → not a ≡ true → b ≡ false → not (a || b) ≡ true
    not_either a b p q = grind arith

-- fewer clauses
cleared-holds : (m : Meaning) (s : State) (ns : List ℕ) → holds m s ≡ true → holds m (without_clauses s ns) ≡ true
cleared-holds m s ns h =
    let v = atom_true m s.atoms in
    let p = and_parts (all_true v (live_of s.slots)) (not s.empty) h in
    and_from (all_true v (live_of (cleared s.slots ns))) (not s.empty) (all-cleared (clause_true v) s.slots ns p.0) p.1

-- one atom more, which no clause names
get-append : (atoms more : List AtomKind) (a : ℕ) → nat_lt a (length atoms) ≡ true → slice_get (atoms ++ more) a ≡ slice_get atoms a
get-append [] more a h = absurd (grind (arith, nat_tests))
get-append (k ∷ atoms) more zero h = refl
get-append (k ∷ atoms) more (suc a) h = get-append atoms more a (grind (arith, nat_tests))

true-agree : (v w : ℕ → Bool) (n : ℕ) (c : List Lit) → ((a : ℕ) → nat_lt a n ≡ true → v a ≡ w a) → atoms_below n c ≡ true → clause_true v c ≡ clause_true w c
true-agree v w n [] f h = refl
true-agree v w n (l ∷ c) f h =
    let p = and_parts (nat_lt l.atom n) (atoms_below n c) h in
    let e = f l.atom p.0 in
    let g = true-agree v w n c f p.1 in
    λ i. same_bool (e i) l.positive || g i

all-agree : (v w : ℕ → Bool) (n : ℕ) (cs : List (List Lit)) → ((a : ℕ) → nat_lt a n ≡ true → v a ≡ w a) → list_all (atoms_below n) cs ≡ true → all_true v cs ≡ all_true w cs
all-agree v w n [] f h = refl
all-agree v w n (c ∷ cs) f h =
    let p = and_parts (atoms_below n c) (list_all (atoms_below n) cs) h in
    let e = true-agree v w n c f p.0 in
    let g = all-agree v w n cs f p.1 in
    λ i. e i && g i

named-holds : (m : Meaning) (s : State) (r : Row) → Keeps s → holds m s ≡ true → holds m (named s r) ≡ true
named-holds m s r f h =
    let more : List AtomKind = OfRow r ∷ [] in
    let agree = all-agree (atom_true m s.atoms) (atom_true m (s.atoms ++ more)) (length s.atoms) (live_of s.slots)
    (λ a l. ap (λ (o : Option AtomKind). kind_true m a o) (sym (get-append s.atoms more a l))) f.atoms_named in
    let p = and_parts (all_true (atom_true m s.atoms) (live_of s.slots)) (not s.empty) h in
    and_from (all_true (atom_true m (s.atoms ++ more)) (live_of s.slots)) (not s.empty) (sym agree ∙ p.0) p.1

-- THE RULES
resolved-sound : (s : State) (left right pivot : ℕ) (t : State) → resolved s left right pivot ≡ Ok t → (m : Meaning) → holds m s ≡ true → holds m t ≡ true
resolved-sound s left right pivot t h m k =
    by_case (nat_lt left (length s.slots) && (nat_lt right (length s.slots) && nat_lt pivot (length s.atoms))) (is_live s left && is_live s right)
    (has (clause_at s left) (lit_of pivot true) && has (clause_at s right) (lit_of pivot false)) refl h
  where
    v : ℕ → Bool
    v = atom_true m s.atoms

    by_case : (a b e : Bool) → (is_live s left && is_live s right) ≡ b
        → cond a (cond b (cond e (Ok (grown s (resolvent pivot (clause_at s left) (clause_at s right)))) (Err Pivot)) (Err Dropped)) (Err Place) ≡ Ok t → holds m t ≡ true
    by_case true true true l h =
        let p = and_parts (is_live s left) (is_live s right) l in
        let q = and_parts (all_true v (live_of s.slots)) (not s.empty) k in
        let c = resolvent-true v pivot (clause_at s left) (clause_at s right) (all-live_of (clause_true v) s.slots left p.0 q.0) (all-live_of (clause_true v) s.slots right p.1 q.0) in
        subst (λ (z : State). holds m z ≡ true) (ok_is _ t _ refl h) (grown-holds m s (resolvent pivot (clause_at s left) (clause_at s right)) k c)
    by_case true true false l h = absurd cc
    by_case true false e l h = absurd cc
    by_case false b e l h = absurd cc

combined-sound : (s : State) (used : List Lit) (steps : List RowStep) (t : State) → Keeps s → combined s used steps ≡ Ok t → (m : Meaning) → holds m s ≡ true → holds m t ≡ true
combined-sound s used steps t f h m k =
    let w = then-went (line_rows s.atoms used steps) (combined_after s used) t h in
    by_case w.first w.is (ends_badly w.first) refl w.second
  where
    by_case : (rows : List Row) → line_rows s.atoms used steps ≡ Ok rows → (b : Bool) → ends_badly rows ≡ b → cond b (Ok (grown s (negations used))) (Err Contradiction) ≡ Ok t → holds m t ≡ true
    by_case rows e true b h =
        subst (λ (z : State). holds m z ≡ true) (ok_is _ t _ refl h) (grown-holds m s (negations used) k (farkas-true m s.atoms used steps rows f.rows_good e b))
    by_case rows e false b h = absurd cc

split-sound : (s : State) (place : ℕ) (at : ℤ) (used : List Lit) (steps : List RowStep) (low high : ℕ) (values : List ℤ) (t : State) → Keeps s → split s place at used steps low high values ≡ Ok t
    → (m : Meaning) → holds m s ≡ true → holds m t ≡ true
split-sound s place at used steps low high values t f h m k = by_case (nat_lt place s.ints) h
  where
    after : (rows : List Row) (a b : Bool) (o : Result (Unit {0}) Why) → cond a (cond (not b) (then_ o (λ _. Ok (named s (at_most place at)))) (Err SplitAgain)) (Err Place) ≡ Ok t → holds m t ≡ true
    after rows true false (Ok u) h = subst (λ (z : State). holds m z ≡ true) (ok_is _ t _ refl h) (named-holds m s (at_most place at) f k)
    after rows true false (Err w) h = absurd cc
    after rows true true o h = absurd cc
    after rows false b o h = absurd cc

    by_case : (a : Bool) → cond a (then_ (line_rows s.atoms used steps) (λ rows. split_after s place at rows low high values)) (Err Place) ≡ Ok t → holds m t ≡ true
    by_case true h =
        let w = then-went (line_rows s.atoms used steps) (λ rows. split_after s place at rows low high values) t h in
        after w.first (split_fits w.first place low high values) (list_any (is_at_most place at) s.atoms) (split_cause place at (row_at w.first low) (row_at w.first high) values) w.second
    by_case false h = absurd cc

dropped-sound : (s : State) (ns : List ℕ) (t : State) → dropped s ns ≡ Ok t → (m : Meaning) → holds m s ≡ true → holds m t ≡ true
dropped-sound s ns t h m k = by_case (is_some_number ns && list_all (λ n. nat_lt n (length s.slots)) ns) (are_different ns && list_all (is_live s) ns) h
  where
    by_case : (a b : Bool) → cond a (cond b (Ok (without_clauses s ns)) (Err Dropped)) (Err Place) ≡ Ok t → holds m t ≡ true
    by_case true true h = subst (λ (z : State). holds m z ≡ true) (ok_is _ t _ refl h) (cleared-holds m s ns k)
    by_case true false h = absurd cc
    by_case false b h = absurd cc

-- a line keeps what makes all clauses true
pub next-sound : (s : State) (l : Line) (t : State) → Keeps s → next s l ≡ Ok t → (m : Meaning) → holds m s ≡ true → holds m t ≡ true
next-sound s (Resolve left right pivot) t f h = resolved-sound s left right pivot t h
next-sound s (Farkas used steps) t f h = combined-sound s used steps t f h
next-sound s (Split place at used steps low high values) t f h = split-sound s place at used steps low high values t f h
next-sound s (Drop clauses) t f h = dropped-sound s clauses t h

pub taken-sound : (s : State) (l : Line) (t : State) (r : Result (Unit {0}) LineRefused) → StateFits s → MatchResult r (λ _. next s l ≡ Ok t) (λ e. IsTold e (next s l))
    → OnOk r ((m : Meaning) → holds m s ≡ true → holds m t ≡ true)
taken-sound s l t (Ok u) f e = next-sound s l t (record { atoms_named = f.atoms_named; rows_good = f.rows_good }) e
taken-sound s l t (Err w) f e = tt
