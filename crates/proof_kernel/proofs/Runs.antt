-- A log that the rules take keeps what makes the problem's clauses true; so one with an empty clause shows that nothing does.
use Rattle.std.proofs.Common.{◌≡◌, ℕ, ◌+◌, Bool, true, false, not, cond, ◌&&◌, List, [], ◌∷◌, ◌++◌, length, length-append, refl, subst, arith, Result, Ok, Err}
use Rattle.std.specs.Prelude.{nat_lt, ℤ}
use Rattle.std.specs.List.{list_any, list_all}
use Rattle.std.proofs.lemmas.Bool.{and_parts, and_from}
use Rattle.std.proofs.lemmas.List.Folds.{list_all-append}
use Rattle.lin_rows.specs.Rows.{Row, is_row}
use Rattle.proof_lines.specs.declared.clause.Lit.{Lit}
use Rattle.proof_lines.specs.declared.problem.AtomKind.TheVariants.{Row as OfRow}
use Rattle.proof_lines.specs.declared.line.RowStep.{RowStep}
use Rattle.proof_lines.specs.declared.line.Line.{Line}
use Rattle.proof_lines.specs.declared.line.Line.TheVariants.{Resolve, Farkas, Split, Drop}
use Rattle.proof_lines.specs.declared.line.Why.{Why}
use Rattle.proof_lines.specs.declared.line.Why.TheVariants.{Place, Pivot, Contradiction, SplitAgain, Dropped}
use Rattle.proof_lines.specs.Numbers.{are_different}
use Rattle.proof_lines.specs.Clauses.{has, lit_of, resolvent, negations, all_true}
use Rattle.proof_lines.specs.Problems.{PlainProblem, Meaning, HasNoInterpretation, atom_true, atoms_below, names_below, has_good_row, fits}
use Rattle.line_rows.specs.Refusals.{then_}
use Rattle.line_rows.specs.Steps.{line_rows, ends_badly, row_at}
use Rattle.line_rows.specs.Splits.{at_most, is_at_most, split_fits, split_cause}
use Rattle.line_rows.proofs.Names.{all-resolvent, all-weaker, negations-below}
use Rattle.line_rows.proofs.Sound.{ok_is}
use Rattle.line_rows.proofs.LineRows.{line-are_rows, row_at-is_row, split-in_range, is_row-at_most}
use Rattle.log_freshness.specs.Freshness.{live_of}
use Rattle.proof_kernel.specs.Rules.{State, next, holds, start, is_live, clause_at, grown, named, resolved, combined, combined_after, split, split_after, dropped, without_clauses, is_some_number, run, run_from}
use Rattle.proof_kernel.proofs.States.{live_of-push, live_of-map, all-live_of, all-cleared}
use Rattle.proof_kernel.proofs.Lines.{Keeps, then-went, start-holds, next-sound}

-- what a line leaves sound
grown-sound : (s : State) (c : List Lit) → Keeps s → atoms_below (length s.atoms) c ≡ true → Keeps (grown s c)
grown-sound s c f below = record {
  atoms_named = rw (live_of-push s.slots c, list_all-append) (and_from (list_all (atoms_below (length s.atoms)) (live_of s.slots)) (atoms_below (length s.atoms) c && true) f.atoms_named (and_from (atoms_below (length s.atoms) c) true below refl));
  rows_good = f.rows_good;
}

resolved-keeps : (s : State) (left right pivot : ℕ) (t : State) → Keeps s → resolved s left right pivot ≡ Ok t → Keeps t
resolved-keeps s left right pivot t f h =
    by_case (nat_lt left (length s.slots) && (nat_lt right (length s.slots) && nat_lt pivot (length s.atoms))) (is_live s left && is_live s right)
    (has (clause_at s left) (lit_of pivot true) && has (clause_at s right) (lit_of pivot false)) refl h
  where
    n : ℕ
    n = length s.atoms

    by_case : (a b e : Bool) → (is_live s left && is_live s right) ≡ b
        → cond a (cond b (cond e (Ok (grown s (resolvent pivot (clause_at s left) (clause_at s right)))) (Err Pivot)) (Err Dropped)) (Err Place) ≡ Ok t → Keeps t
    by_case true true true l h =
        let p = and_parts (is_live s left) (is_live s right) l in
        let c = all-resolvent (λ (l : Lit). nat_lt l.atom n) pivot (clause_at s left) (clause_at s right) (all-live_of (atoms_below n) s.slots left p.0 f.atoms_named) (all-live_of (atoms_below n) s.slots right p.1 f.atoms_named) in
        subst (λ (z : State). Keeps z) (ok_is _ t _ refl h) (grown-sound s (resolvent pivot (clause_at s left) (clause_at s right)) f c)
    by_case true true false l h = absurd cc
    by_case true false e l h = absurd cc
    by_case false b e l h = absurd cc

combined-keeps : (s : State) (used : List Lit) (steps : List RowStep) (t : State) → Keeps s → combined s used steps ≡ Ok t → Keeps t
combined-keeps s used steps t f h =
    let w = then-went (line_rows s.atoms used steps) (combined_after s used) t h in
    by_case w.first w.is (ends_badly w.first) w.second
  where
    by_case : (rows : List Row) → line_rows s.atoms used steps ≡ Ok rows → (b : Bool) → cond b (Ok (grown s (negations used))) (Err Contradiction) ≡ Ok t → Keeps t
    by_case rows e true h = subst (λ (z : State). Keeps z) (ok_is _ t _ refl h) (grown-sound s (negations used) f (negations-below s.atoms used steps rows e))
    by_case rows e false h = absurd cc

named-sound : (s : State) (r : Row) → Keeps s → is_row r ≡ true → Keeps (named s r)
named-sound s r f good =
    let l : length (s.atoms ++ OfRow r ∷ []) ≡ length s.atoms + 1 = length-append s.atoms (OfRow r ∷ []) in
    record {
      atoms_named = all-weaker (length s.atoms) (length (s.atoms ++ OfRow r ∷ [])) (live_of s.slots) (omega (arith, l)) f.atoms_named;
      rows_good = rw list_all-append (and_from (list_all has_good_row s.atoms) (is_row r && true) f.rows_good (and_from (is_row r) true good refl));
    }

split-keeps : (s : State) (place : ℕ) (at : ℤ) (used : List Lit) (steps : List RowStep) (low high : ℕ) (values : List ℤ) (t : State) → Keeps s → split s place at used steps low high values ≡ Ok t → Keeps t
split-keeps s place at used steps low high values t f h = by_case (nat_lt place s.ints) h
  where
    after : (rows : List Row) → list_all is_row rows ≡ true → (a b : Bool) (o : Result (Unit {0}) Why) → split_cause place at (row_at rows low) (row_at rows high) values ≡ o
        → cond a (cond (not b) (then_ o (λ _. Ok (named s (at_most place at)))) (Err SplitAgain)) (Err Place) ≡ Ok t → Keeps t
    after rows k true false (Ok u) e h =
        let r = split-in_range place at (row_at rows low) (row_at rows high) values (row_at-is_row rows low k) e in
        subst (λ (z : State). Keeps z) (ok_is _ t _ refl h) (named-sound s (at_most place at) f (is_row-at_most place at r))
    after rows k true false (Err w) e h = absurd cc
    after rows k true true o e h = absurd cc
    after rows k false b o e h = absurd cc

    by_case : (a : Bool) → cond a (then_ (line_rows s.atoms used steps) (λ rows. split_after s place at rows low high values)) (Err Place) ≡ Ok t → Keeps t
    by_case true h =
        let w = then-went (line_rows s.atoms used steps) (λ rows. split_after s place at rows low high values) t h in
        after w.first (line-are_rows s.atoms used steps w.first f.rows_good w.is) (split_fits w.first place low high values) (list_any (is_at_most place at) s.atoms) (split_cause place at (row_at w.first low) (row_at w.first high) values) refl w.second
    by_case false h = absurd cc

dropped-keeps : (s : State) (ns : List ℕ) (t : State) → Keeps s → dropped s ns ≡ Ok t → Keeps t
dropped-keeps s ns t f h = by_case (is_some_number ns && list_all (λ n. nat_lt n (length s.slots)) ns) (are_different ns && list_all (is_live s) ns) h
  where
    kept : Keeps (without_clauses s ns)
    kept = record { atoms_named = all-cleared (atoms_below (length s.atoms)) s.slots ns f.atoms_named; rows_good = f.rows_good }

    by_case : (a b : Bool) → cond a (cond b (Ok (without_clauses s ns)) (Err Dropped)) (Err Place) ≡ Ok t → Keeps t
    by_case true true h = subst (λ (z : State). Keeps z) (ok_is _ t _ refl h) kept
    by_case true false h = absurd cc
    by_case false b h = absurd cc

next-keeps : (s : State) (l : Line) (t : State) → Keeps s → next s l ≡ Ok t → Keeps t
next-keeps s (Resolve left right pivot) t f h = resolved-keeps s left right pivot t f h
next-keeps s (Farkas used steps) t f h = combined-keeps s used steps t f h
next-keeps s (Split place at used steps low high values) t f h = split-keeps s place at used steps low high values t f h
next-keeps s (Drop clauses) t f h = dropped-keeps s clauses t f h

abbrev taken : State → Result State (ℕ × Why)
taken s = Ok s

same_state : (s t : State) → taken s ≡ taken t → s ≡ t
same_state s t e = cc

-- what stands after the next line and those that follow
abbrev after_next : ℕ → List Line → Result State Why → Result State (ℕ × Why)
after_next k ls (Ok u) = run_from (k + 1) u ls
after_next k ls (Err w) = Err (k, w)

-- a whole log
run_from-sound : (k : ℕ) (s : State) (ls : List Line) (t : State) → Keeps s → run_from k s ls ≡ Ok t → (m : Meaning) → holds m s ≡ true → holds m t ≡ true
run_from-sound k s [] t f h m g = subst (λ (z : State). holds m z ≡ true) (same_state s t h) g
run_from-sound k s (l ∷ ls) t f h m g = by_line (λ u e h. run_from-sound (k + 1) u ls t (next-keeps s l u f e) h m (next-sound s l u f e m g)) (next s l) refl h
  where
    by_line : ((u : State) → next s l ≡ Ok u → run_from (k + 1) u ls ≡ taken t → holds m t ≡ true) → (o : Result State Why) → next s l ≡ o
        → after_next k ls o ≡ taken t → holds m t ≡ true
    by_line rest (Ok u) e h = rest u e h
    by_line rest (Err w) e h = absurd cc

start-sound : (p : PlainProblem) → fits p ≡ true → list_all has_good_row p.atoms ≡ true → Keeps (start p)
start-sound p f good =
    let q = and_parts (list_all (names_below p.ints) p.atoms) (list_all (atoms_below (length p.atoms)) p.clauses) f in
    record { atoms_named = rw (live_of-map p.clauses) q.1; rows_good = good }

-- a log with an empty clause shows that nothing makes all clauses of the problem true
pub run-refutes : (p : PlainProblem) (ls : List Line) (t : State) → fits p ≡ true → list_all has_good_row p.atoms ≡ true → run p ls ≡ Ok t → t.empty ≡ true → HasNoInterpretation p
run-refutes p ls t f good h e m k =
    let g = run_from-sound 0 (start p) ls t (start-sound p f good) h m (start-holds m p k) in
    clash t.empty e (and_parts (all_true (atom_true m t.atoms) (live_of t.slots)) (not t.empty) g).1
  where
    clash : (b : Bool) → b ≡ true → not b ≡ true → ⊥
    clash true p q = absurd cc
    clash false p q = absurd cc
