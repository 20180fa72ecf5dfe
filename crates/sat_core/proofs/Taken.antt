use Rattle.std.proofs.Common.{◌≡◌, ℕ, zero, suc, ◌+◌, ◌<◌, ℤ, Bool, true, false, not, cond, ◌&&◌, ◌||◌, List, [], ◌∷◌, ◌++◌, length, map, get_or, refl, sym, ◌∙◌, ap, subst, arith, Option, Some, None, Result, Ok, Err, is_some, nat_lt}
use Rattle.std.specs.List.{list_any, list_all}
use Rattle.proof_lines.specs.declared.clause.Lit.{Lit}
use Rattle.proof_lines.specs.declared.line.RowStep.{RowStep}
use Rattle.proof_lines.specs.declared.line.Line.{Line}
use Rattle.proof_lines.specs.declared.line.Line.TheVariants.{Resolve, Farkas, Split}
use Rattle.proof_lines.specs.declared.line.Why.{Why}
use Rattle.proof_lines.specs.declared.line.Why.TheVariants.{Place, Pivot, Dropped, Contradiction, SplitAgain}
use Rattle.lin_rows.specs.Rows.{Row}
use Rattle.proof_lines.specs.Clauses.{has, flip, lit_of, resolvent, negations, is_empty}
use Rattle.proof_lines.specs.Problems.{PlainProblem}
use Rattle.line_rows.specs.Refusals.{then_}
use Rattle.line_rows.specs.Steps.{line_rows, held_rows, refutes_so, row_at, is_some_literal}
use Rattle.line_rows.specs.Splits.{split_fits, split_cause, at_most, is_at_most}
use Rattle.proof_kernel.specs.Rules.{State, next, grown, named, run_from, is_live, clause_at, clause_or_empty, combined_after, split_after}
use Rattle.std.proofs.lemmas.Bool.{and_parts, lt-ltb}
use Rattle.theory_api.specs.Laws.{IsConflict, IsSplit, rows_at, is_some_row}
use Rattle.theory_api.proofs.Standing.{Stand, lit_at, stand-line, stand-used}
use Rattle.sat_core.specs.SearchLogs.{standing, with_clause, with_row, resolve_line, resolved_on}

-- The proof kernel takes the lines of a search.

-- lines that are run one after the other
pub run-push : (k : ℕ) (b : State) (ls : List Line) (s : State) (l : Line) (t : State) → run_from k b ls ≡ Ok s → next s l ≡ Ok t → run_from k b (ls ++ l ∷ []) ≡ Ok t
run-push k b [] s l t h n =
    let q : b ≡ s = cc in
    let m : next b l ≡ Ok t = subst (λ (z : State). next z l ≡ Ok t) (sym q) n in
    ap (λ (r : Result State Why). elim r as (λ _. Result State (ℕ × Why)) [ Ok u ↦ Ok u | Err w ↦ Err (k, w) ]) m
run-push k b (x ∷ ls) s l t h n = by_next (next b x) h (λ u g. run-push (k + 1) u ls s l t g n)
  where
    by_next : (r : Result State Why) → elim r as (λ _. Result State (ℕ × Why)) [ Ok u ↦ run_from (k + 1) u ls | Err w ↦ Err (k, w) ] ≡ Ok s
        → ((u : State) → run_from (k + 1) u ls ≡ Ok s → run_from (k + 1) u (ls ++ l ∷ []) ≡ Ok t)
        → elim r as (λ _. Result State (ℕ × Why)) [ Ok u ↦ run_from (k + 1) u (ls ++ l ∷ []) | Err w ↦ Err (k, w) ] ≡ Ok t
    by_next (Ok u) h f = f u h
    by_next (Err w) h f = absurd cc

slots-push : (cs : List (List Lit)) (c : List Lit) → ◌≡◌ {A = List (Option (List Lit))} (map (λ x. Some x) cs ++ Some c ∷ []) (map (λ x. Some x) (cs ++ c ∷ []))
slots-push [] c = refl
slots-push (d ∷ cs) c = ap (λ (z : List (Option (List Lit))). Some d ∷ z) (slots-push cs c)

empty-push : (cs : List (List Lit)) (c : List Lit) → (list_any is_empty cs || is_empty c) ≡ list_any is_empty (cs ++ c ∷ [])
empty-push [] c = one (is_empty c)
  where
    one : (b : Bool) → (false || b) ≡ (b || false)
    one b = grind arith
empty-push (d ∷ cs) c = swap (is_empty d) (list_any is_empty cs) (is_empty c) ∙ ap (λ b. is_empty d || b) (empty-push cs c)
  where
    swap : (a b c : Bool) → ((a || b) || c) ≡ (a || (b || c))
    swap a b c = grind arith

pub standing-grown : (g : ℕ) (q : PlainProblem) (c : List Lit) → grown (standing g q) c ≡ standing g (with_clause q c)
standing-grown g q c = λ i. record { atoms = q.atoms; ints = q.ints; given = g; slots = slots-push q.clauses c i; empty = empty-push q.clauses c i }

slots-length : (cs : List (List Lit)) → length (map (λ x. Some x) cs) ≡ length cs
slots-length [] = refl
slots-length (c ∷ cs) = ap suc (slots-length cs)

slot-at : (cs : List (List Lit)) (i : ℕ) → i < length cs → get_or (map (λ x. Some x) cs) i None ≡ Some (get_or cs i [])
slot-at [] i h = absurd (omega arith)
slot-at (c ∷ cs) zero h = refl
slot-at (c ∷ cs) (suc i) h = slot-at cs i (omega arith)

module _ (g : ℕ) (q : PlainProblem) where
  there : (i : ℕ) → i < length q.clauses → nat_lt i (length (standing g q).slots) ≡ true
  there i h = lt-ltb i (length (standing g q).slots) (let e = slots-length q.clauses in omega arith)

  live : (i : ℕ) → i < length q.clauses → is_live (standing g q) i ≡ true
  live i h = ap (λ (o : Option (List Lit)). is_some o) (slot-at q.clauses i h)

  clause : (i : ℕ) → i < length q.clauses → clause_at (standing g q) i ≡ get_or q.clauses i []
  clause i h = ap clause_or_empty (slot-at q.clauses i h)

  passes : (x : State) (a b c d e f h : Bool) → a ≡ true → b ≡ true → c ≡ true → d ≡ true → e ≡ true → f ≡ true → h ≡ true
      → cond (a && (b && c)) (cond (d && e) (cond (f && h) (Ok x) (Err Pivot)) (Err Dropped)) (Err Place) ≡ Ok x
  passes x a b c d e f h p1 p2 p3 p4 p5 p6 p7 = λ i. cond (p1 i && (p2 i && p3 i)) (cond (p4 i && p5 i) (cond (p6 i && p7 i) (Ok x) (Err Pivot)) (Err Dropped)) (Err Place)

  resolves : (left right pivot : ℕ) → left < length q.clauses → right < length q.clauses → pivot < length q.atoms
      → has (get_or q.clauses left []) (lit_of pivot true) ≡ true → has (get_or q.clauses right []) (lit_of pivot false) ≡ true
      → next (standing g q) (Resolve left right pivot) ≡ Ok (standing g (with_clause q (resolvent pivot (get_or q.clauses left []) (get_or q.clauses right []))))
  resolves left right pivot a b d h k =
      let cl = clause left a in
      let cr = clause right b in
      passes (grown (standing g q) (resolvent pivot (clause_at (standing g q) left) (clause_at (standing g q) right))) _ _ _ _ _ _ _ (there left a) (there right b) (lt-ltb pivot (length q.atoms) d) (live left a) (live right b)
      (ap (λ (c : List Lit). has c (lit_of pivot true)) cl ∙ h) (ap (λ (c : List Lit). has c (lit_of pivot false)) cr ∙ k)
      ∙ (λ i. Ok (grown (standing g q) (resolvent pivot (cl i) (cr i))))
      ∙ ap (λ (s : State). Ok s) (standing-grown g q (resolvent pivot (get_or q.clauses left []) (get_or q.clauses right [])))

  pub resolve_taken : (l : Lit) (r i : ℕ) → r < length q.clauses → i < length q.clauses → l.atom < length q.atoms → has (get_or q.clauses r []) l ≡ true → has (get_or q.clauses i []) (flip l) ≡ true
      → next (standing g q) (resolve_line l r i) ≡ Ok (standing g (with_clause q (resolved_on l (get_or q.clauses r []) (get_or q.clauses i []))))
  resolve_taken l r i a b d h k = by_sign l.atom l.positive d h k
    where
      by_sign : (at : ℕ) (p : Bool) → at < length q.atoms → has (get_or q.clauses r []) (lit_of at p) ≡ true → has (get_or q.clauses i []) (flip (lit_of at p)) ≡ true
          → next (standing g q) (resolve_line (lit_of at p) r i) ≡ Ok (standing g (with_clause q (resolved_on (lit_of at p) (get_or q.clauses r []) (get_or q.clauses i []))))
      by_sign at true d h k = resolves r i at a b d h k
      by_sign at false d h k = resolves i r at b a d k h

some_lits : (lits : List Lit) (used : List ℕ) → is_some_row used ≡ true → is_some_literal (map (lit_at lits) used) ≡ true
some_lits lits [] h = absurd cc
some_lits lits (u ∷ used) h = refl

-- the rows of picked literals
pub picked-line : (q : PlainProblem) (lits : List Lit) (rows : List Row) (used : List ℕ) (steps : List RowStep) → Stand q.atoms lits rows → (is_some_row used && list_all (λ u. nat_lt u (length rows)) used) ≡ true
    → line_rows q.atoms (map (lit_at lits) used) steps ≡ held_rows (rows_at rows used) steps
picked-line q lits rows used steps s h =
    let b = and_parts (is_some_row used) (list_all (λ u. nat_lt u (length rows)) used) h in
    stand-line q.atoms (map (lit_at lits) used) (rows_at rows used) steps (stand-used q.atoms lits rows used s b.1) (some_lits lits used b.0)

pub farkas_taken : (g : ℕ) (q : PlainProblem) (lits : List Lit) (rows : List Row) (used : List ℕ) (steps : List RowStep) → Stand q.atoms lits rows → IsConflict rows used steps
    → next (standing g q) (Farkas (map (lit_at lits) used) steps) ≡ Ok (standing g (with_clause q (negations (map (lit_at lits) used))))
farkas_taken g q lits rows used steps s c =
    ap (λ (o : Result (List Row) Why). then_ o (combined_after (standing g q) (map (lit_at lits) used))) (picked-line q lits rows used steps s c.given)
    ∙ by_rows (held_rows (rows_at rows used) steps) c.refuted
  where
    by_rows : (o : Result (List Row) Why) → refutes_so o ≡ true → then_ o (combined_after (standing g q) (map (lit_at lits) used)) ≡ Ok (standing g (with_clause q (negations (map (lit_at lits) used))))
    by_rows (Ok held) h =
        (λ i. cond (h i) (Ok (grown (standing g q) (negations (map (lit_at lits) used)))) (Err Contradiction))
        ∙ ap (λ (z : State). Ok z) (standing-grown g q (negations (map (lit_at lits) used)))
    by_rows (Err w) h = absurd cc

pub split_taken : (g : ℕ) (q : PlainProblem) (lits : List Lit) (rows : List Row) (place : ℕ) (at : ℤ) (used : List ℕ) (steps : List RowStep) (low high : ℕ) (values : List ℤ) → Stand q.atoms lits rows
    → IsSplit q.ints rows place at used steps low high values → list_any (is_at_most place at) q.atoms ≡ false
    → next (standing g q) (Split place at (map (lit_at lits) used) steps low high values) ≡ Ok (standing g (with_row q (at_most place at)))
split_taken g q lits rows place at used steps low high values s c n =
    (λ i. cond (lt-ltb place q.ints c.place_below i) (then_ (picked-line q lits rows used steps s c.given i) (λ all. split_after (standing g q) place at all low high values)) (Err Place))
    ∙ by_rows (held_rows (rows_at rows used) steps) c.cause
  where
    by_cause : (o : Result (Unit {0}) Why) → o ≡ Ok tt → then_ o (λ _. Ok (named (standing g q) (at_most place at))) ≡ Ok (standing g (with_row q (at_most place at)))
    by_cause (Ok u) h = refl
    by_cause (Err w) h = absurd cc

    by_fits : (all : List Row) (f : Bool) → cond f (split_cause place at (row_at all low) (row_at all high) values) (Err Place) ≡ Ok tt
        → cond f (cond (not (list_any (is_at_most place at) q.atoms)) (then_ (split_cause place at (row_at all low) (row_at all high) values) (λ _. Ok (named (standing g q) (at_most place at)))) (Err SplitAgain)) (Err Place) ≡ Ok (standing g (with_row q (at_most place at)))
    by_fits all true h = (λ i. cond (not (n i)) (then_ (split_cause place at (row_at all low) (row_at all high) values) (λ _. Ok (named (standing g q) (at_most place at)))) (Err SplitAgain)) ∙ by_cause (split_cause place at (row_at all low) (row_at all high) values) h
    by_fits all false h = absurd cc

    by_rows : (o : Result (List Row) Why) → then_ o (λ all. cond (split_fits all place low high values) (split_cause place at (row_at all low) (row_at all high) values) (Err Place)) ≡ Ok tt
        → then_ o (λ all. split_after (standing g q) place at all low high values) ≡ Ok (standing g (with_row q (at_most place at)))
    by_rows (Ok all) h = by_fits all (split_fits all place low high values) h
    by_rows (Err w) h = absurd cc
