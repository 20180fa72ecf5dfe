use Rattle.std.proofs.Common.{◌≡◌, ℕ, ◌<◌, ◌≤◌, ◌+◌, length, Bool, true, false, ◌||◌, List, [], ◌∷◌, ◌++◌, refl, sym, ◌∙◌, ap, subst, arith, inl, inr}
use Rattle.std.specs.List.{list_any, list_all}
use Rattle.std.proofs.lemmas.List.{length-append}
use Rattle.std.proofs.lemmas.List.Folds.{list_any-append}
use Rattle.std.proofs.lemmas.Bool.{cases_lt}
use Rattle.lin_rows.specs.Numbers.{is_zero}
use Rattle.lin_rows.specs.Rows.{Row, is_row, is_contradiction, coefficient_at}
use Rattle.lin_rows.specs.Divisors.{tightened}
use Rattle.line_rows.specs.Steps.{no_row, row_at}
use Rattle.proof_lines.specs.Numbers.{stands_in}
use Rattle.line_rows.specs.Evidence.{same_row}
use Rattle.line_rows.proofs.Certificates.{all_at}
use Rattle.theory_api.specs.Laws.{IsConflict, IsTooMany}
use Rattle.elimination.specs.declared.tableau.Tableau.{Tableau}
use Rattle.elimination.specs.Pairs.{Paired}
use Rattle.line_rows.specs.Evidence.{row_limit}
use Rattle.elimination.specs.Tableaux.{IsRun, IsTaking, IsElimination, AreTaken}
use Rattle.theory_api.proofs.Cancels.{all_different-more}
use Rattle.elimination.proofs.Growing.{held-at, taken-append}
use Rattle.elimination.proofs.Pairing.{row_at-last}
use Rattle.elimination.proofs.Runs.{with_given, run-given}
use Rattle.elimination.proofs.Stopping.{conflict, full}

-- A GIVEN ROW MORE is taken

taken-next : (rows : List Row) (n : ℕ) (held : List Row) → AreTaken rows n held → (i : ℕ) × (i < length held) × (row_at held i ≡ tightened (row_at rows n)) → AreTaken rows (n + 1) held
taken-next rows n held f g m h = elim (cases_lt m n) [
  | inl l ↦ f m l
  | inr l ↦ subst (λ (k : ℕ). (i : ℕ) × (i < length held) × (row_at held i ≡ tightened (row_at rows k))) (let e : n ≡ m = omega arith in e) g
]

pub given-run : (rows : List Row) (n : ℕ) (t : Tableau) → IsTaking rows n t → n < length rows → IsRun rows (with_given t n (tightened (row_at rows n)))
given-run rows n t k l = run-given rows t n k.tableau.run k.no_steps l (all_at is_row rows n no_row l k.rows_are) (k.left n l)

-- an equal row is held
pub given-held : (rows : List Row) (n : ℕ) (t : Tableau) (r : Row) → IsTaking rows n t → r ≡ tightened (row_at rows n) → list_any (λ q. same_row q r) t.held ≡ true → IsTaking rows (n + 1) t × (t.ints ≡ t.ints)
given-held rows n t r k e h = (
  record {
    rows_are = k.rows_are;
    tableau = k.tableau;
    no_steps = k.no_steps;
    no_order = k.no_order;
    taken = taken-next rows n t.held k.taken (let g = held-at t.held r h in (g.0, g.1, g.2 ∙ e));
    left = k.left;
  },
  refl,
)

pub given-refuted : (rows : List Row) (n : ℕ) (t u : Tableau) (r : Row) → IsTaking rows n t → n < length rows → r ≡ tightened (row_at rows n) → u ≡ with_given t n r → is_contradiction r ≡ true → IsConflict rows u.used u.steps
given-refuted rows n t u r k l e f b =
    subst (λ (v : Tableau). IsConflict rows v.used v.steps) (sym f)
    (conflict rows (with_given t n r) t.held r (subst (λ (q : Row). IsRun rows (with_given t n q)) (sym e) (given-run rows n t k l)) refl b)

pub given-full : (rows : List Row) (n : ℕ) (t u : Tableau) (r : Row) → IsTaking rows n t → n < length rows → r ≡ tightened (row_at rows n) → u ≡ with_given t n r → list_any (λ q. same_row q r) t.held ≡ false → row_limit ≤ length u.held
    → IsTooMany rows u.used u.steps
given-full rows n t u r k l e f h m =
    subst (λ (v : Tableau). IsTooMany rows v.used v.steps) (sym f)
    (full rows (with_given t n r) (subst (λ (q : Row). IsRun rows (with_given t n q)) (sym e) (given-run rows n t k l)) (all_different-more t.held r k.tableau.different h)
    (let w = k.tableau.few in let a = length-append t.held (r ∷ []) in let q = ap (λ (v : Tableau). length v.held) f in omega arith))

pub given-taken : (rows : List Row) (n : ℕ) (t u : Tableau) (r : Row) → IsTaking rows n t → n < length rows → r ≡ tightened (row_at rows n) → u ≡ with_given t n r → list_any (λ q. same_row q r) t.held ≡ false → is_contradiction r ≡ false → length u.held < row_limit
    → IsTaking rows (n + 1) u × (u.ints ≡ t.ints)
given-taken rows n t u r k l e f h b m =
    subst (λ (v : Tableau). IsTaking rows (n + 1) v × (v.ints ≡ t.ints)) (sym f) (
      record {
        rows_are = k.rows_are;
        tableau = record {
          run = subst (λ (q : Row). IsRun rows (with_given t n q)) (sym e) (given-run rows n t k l);
          consistent = list_any-append is_contradiction t.held (r ∷ []) ∙ none (list_any is_contradiction t.held) (is_contradiction r) k.tableau.consistent b;
          different = all_different-more t.held r k.tableau.different h;
          few = (let q = ap (λ (v : Tableau). length v.held) f in omega arith);
        };
        no_steps = k.no_steps;
        no_order = k.no_order;
        taken = taken-next rows n (t.held ++ r ∷ []) (taken-append rows n t.held (r ∷ []) k.taken) (length t.held, (let a = length-append t.held (r ∷ []) in omega arith), row_at-last t.held r ∙ e);
        left = k.left;
      },
      refl,
    )
  where
    none : (a b : Bool) → a ≡ false → b ≡ false → (a || (b || false)) ≡ false
    none true b h k = absurd cc
    none false true h k = absurd cc
    none false false h k = refl

-- before the first row
pub taking-start : (rows : List Row) (t : Tableau) → list_all is_row rows ≡ true → t.used ≡ [] → t.steps ≡ [] → t.held ≡ [] → t.order ≡ [] → ((q : ℕ) → stands_in t.left q ≡ true → q < t.ints)
    → ((m : ℕ) → m < length rows → (q : ℕ) → is_zero (coefficient_at (row_at rows m).terms q) ≡ false → stands_in t.left q ≡ true) → IsTaking rows 0 t
taking-start rows t k used steps held order below left =
    subst (λ (v : Tableau). IsTaking rows 0 v) (λ i. record { ints = t.ints; used = used_back i; steps = steps_back i; held = held_back i; order = order_back i; left = t.left }) (record {
      rows_are = k;
      tableau = record {
        run = record {
          given = refl;
          some = λ h. absurd (omega arith);
          held_is = refl;
          rows_are = λ i h. absurd (omega arith);
          cancel = refl;
          order_different = refl;
          in_order = refl;
          below = below;
          left_apart = λ q h. refl;
          named = λ i h. absurd (omega arith);
        };
        consistent = refl;
        different = refl;
        few = omega arith;
      };
      no_steps = refl;
      no_order = refl;
      taken = λ m h. absurd (omega arith);
      left = left;
    })
  where
    used_back : [] ≡ t.used
    used_back = sym used

    steps_back : [] ≡ t.steps
    steps_back = sym steps

    held_back : [] ≡ t.held
    held_back = sym held

    order_back : [] ≡ t.order
    order_back = sym order

-- when all are taken, no place is eliminated yet
pub taking-end : (rows : List Row) (t : Tableau) → IsTaking rows (length rows) t → IsElimination rows t
taking-end rows t k = record {
  tableau = k.tableau;
  taken = k.taken;
  paired = subst (λ (o : List ℕ). Paired o t.held) (sym k.no_order) (λ a i j h. absurd (omega arith));
}
