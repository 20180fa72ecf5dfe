use Rattle.std.proofs.Common.{◌≡◌, ℕ, zero, suc, ◌<◌, ◌+◌, length, ℤ, pos, Bool, true, false, ◌||◌, List, [], ◌∷◌, ◌++◌, refl, sym, ◌∙◌, subst, arith}
use Rattle.std.specs.Prelude.{◌==◌, nat_lt}
use Rattle.std.specs.List.{list_all, list_any}
use Rattle.std.proofs.lemmas.List.{length-append}
use Rattle.std.proofs.lemmas.List.Folds.{list_all-append}
use Rattle.std.proofs.lemmas.Bool.{and_parts, and_from, eqb-true, ltb-true}
use Rattle.lin_rows.specs.declared.term.RowTerm.{RowTerm}
use Rattle.lin_rows.specs.Numbers.{is_zero}
use Rattle.lin_rows.specs.Rows.{Row, coefficient_at, places_below, point_of}
use Rattle.line_rows.specs.Steps.{row_at}
use Rattle.proof_lines.specs.Numbers.{stands_in}
use Rattle.line_rows.specs.Evidence.{in_state}
use Rattle.theory_api.specs.Laws.{all_below}
use Rattle.elimination.specs.declared.tableau.Tableau.{Tableau}
use Rattle.elimination.specs.declared.stop.Stop.{Stop}
use Rattle.elimination.specs.declared.stop.Stop.TheVariants.{Contradiction, Full, Gap, Beyond, Memory}
use Rattle.elimination.specs.Places.{names}
use Rattle.linear_ints.specs.Stops.{IsStop}
use Rattle.elimination.specs.Stops.{IsEarlyStop}
use Rattle.linear_ints.specs.Descending.{AreZeros}
use Rattle.elimination.proofs.Names.{names-there}

-- ZEROS

pub zeros-more : (values : List ℤ) → ((q : ℕ) → point_of values q ≡ pos 0) → (q : ℕ) → point_of (values ++ pos 0 ∷ []) q ≡ pos 0
zeros-more [] f zero = refl
zeros-more [] f (suc q) = refl
zeros-more (v ∷ values) f zero = f 0
zeros-more (v ∷ values) f (suc q) = zeros-more values (λ m. f (suc m)) q

pub in_range-more : (values : List ℤ) → list_all in_state values ≡ true → list_all in_state (values ++ pos 0 ∷ []) ≡ true
in_range-more values h = list_all-append in_state values (pos 0 ∷ []) ∙ and_from (list_all in_state values) true h refl

pub no-zeros : AreZeros 0 []
no-zeros = record { whole = refl; zero = λ q. refl; in_range = refl }

pub one-zero : (n : ℕ) (values : List ℤ) → AreZeros n values → AreZeros (n + 1) (values ++ pos 0 ∷ [])
one-zero n values z = record {
  whole = (let l = length-append values (pos 0 ∷ []) in let w = z.whole in omega arith);
  zero = zeros-more values z.zero;
  in_range = in_range-more values z.in_range;
}

pub same-count : (m n : ℕ) (values : List ℤ) → AreZeros m values → m ≡ n → AreZeros n values
same-count m n values z e = subst (λ (k : ℕ). AreZeros k values) e z

-- a name of rows whose places are below a number is below it
term-below : (n q : ℕ) (ts : List RowTerm) → list_all (λ t. nat_lt t.place n) ts ≡ true → list_any (λ t. t.place == q) ts ≡ true → q < n
term-below n q [] h s = absurd cc
term-below n q (t ∷ ts) h s =
    let b = and_parts (nat_lt t.place n) (list_all (λ u. nat_lt u.place n) ts) h in
    by_place (t.place == q) refl s (term-below n q ts b.1) (ltb-true t.place n b.0)
  where
    by_place : (c : Bool) → (t.place == q) ≡ c → (c || list_any (λ u. u.place == q) ts) ≡ true → (list_any (λ u. u.place == q) ts ≡ true → q < n) → t.place < n → q < n
    by_place true e y f l = let w = eqb-true t.place q e in omega arith
    by_place false e y f l = f y

named-below : (ints : ℕ) (rows : List Row) (q : ℕ) → all_below ints rows ≡ true → list_any (names q) rows ≡ true → q < ints
named-below ints [] q h s = absurd cc
named-below ints (r ∷ rows) q h s =
    let b = and_parts (places_below ints r) (all_below ints rows) h in
    by_row (names q r) refl s (term-below ints q r.terms b.0) (named-below ints rows q b.1)
  where
    by_row : (c : Bool) → names q r ≡ c → (c || list_any (names q) rows) ≡ true → (names q r ≡ true → q < ints) → (list_any (names q) rows ≡ true → q < ints) → q < ints
    by_row true e y f g = f e
    by_row false e y f g = g y

any-at : (f : Row → Bool) (rows : List Row) (m : ℕ) → m < length rows → f (row_at rows m) ≡ true → list_any f rows ≡ true
any-at f [] m l h = absurd (omega arith)
any-at f (r ∷ rows) zero l h = first (f r) (list_any f rows) h
  where
    first : (a b : Bool) → a ≡ true → (a || b) ≡ true
    first a b e = grind arith
any-at f (r ∷ rows) (suc m) l h = later (f r) (list_any f rows) (any-at f rows m (omega arith) h)
  where
    later : (a b : Bool) → b ≡ true → (a || b) ≡ true
    later a b e = grind arith

abbrev pub AreNamed : List Row → List ℕ → Type 0
AreNamed rows left = (q : ℕ) → stands_in left q ≡ list_any (names q) rows

pub left-below : (rows : List Row) (ints : ℕ) (left : List ℕ) → all_below ints rows ≡ true → AreNamed rows left → (q : ℕ) → stands_in left q ≡ true → q < ints
left-below rows ints left h f q s = named-below ints rows q h (sym (f q) ∙ s)

pub left-all : (rows : List Row) (left : List ℕ) → AreNamed rows left → (m : ℕ) → m < length rows → (q : ℕ) → is_zero (coefficient_at (row_at rows m).terms q) ≡ false → stands_in left q ≡ true
left-all rows left f m l q z = f q ∙ any-at (names q) rows m l (names-there q (row_at rows m).terms z)

-- an early stop is a stop
pub early : (ints : ℕ) (rows : List Row) (t : Tableau) (s : Stop) → IsEarlyStop rows t s → IsStop ints rows t s
early ints rows t Contradiction h = h
early ints rows t Full h = h
early ints rows t (Gap place at low high values) h = absurd h
early ints rows t (Beyond what) h = h
early ints rows t Memory h = h
