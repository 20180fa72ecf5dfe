-- The numbers of the rows on a side of a place, found by the place.
use Rattle.std.proofs.Common.{◌≡◌, ℕ, zero, suc, ◌<◌, length, Bool, true, false, cond, ◌||◌, List, [], ◌∷◌, get_or, refl, sym, ap, subst, arith}
use Rattle.std.specs.Prelude.{◌==◌, nat_lt}
use Rattle.std.specs.List.{filter}
use Rattle.std.proofs.lemmas.Bool.{and_parts, and_from, eqb-true, ltb-true, lt-ltb}
use Rattle.lin_rows.specs.Rows.{Row}
use Rattle.proof_lines.specs.Numbers.{stands_in}
use Rattle.line_rows.specs.Steps.{row_at}
use Rattle.elimination.specs.Places.{names}
use Rattle.elimination.specs.Sides.{is_on, is_on_at, IsSide}
use Rattle.elimination.proofs.Signs.{on-named}
use Rattle.elimination.proofs.Names.{names-there}

filter-passes : (f : ℕ → Bool) (l : List ℕ) (a : ℕ) → a < length (filter f l) → f (get_or (filter f l) a 0) ≡ true
filter-passes f [] a h = absurd (omega arith)
filter-passes f (x ∷ l) a h = by_case (f x) refl (λ b k. filter-passes f l b k) a h
  where
    by_case : (b : Bool) → f x ≡ b → ((c : ℕ) → c < length (filter f l) → f (get_or (filter f l) c 0) ≡ true) → (a : ℕ) → a < length (cond b (x ∷ filter f l) (filter f l)) → f (get_or (cond b (x ∷ filter f l) (filter f l)) a 0) ≡ true
    by_case true e rest zero h = e
    by_case true e rest (suc a) h = rest a (omega arith)
    by_case false e rest a h = rest a h

-- a number stands at a place of the list
abbrev IsAt : List ℕ → ℕ → Type 0
IsAt l i = (a : ℕ) × (a < length l) × (get_or l a 0 ≡ i)

one-before : (x : ℕ) (l : List ℕ) (i : ℕ) → IsAt l i → IsAt (x ∷ l) i
one-before x l i r = (suc r.0, (let k = r.1 in omega arith), r.2)

filter-has : (f : ℕ → Bool) (l : List ℕ) (i : ℕ) → stands_in l i ≡ true → f i ≡ true → IsAt (filter f l) i
filter-has f [] i s h = absurd cc
filter-has f (x ∷ l) i s h = by_case (x == i) refl (f x) refl s (λ k. filter-has f l i k h)
  where
    by_case : (c : Bool) → (x == i) ≡ c → (b : Bool) → f x ≡ b → (c || stands_in l i) ≡ true → (stands_in l i ≡ true → IsAt (filter f l) i) → IsAt (cond b (x ∷ filter f l) (filter f l)) i
    by_case true e true k s rest = (0, omega arith, eqb-true x i e)
    by_case true e false k s rest = absurd (let q = ap f (eqb-true x i e) in cc)
    by_case false e true k s rest = one-before x (filter f l) i (rest s)
    by_case false e false k s rest = rest s

-- each row that names a place is among some numbers
abbrev pub AreAllNamed : List Row → ℕ → List ℕ → Type 0
AreAllNamed held place named = (i : ℕ) → i < length held → names place (row_at held i) ≡ true → stands_in named i ≡ true

pub on-among : (upper : Bool) (before : List ℕ) (place : ℕ) (held : List Row) (named : List ℕ) → AreAllNamed held place named → (i : ℕ) → i < length held → is_on upper before place (row_at held i) ≡ true → stands_in named i ≡ true
on-among upper before place held named f i l o = f i l (names-there place (row_at held i).terms (on-named upper before place (row_at held i) o))

pub on-parts : (upper : Bool) (before : List ℕ) (place : ℕ) (held : List Row) (i : ℕ) → is_on_at upper before place held i ≡ true → (i < length held) × (is_on upper before place (row_at held i) ≡ true)
on-parts upper before place held i h = let b = and_parts (nat_lt i (length held)) (is_on upper before place (row_at held i)) h in (ltb-true i (length held) b.0, b.1)

pub on-from : (upper : Bool) (before : List ℕ) (place : ℕ) (held : List Row) (i : ℕ) → i < length held → is_on upper before place (row_at held i) ≡ true → is_on_at upper before place held i ≡ true
on-from upper before place held i l o = and_from (nat_lt i (length held)) (is_on upper before place (row_at held i)) (lt-ltb i (length held) l) o

pub side-filtered : (upper : Bool) (before : List ℕ) (place : ℕ) (held : List Row) (named numbers : List ℕ) → AreAllNamed held place named → numbers ≡ filter (is_on_at upper before place held) named → IsSide upper before place held (length held) numbers
side-filtered upper before place held named numbers f e = subst (λ (l : List ℕ). IsSide upper before place held (length held) l) (sym e) (
    record {
      sound = λ a h. on-parts upper before place held (get_or (filter (is_on_at upper before place held) named) a 0) (filter-passes (is_on_at upper before place held) named a h);
      complete = λ i h o. filter-has (is_on_at upper before place held) named i (on-among upper before place held named f i h o) (on-from upper before place held i h o);
    })
