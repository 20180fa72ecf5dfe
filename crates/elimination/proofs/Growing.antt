use Rattle.std.proofs.Common.{◌≡◌, ℕ, suc, ◌<◌, length, pos, ◌<ℤ◌, true, false, List, [], ◌∷◌, ◌++◌, refl, sym, ◌∙◌, ap, subst, arith, append_assoc, ◌⊎◌, inl, inr}
use Rattle.std.specs.List.{list_any, list_all}
use Rattle.std.proofs.lemmas.List.{length-append, get_or_append_left}
use Rattle.std.proofs.lemmas.List.Folds.{list_all-append}
use Rattle.std.proofs.lemmas.Bool.{and_parts, and_from, or_cases}
use Rattle.lin_rows.specs.Rows.{Row, has_no_terms, is_contradiction, coefficient_at}
use Rattle.line_rows.specs.Steps.{no_row, row_at}
use Rattle.line_rows.specs.Evidence.{same_row}
use Rattle.line_rows.proofs.Certificates.{same_row-is}
use Rattle.elimination.specs.declared.tableau.Tableau.{Tableau}
use Rattle.theory_api.specs.Ends.{names_none}
use Rattle.elimination.specs.Pairs.{IsCombinedAt, Paired}
use Rattle.elimination.specs.Tableaux.{Grown, CanMeet, AreTaken}
use Rattle.elimination.proofs.Pairing.{paired-row}

-- ROWS MORE AT THE END of the held ones

pub row_at-append : (held more : List Row) (i : ℕ) → i < length held → row_at (held ++ more) i ≡ row_at held i
row_at-append held more i h = get_or_append_left held more no_row i h

pub below-append : (held more : List Row) (i : ℕ) → i < length held → i < length (held ++ more)
below-append held more i h = let n = length-append held more in omega arith

pub combined-append : (place : ℕ) (held more : List Row) (high low : Row) → IsCombinedAt place held high low → IsCombinedAt place (held ++ more) high low
combined-append place held more high low c = record { sum = c.sum; sum_is = c.sum_is; stands = by_case c.stands }
  where
    by_case : ((has_no_terms c.sum.row.terms ≡ true) × (is_contradiction c.sum.row ≡ false)) ⊎ ((m : ℕ) × (m < length held) × (row_at held m ≡ c.sum.row))
        → ((has_no_terms c.sum.row.terms ≡ true) × (is_contradiction c.sum.row ≡ false)) ⊎ ((m : ℕ) × (m < length (held ++ more)) × (row_at (held ++ more) m ≡ c.sum.row))
    by_case (inl h) = inl h
    by_case (inr (m, l, e)) = inr (m, below-append held more m l, row_at-append held more m l ∙ e)

pub taken-append : (rows : List Row) (n : ℕ) (held more : List Row) → AreTaken rows n held → AreTaken rows n (held ++ more)
taken-append rows n held more f m h = let g = f m h in (g.0, below-append held more g.0 g.1, row_at-append held more g.0 g.1 ∙ g.2)

pub paired-append : (order : List ℕ) (held more : List Row) → Paired order held → list_all (names_none order) more ≡ true → Paired order (held ++ more)
paired-append order held [] f h = subst (λ (l : List Row). Paired order l) (sym (nil held)) f
  where
    nil : (l : List Row) → l ++ [] ≡ l
    nil [] = refl
    nil (x ∷ l) = ap (λ (m : List Row). x ∷ m) (nil l)
paired-append order held (r ∷ more) f h =
    let b = and_parts (names_none order r) (list_all (names_none order) more) h in
    subst (λ (l : List Row). Paired order l) (append_assoc held (r ∷ []) more) (paired-append order (held ++ r ∷ []) more (paired-row order held r f b.0) b.1)

-- a row that equals a held one is held
pub held-at : (held : List Row) (s : Row) → list_any (λ r. same_row r s) held ≡ true → (m : ℕ) × (m < length held) × (row_at held m ≡ s)
held-at [] s h = absurd cc
held-at (r ∷ held) s h = elim (or_cases (same_row r s) (list_any (λ q. same_row q s) held) h) [
  | inl e ↦ (0, omega arith, same_row-is r s e)
  | inr e ↦ (let g = held-at held s e in (suc g.0, (let l = g.1 in omega arith), g.2))
]

-- GROWN TABLEAUX

pub grown-refl : (t : Tableau) → Grown t t
grown-refl t = record { ints = refl; order = refl; left = refl; more = []; held = sym (nil t.held); none = refl }
  where
    nil : (l : List Row) → l ++ [] ≡ l
    nil [] = refl
    nil (x ∷ l) = ap (λ (m : List Row). x ∷ m) (nil l)

pub grown-trans : (t u v : Tableau) → Grown t u → Grown u v → Grown t v
grown-trans t u v g h = record {
  ints = h.ints ∙ g.ints;
  order = h.order ∙ g.order;
  left = h.left ∙ g.left;
  more = g.more ++ h.more;
  held = h.held ∙ (ap (λ (l : List Row). l ++ h.more) g.held ∙ append_assoc t.held g.more h.more);
  none = list_all-append (names_none t.order) g.more h.more ∙ and_from (list_all (names_none t.order) g.more) (list_all (names_none t.order) h.more) g.none (subst (λ (o : List ℕ). list_all (names_none o) h.more ≡ true) g.order h.none);
}

pub row_at-grown : (t u : Tableau) (i : ℕ) → Grown t u → i < length t.held → row_at u.held i ≡ row_at t.held i
row_at-grown t u i g h = ap (λ (l : List Row). row_at l i) g.held ∙ row_at-append t.held g.more i h

pub below-grown : (t u : Tableau) (i : ℕ) → Grown t u → i < length t.held → i < length u.held
below-grown t u i g h = subst (λ (l : List Row). i < length l) (sym g.held) (below-append t.held g.more i h)

pub meet-grown : (t u : Tableau) (place i j : ℕ) → Grown t u → CanMeet t place i j → CanMeet u place i j
meet-grown t u place i j g m = record {
  before = m.before;
  order = g.order ∙ m.order;
  high_below = below-grown t u i g m.high_below;
  low_below = below-grown t u j g m.low_below;
  high_none = ap (names_none m.before) (row_at-grown t u i g m.high_below) ∙ m.high_none;
  low_none = ap (names_none m.before) (row_at-grown t u j g m.low_below) ∙ m.low_none;
  high_sign = subst (λ (r : Row). pos 0 <ℤ coefficient_at r.terms place) (sym (row_at-grown t u i g m.high_below)) m.high_sign;
  low_sign = subst (λ (r : Row). coefficient_at r.terms place <ℤ pos 0) (sym (row_at-grown t u j g m.low_below)) m.low_sign;
}

pub combined-grown : (t u : Tableau) (place i j : ℕ) → Grown t u → i < length t.held → j < length t.held → IsCombinedAt place t.held (row_at t.held i) (row_at t.held j)
    → IsCombinedAt place u.held (row_at u.held i) (row_at u.held j)
combined-grown t u place i j g h k c =
    subst (λ (r : Row). IsCombinedAt place u.held r (row_at u.held j)) (sym (row_at-grown t u i g h))
    (subst (λ (r : Row). IsCombinedAt place u.held (row_at t.held i) r) (sym (row_at-grown t u j g k))
    (subst (λ (l : List Row). IsCombinedAt place l (row_at t.held i) (row_at t.held j)) (sym g.held) (combined-append place t.held g.more (row_at t.held i) (row_at t.held j) c)))
