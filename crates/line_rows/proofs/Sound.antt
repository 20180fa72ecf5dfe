-- Soundness: the rows of true literals are true, and so the clause of a Farkas line is.
use Rattle.std.proofs.Common.{◌≡◌, ℕ, zero, suc, ◌-◌, inl, inr, Bool, true, false, not, cond, ◌&&◌, ◌||◌, List, [], ◌∷◌, ◌++◌, length, map, refl, sym, ◌∙◌, ap, subst, arith, Option, Some, None, Result, Ok, Err}
use Rattle.std.specs.Prelude.{slice_get, nat_lt, ℤ, pos, ◌≤ℤ◌}
use Rattle.std.specs.List.{list_any, list_all}
use Rattle.std.specs.Option.{option_map, option_and_then}
use Rattle.std.proofs.lemmas.Int.{ints}
use Rattle.std.proofs.lemmas.List.Folds.{list_all-append}
use Rattle.lin_rows.specs.Rows.{Row, is_row, Satisfies, negated}
use Rattle.lin_rows.specs.Divisors.{tightened}
use Rattle.lin_rows.specs.Sums.{row_sum}
use Rattle.lin_rows.proofs.Points.{satisfies-negated, satisfies-contradiction, option_and_then-went, some_is}
use Rattle.lin_rows.proofs.Kept.{is_row-negated}
use Rattle.lin_rows.proofs.Rounding.{is_row-tightened, satisfies-tightened}
use Rattle.lin_rows.proofs.Sums.{satisfies-sum, is_row-sum}
use Rattle.proof_lines.specs.declared.clause.Lit.{Lit}
use Rattle.proof_lines.specs.declared.problem.AtomKind.{AtomKind}
use Rattle.proof_lines.specs.declared.problem.AtomKind.TheVariants.{Plain, Row as OfRow}
use Rattle.proof_lines.specs.declared.line.RowStep.{RowStep}
use Rattle.proof_lines.specs.declared.line.Why.{Why}
use Rattle.proof_lines.specs.declared.line.Why.TheVariants.{Place, Range, Multiplier}
use Rattle.proof_lines.specs.Clauses.{is_empty, has, flip, same_bool, same_lit, lit_true, clause_true, all_true, negations}
use Rattle.proof_lines.specs.Problems.{Meaning, atom_true, row_true, has_good_row, kind_true}
use Rattle.line_rows.specs.Refusals.{then_, or_broken}
use Rattle.line_rows.specs.Steps.{atom_row, row_of_kind, has_row, lit_row, lit_rows, with_row, row_at, no_row, is_negative, step_row, with_steps, line_rows, last_row, ends_badly, is_some_literal}
use Rattle.std.proofs.lemmas.Bool.{and_parts, or_right, or_left, and_from}
use Rattle.proof_lines.proofs.Sets.{true_by, has-join, same_lit-refl, has-cases}

-- clauses that are all true hold no empty one
pub none_empty : (v : ℕ → Bool) (cs : List (List Lit)) → all_true v cs ≡ true → list_any is_empty cs ≡ false
none_empty v [] h = refl
none_empty v ([] ∷ cs) h = absurd cc
none_empty v ((l ∷ c) ∷ cs) h = none_empty v cs (and_parts (clause_true v (l ∷ c)) (all_true v cs) h).1

-- ROWS. A row that is one and is true at a point.
good : (ℕ → ℤ) → Row → Bool
good x r = is_row r && row_true x r

meets : (x : ℕ → ℤ) (r : Row) → row_true x r ≡ true → Satisfies x r
meets x r h = omega (arith, ints, h)

met : (x : ℕ → ℤ) (r : Row) → Satisfies x r → row_true x r ≡ true
met x r h = by_case (row_true x r) refl
  where
    by_case : (b : Bool) → row_true x r ≡ b → b ≡ true
    by_case true e = refl
    by_case false e = absurd (omega (arith, ints, e, h))

misses : (x : ℕ → ℤ) (r : Row) → row_true x r ≡ false → Satisfies x r → ⊥
misses x r h s = omega (arith, ints, h, s)

make_good : (x : ℕ → ℤ) (r : Row) → is_row r ≡ true → Satisfies x r → good x r ≡ true
unfolding good
make_good x r a b = and_from (is_row r) (row_true x r) a (met x r b)

good_is : (x : ℕ → ℤ) (r : Row) → good x r ≡ true → (is_row r ≡ true) × Satisfies x r
unfolding good
good_is x r h = let p = and_parts (is_row r) (row_true x r) h in (p.0, meets x r p.1)

good-tightened : (x : ℕ → ℤ) (r : Row) → good x r ≡ true → good x (tightened r) ≡ true
good-tightened x r h = let p = good_is x r h in make_good x (tightened r) (is_row-tightened r p.0) (satisfies-tightened x r p.0 p.1)

good-no_row : (x : ℕ → ℤ) → good x no_row ≡ true
unfolding good
good-no_row x = refl

good-at : (x : ℕ → ℤ) (rows : List Row) (i : ℕ) → list_all (good x) rows ≡ true → good x (row_at rows i) ≡ true
good-at x [] i h = good-no_row x
good-at x (r ∷ rows) zero h = (and_parts (good x r) (list_all (good x) rows) h).0
good-at x (r ∷ rows) (suc i) h = good-at x rows i (and_parts (good x r) (list_all (good x) rows) h).1

-- an atom with a row
row-true : (m : Meaning) (atoms : List AtomKind) (a : ℕ) (r : Row) → atom_row atoms a ≡ Some r → atom_true m atoms a ≡ row_true m.number r
row-true m atoms a r h = by_kind (slice_get atoms a) h
  where
    by_kind : (o : Option AtomKind) → row_of_kind o ≡ Some r → kind_true m a o ≡ row_true m.number r
    by_kind (Some (OfRow q)) h = ap (row_true m.number) (some_is h)
    by_kind (Some Plain) h = absurd cc
    by_kind None h = absurd cc

pub row-good : (atoms : List AtomKind) (a : ℕ) (r : Row) → atom_row atoms a ≡ Some r → list_all has_good_row atoms ≡ true → is_row r ≡ true
row-good [] a r h g = absurd cc
row-good (Plain ∷ atoms) zero r h g = absurd cc
row-good (OfRow q ∷ atoms) zero r h g = subst (λ (z : Row). is_row z ≡ true) (some_is h) (and_parts (is_row q) (list_all has_good_row atoms) g).0
row-good (k ∷ atoms) (suc a) r h g = row-good atoms a r h (and_parts (has_good_row k) (list_all has_good_row atoms) g).1

-- the row of a true literal is true
lit-good : (m : Meaning) (atoms : List AtomKind) (l : Lit) (r : Row) → list_all has_good_row atoms ≡ true → lit_row atoms l ≡ Some r → lit_true (atom_true m atoms) l ≡ true → good m.number r ≡ true
lit-good m atoms l r g h t = by_sign l.positive h t
  where
    by_sign : (p : Bool) → cond p (atom_row atoms l.atom) (option_and_then negated (atom_row atoms l.atom)) ≡ Some r → same_bool (atom_true m atoms l.atom) p ≡ true → good m.number r ≡ true
    by_sign true h t =
        let e = row-true m atoms l.atom r h in
        make_good m.number r (row-good atoms l.atom r h g) (meets m.number r (sym e ∙ same_true (atom_true m atoms l.atom) t))
      where
        same_true : (b : Bool) → same_bool b true ≡ true → b ≡ true
        same_true true q = refl
        same_true false q = absurd cc
    by_sign false h t =
        let w = option_and_then-went negated (atom_row atoms l.atom) r h in
        let e = row-true m atoms l.atom w.0 w.1 in
        let o = row-good atoms l.atom w.0 w.1 g in
        make_good m.number r (is_row-negated w.0 r o w.2) ((satisfies-negated m.number w.0 r w.2).1 (misses m.number w.0 (sym e ∙ same_false (atom_true m atoms l.atom) t)))
      where
        same_false : (b : Bool) → same_bool b false ≡ true → b ≡ false
        same_false true q = absurd cc
        same_false false q = refl

lits-good : (m : Meaning) (atoms : List AtomKind) (used : List Lit) (rows : List Row) → list_all has_good_row atoms ≡ true → lit_rows atoms used ≡ Some rows
    → list_all (lit_true (atom_true m atoms)) used ≡ true → list_all (good m.number) rows ≡ true
lits-good m atoms [] rows g h t = subst (λ (z : List Row). list_all (good m.number) z ≡ true) (some_is h) refl
lits-good m atoms (l ∷ used) rows g h t =
    by_case (λ rs f u. lits-good m atoms used rs g f u) (lit_row atoms l) (lit_rows atoms used) refl refl h (and_parts (lit_true (atom_true m atoms) l) (list_all (lit_true (atom_true m atoms)) used) t)
  where
    by_case : ((rs : List Row) → lit_rows atoms used ≡ Some rs → list_all (lit_true (atom_true m atoms)) used ≡ true → list_all (good m.number) rs ≡ true) → (o : Option Row) (q : Option (List Row)) → lit_row atoms l ≡ o → lit_rows atoms used ≡ q → with_row (option_map tightened o) q ≡ Some rows
        → (lit_true (atom_true m atoms) l ≡ true) × (list_all (lit_true (atom_true m atoms)) used ≡ true) → list_all (good m.number) rows ≡ true
    by_case rest (Some r) (Some rs) e f h t =
        subst (λ (z : List Row). list_all (good m.number) z ≡ true) (some_is h)
        (and_from (good m.number (tightened r)) (list_all (good m.number) rs) (good-tightened m.number r (lit-good m atoms l r g e t.0)) (rest rs f t.1))
    by_case rest (Some r) None e f h t = absurd cc
    by_case rest None q e f h t = absurd cc

pub ok_is : {A : Type 0} (a b : A) (o : Result A Why) → o ≡ Ok a → o ≡ Ok b → a ≡ b
ok_is a b o p q = cc

step-good : (x : ℕ → ℤ) (rows : List Row) (s : RowStep) (r : Row) → list_all (good x) rows ≡ true → step_row rows s ≡ Ok r → good x r ≡ true
step-good x rows s r g h = by_case (nat_lt s.left (length rows) && nat_lt s.right (length rows)) (is_negative s.first) (is_negative s.second) (row_sum (row_at rows s.left) s.first (row_at rows s.right) s.second) refl refl refl h
  where
    not_negative : (a : ℤ) → is_negative a ≡ false → pos 0 ≤ℤ a
    not_negative a h = omega (arith, ints, h)

    by_case : (p a b : Bool) (o : Option Row) → is_negative s.first ≡ a → is_negative s.second ≡ b → row_sum (row_at rows s.left) s.first (row_at rows s.right) s.second ≡ o
        → cond p (cond (not (a || b)) (or_broken Range o) (Err Multiplier)) (Err Place) ≡ Ok r → good x r ≡ true
    by_case true false false (Some q) e f k h =
        let l = good_is x (row_at rows s.left) (good-at x rows s.left g) in
        let t = good_is x (row_at rows s.right) (good-at x rows s.right g) in
        let made = make_good x q (is_row-sum (row_at rows s.left) s.first (row_at rows s.right) s.second q l.0 t.0 k)
        (satisfies-sum x (row_at rows s.left) s.first (row_at rows s.right) s.second q l.0 t.0 (not_negative s.first e) (not_negative s.second f) k l.1 t.1) in
        subst (λ (z : Row). good x z ≡ true) (ok_is q r (Ok q) refl h) made
    by_case true false false None e f k h = absurd cc
    by_case true true b o e f k h = absurd cc
    by_case true false true o e f k h = absurd cc
    by_case false a b o e f k h = absurd cc

steps-good : (x : ℕ → ℤ) (rows : List Row) (steps : List RowStep) (all : List Row) → list_all (good x) rows ≡ true → with_steps rows steps ≡ Ok all → list_all (good x) all ≡ true
steps-good x rows [] all g h = subst (λ (z : List Row). list_all (good x) z ≡ true) (ok_is rows all (Ok rows) refl h) g
steps-good x rows (s ∷ steps) all g h = by_case (λ r a k. steps-good x (rows ++ r ∷ []) steps all a k) (step_row rows s) refl h
  where
    by_case : ((r : Row) → list_all (good x) (rows ++ r ∷ []) ≡ true → with_steps (rows ++ r ∷ []) steps ≡ Ok all → list_all (good x) all ≡ true) → (o : Result Row Why) → step_row rows s ≡ o → then_ o (λ r. with_steps (rows ++ r ∷ []) steps) ≡ Ok all → list_all (good x) all ≡ true
    by_case rest (Ok r) e h =
        rest r
        (rw list_all-append (and_from (list_all (good x) rows) (good x r && true) g (and_from (good x r) true (step-good x rows s r g e) refl))) h
    by_case rest (Err w) e h = absurd cc

-- used literals whose rows are refuted aren't all true
pub refuted-apart : (m : Meaning) (atoms : List AtomKind) (used : List Lit) (steps : List RowStep) (rows : List Row) → list_all has_good_row atoms ≡ true
    → line_rows atoms used steps ≡ Ok rows → ends_badly rows ≡ true → list_all (lit_true (atom_true m atoms)) used ≡ true → ⊥
refuted-apart m atoms used steps rows g h b t = by_case (is_some_literal used && list_all (has_row atoms) used) (lit_rows atoms used) refl h
  where
    by_case : (p : Bool) (o : Option (List Row)) → lit_rows atoms used ≡ o → then_ (cond p (or_broken Range o) (Err Place)) (λ rows. with_steps rows steps) ≡ Ok rows → ⊥
    by_case true (Some first) e h =
        let all = steps-good m.number first steps rows (lits-good m atoms used first g e t) h in
        let last = good_is m.number (last_row rows) (good-at m.number rows (length rows - 1) all) in
        satisfies-contradiction m.number (last_row rows) b last.1
    by_case true None e h = absurd cc
    by_case false o e h = absurd cc

-- so the clause of their opposites is true
negated-true : (v : ℕ → Bool) (l : Lit) → lit_true v (flip l) ≡ false → lit_true v l ≡ true
negated-true v l h = by_sign (v l.atom) l.positive h
  where
    by_sign : (b p : Bool) → same_bool b (not p) ≡ false → same_bool b p ≡ true
    by_sign true true h = refl
    by_sign true false h = absurd cc
    by_sign false true h = absurd cc
    by_sign false false h = refl

negations-hold : (ls : List Lit) (l : Lit) → has ls l ≡ true → has (negations ls) (flip l) ≡ true
negations-hold ls l h = has-join [] (map flip ls) (flip l) ∙ flipped ls h
  where
    flipped : (ls : List Lit) → has ls l ≡ true → has (map flip ls) (flip l) ≡ true
    flipped [] h = absurd cc
    flipped (k ∷ ls) h = elim (has-cases k ls l h) [
      | inl e ↦ or_left (same_lit (flip k) (flip l)) (has (map flip ls) (flip l)) (subst (λ (z : Lit). same_lit (flip z) (flip l) ≡ true) (sym e) (same_lit-refl (flip l)))
      | inr e ↦ or_right (same_lit (flip k) (flip l)) (has (map flip ls) (flip l)) (flipped ls e)
    ]

all_by : (p : Lit → Bool) (ls : List Lit) → ((l : Lit) → has ls l ≡ true → p l ≡ true) → list_all p ls ≡ true
all_by p [] f = refl
all_by p (l ∷ ls) f =
    and_from (p l) (list_all p ls) (f l (or_left (same_lit l l) (has ls l) (same_lit-refl l)))
    (all_by p ls (λ k h. f k (or_right (same_lit l k) (has ls k) h)))

pub farkas-true : (m : Meaning) (atoms : List AtomKind) (used : List Lit) (steps : List RowStep) (rows : List Row) → list_all has_good_row atoms ≡ true
    → line_rows atoms used steps ≡ Ok rows → ends_badly rows ≡ true → clause_true (atom_true m atoms) (negations used) ≡ true
farkas-true m atoms used steps rows g h b = by_case (clause_true v (negations used)) refl
  where
    v : ℕ → Bool
    v = atom_true m atoms

    none : clause_true v (negations used) ≡ false → (l : Lit) → has used l ≡ true → lit_true v (flip l) ≡ false
    none e l k = by_truth (lit_true v (flip l)) refl
      where
        by_truth : (t : Bool) → lit_true v (flip l) ≡ t → t ≡ false
        by_truth false q = refl
        by_truth true q = absurd (let c = true_by v (negations used) (flip l) (negations-hold used l k) q in clash (clause_true v (negations used)) c e)
          where
            clash : (b : Bool) → b ≡ true → b ≡ false → ⊥
            clash true p q = absurd cc
            clash false p q = absurd cc

    by_case : (t : Bool) → clause_true v (negations used) ≡ t → t ≡ true
    by_case true e = refl
    by_case false e = absurd (refuted-apart m atoms used steps rows g h b (all_by (lit_true v) used (λ l k. negated-true v l (none e l k))))
