use Rattle.std.proofs.Common.{◌≡◌, ℕ, ℤ, zero, suc, ◌<◌, Bool, true, false, cond, ◌&&◌, ◌||◌, ◌==◌, List, [], ◌∷◌, ◌++◌, length, take, get_or, refl, sym, ◌∙◌, ap, arith, Option, Some, None, Ok, Err, Result}
use Rattle.std.specs.Prelude.{pos, OnOk, IsOk}
use Rattle.std.specs.List.{list_any}
use Rattle.std.specs.Ordering.{int_eq}
use Rattle.std.specs.HashSet.{HashSet, Updates}
use Rattle.std.proofs.lemmas.List.Folds.{list_any-append}
use Rattle.lin_rows.specs.declared.term.RowTerm.{RowTerm}
use Rattle.proof_lines.specs.declared.problem.AtomKind.{AtomKind}
use Rattle.proof_lines.specs.declared.problem.AtomKind.TheVariants.{Plain, Row as OfRow}
use Rattle.line_rows.specs.Splits.{is_at_most}
use Rattle.proof_kernel.specs.Atoms.{same_pair, has_pair, pair_of, pair_at, is_pair}

-- the pair of an atom says which row `place <= at` it has
pub pair-is : (a : AtomKind) (p : ℕ) (k : ℤ) → is_pair (pair_of a) p k ≡ is_at_most p k a
pair-is Plain p k = refl
pair-is (OfRow r) p k = by_terms r.terms
  where
    by_case : (e x y : Bool) (t : RowTerm) → e ≡ int_eq t.coef (pos 1) → is_pair (cond e (Some (t.place, r.bound)) None) p k ≡ (((t.place == p) && e) && int_eq r.bound k)
    by_case true x y t h = or_true (t.place == p) (int_eq r.bound k)
      where
        or_true : (a b : Bool) → (a && b) ≡ ((a && true) && b)
        or_true a b = grind arith
    by_case false x y t h = or_false (t.place == p) (int_eq r.bound k)
      where
        or_false : (a b : Bool) → false ≡ ((a && false) && b)
        or_false a b = grind arith

    by_terms : (ts : List RowTerm) → is_pair (pair_at r.bound ts) p k ≡ is_at_most p k (OfRow (record { terms = ts; bound = r.bound }))
    by_terms [] = refl
    by_terms (t ∷ []) = by_case (int_eq t.coef (pos 1)) true true t refl
    by_terms (t ∷ u ∷ ts) = refl

pub any-next : (q : AtomKind → Bool) (xs : List AtomKind) (i : ℕ) (d : AtomKind) → i < length xs → list_any q (take (suc i) xs) ≡ (list_any q (take i xs) || q (get_or xs i d))
any-next q [] i d lt = absurd (omega arith)
any-next q (x ∷ xs) zero d lt = or_none (q x)
  where
    or_none : (a : Bool) → (a || false) ≡ a
    or_none a = grind arith
any-next q (x ∷ xs) (suc i) d lt = ap (λ b. q x || b) (any-next q xs i d (omega arith)) ∙ or_assoc (q x) (list_any q (take i xs)) (q (get_or xs i d))
  where
    or_assoc : (a b c : Bool) → (a || (b || c)) ≡ ((a || b) || c)
    or_assoc a b c = grind arith

-- a set with one pair more
ok-so : {A E P : Type 0} (r : Result A E) → IsOk r → OnOk r P → P
ok-so (Ok a) k h = h
ok-so (Err e) k h = absurd cc

pub noted : {S A E : Type 0} (old new : HashSet (ℕ × ℤ) S) (x : ℕ × ℤ) (r : Result A E) (o : Option (ℕ × ℤ)) → IsOk r → OnOk r (Updates same_pair old new x true) → o ≡ Some x
    → (p : ℕ) (k : ℤ) → has_pair new p k ≡ (has_pair old p k || is_pair o p k)
noted old new x r o k h is p q =
    (ok-so r k h).0 (p, q) ∙ swap (same_pair x (p, q)) (has_pair old p q) ∙ ap (λ (z : Option (ℕ × ℤ)). has_pair old p q || is_pair z p q) (sym is)
  where
    swap : (a b : Bool) → cond a true b ≡ (b || a)
    swap true true = refl
    swap true false = refl
    swap false true = refl
    swap false false = refl

pub pairs-next : {S : Type 0} (old mid new : HashSet (ℕ × ℤ) S) (atoms : List AtomKind) (i j : ℕ) (d : AtomKind) (o : Option (ℕ × ℤ)) → j ≡ suc i → i < length atoms → o ≡ pair_of (get_or atoms i d)
    → ((p : ℕ) (k : ℤ) → has_pair old p k ≡ list_any (is_at_most p k) (take i atoms))
    → ((p : ℕ) (k : ℤ) → has_pair mid p k ≡ has_pair old p k)
    → ((p : ℕ) (k : ℤ) → has_pair new p k ≡ (has_pair mid p k || is_pair o p k))
    → (p : ℕ) (k : ℤ) → has_pair new p k ≡ list_any (is_at_most p k) (take j atoms)
pairs-next old mid new atoms i j d o e lt is h room n p k =
    n p k ∙ ap (λ b. b || is_pair o p k) (room p k ∙ h p k)
    ∙ ap (λ b. list_any (is_at_most p k) (take i atoms) || b) (ap (λ (z : Option (ℕ × ℤ)). is_pair z p k) is ∙ pair-is (get_or atoms i d) p k)
    ∙ sym (any-next (is_at_most p k) atoms i d lt) ∙ ap (λ (z : ℕ). list_any (is_at_most p k) (take z atoms)) (sym e)

pub pairs-push : {S : Type 0} (old mid new : HashSet (ℕ × ℤ) S) (atoms after : List AtomKind) (a : AtomKind) (o : Option (ℕ × ℤ)) → o ≡ pair_of a → after ≡ atoms ++ a ∷ []
    → ((p : ℕ) (k : ℤ) → has_pair old p k ≡ list_any (is_at_most p k) atoms)
    → ((p : ℕ) (k : ℤ) → has_pair mid p k ≡ has_pair old p k)
    → ((p : ℕ) (k : ℤ) → has_pair new p k ≡ (has_pair mid p k || is_pair o p k))
    → (p : ℕ) (k : ℤ) → has_pair new p k ≡ list_any (is_at_most p k) after
pairs-push old mid new atoms after a o is end h room n p k =
    n p k ∙ ap (λ b. b || is_pair o p k) (room p k ∙ h p k)
    ∙ ap (λ b. list_any (is_at_most p k) atoms || b) (ap (λ (z : Option (ℕ × ℤ)). is_pair z p k) is ∙ pair-is a p k ∙ or_none (is_at_most p k a))
    ∙ sym (list_any-append (is_at_most p k) atoms (a ∷ [])) ∙ ap (λ (z : List AtomKind). list_any (is_at_most p k) z) (sym end)
  where
    or_none : (b : Bool) → b ≡ (b || false)
    or_none b = grind arith
