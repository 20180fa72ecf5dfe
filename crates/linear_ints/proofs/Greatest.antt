-- The greatest bound that the rows of a side of a place give.
use Rattle.std.proofs.Common.{◌≡◌, ℕ, ◌<◌, ◌+◌, ◌^◌, length, ℤ, pos, neg_ℤ, ◌<ℤ◌, ◌≤ℤ◌, Bool, true, false, cond, ◌||◌, List, [], take, get_or, refl, sym, ◌∙◌, ap, subst, arith, inl, inr, ◌⊎◌}
use Rattle.std.specs.Prelude.{◌==◌, int_lt, Result, MatchResult}
use Rattle.std.proofs.lemmas.Result.{MatchResult-weaker}
use Rattle.linear_ints.specs.declared.bounds.Bound.{Bound}
use Rattle.linear_ints.specs.declared.bounds.FaultAt.{FaultAt}
use Rattle.linear_ints.specs.Descending.{IsFaultAt}
use Rattle.elimination.specs.Pairs.{place_at}
use Rattle.std.proofs.lemmas.Int.{ints}
use Rattle.std.proofs.lemmas.Bool.{eqb-true}
use Rattle.std.proofs.lemmas.List.Folds.{list_any_more}
use Rattle.std.proofs.Math.Seq.{take-length}
use Rattle.lin_rows.specs.Rows.{Row}
use Rattle.proof_lines.specs.Numbers.{stands_in}
use Rattle.line_rows.specs.Steps.{row_at}
use Rattle.elimination.specs.Sides.{is_on, is_on_at}
use Rattle.linear_ints.specs.Bounds.{IsBoundAt, Attains, IsGreatest, IsGreatestOf}
use Rattle.elimination.proofs.SideNumbers.{AreAllNamed, on-among, on-parts, on-from}

pub greatest-none : (upper : Bool) (before : List ℕ) (place : ℕ) (held : List Row) (values : List ℤ) (row : ℕ) → IsGreatestOf upper before place held values [] row (neg_ℤ (pos (10 ^ 15)))
greatest-none upper before place held values row = record { attained = inl refl; greatest = λ i h s o. absurd cc }

-- a number more is one of the earlier ones or the new one
one-more : (named : List ℕ) (n i : ℕ) → n < length named → stands_in (take (n + 1) named) i ≡ true → (stands_in (take n named) i ≡ true) ⊎ (get_or named n 0 ≡ i)
one-more named n i l s = by_case (stands_in (take n named) i) (get_or named n 0 == i) refl refl (sym (list_any_more (λ m. m == i) named n 0 l) ∙ s)
  where
    by_case : (a b : Bool) → stands_in (take n named) i ≡ a → (get_or named n 0 == i) ≡ b → (a || b) ≡ true → (stands_in (take n named) i ≡ true) ⊎ (get_or named n 0 ≡ i)
    by_case true b e k h = inl e
    by_case false true e k h = inr (eqb-true (get_or named n 0) i k)
    by_case false false e k h = absurd cc

pub greatest-skip : (upper : Bool) (before : List ℕ) (place : ℕ) (held : List Row) (values : List ℤ) (named : List ℕ) (n number row : ℕ) (bound : ℤ) → IsGreatestOf upper before place held values (take n named) row bound
    → n < length named → number ≡ get_or named n 0 → is_on_at upper before place held number ≡ false → IsGreatestOf upper before place held values (take (n + 1) named) row bound
greatest-skip upper before place held values named n number row bound g l k o = record {
  attained = g.attained;
  greatest = λ i h s p. elim (one-more named n i l s) [
    | inl t ↦ g.greatest i h t p
    | inr e ↦ absurd (let q = ap (λ m. is_on_at upper before place held m) (k ∙ e) in let r = on-from upper before place held i h p in cc)
  ];
}

pub greatest-more : (upper : Bool) (before : List ℕ) (place : ℕ) (held : List Row) (values : List ℤ) (named : List ℕ) (n number row row_new : ℕ) (bound b bound_new : ℤ) → IsGreatestOf upper before place held values (take n named) row bound
    → n < length named → number ≡ get_or named n 0 → is_on_at upper before place held number ≡ true → IsBoundAt values place (row_at held number) b → bound_new ≡ cond (int_lt bound b) b bound → row_new ≡ cond (int_lt bound b) number row
    → IsGreatestOf upper before place held values (take (n + 1) named) row_new bound_new
greatest-more upper before place held values named n number row row_new bound b bound_new g l k o a e f = by_test (int_lt bound b) refl e f
  where
    on : (number < length held) × (is_on upper before place (row_at held number) ≡ true)
    on = on-parts upper before place held number o

    at : (i : ℕ) → get_or named n 0 ≡ i → IsBoundAt values place (row_at held i) b
    at i s = subst (λ (x : ℕ). IsBoundAt values place (row_at held x) b) (k ∙ s) a

    by_test : (t : Bool) → int_lt bound b ≡ t → bound_new ≡ cond t b bound → row_new ≡ cond t number row → IsGreatestOf upper before place held values (take (n + 1) named) row_new bound_new
    by_test true h e f = record {
      attained = inr
          (subst (λ (x : ℕ). Attains upper before place held values x bound_new) (sym f)
          (subst (λ (v : ℤ). Attains upper before place held values number v) (sym e) (record { below = on.0; on = on.1; bound_at = a })));
      greatest = λ i m s p. elim (one-more named n i l s) [
        | inl t ↦ (let q = g.greatest i m t p in (q.0, q.1, (let s = q.2 in let z : bound <ℤ b = omega (arith, ints, h) in omega (arith, ints))))
        | inr t ↦ (b, at i t, (omega (arith, ints)))
      ];
    }
    by_test false h e f = record {
      attained = elim g.attained [
        | inl z ↦ inl (e ∙ z)
        | inr z ↦ inr (subst (λ (x : ℕ). Attains upper before place held values x bound_new) (sym f) (subst (λ (v : ℤ). Attains upper before place held values row v) (sym e) z))
      ];
      greatest = λ i m s p. elim (one-more named n i l s) [
        | inl t ↦ (let q = g.greatest i m t p in (q.0, q.1, (let s = q.2 in omega (arith, ints))))
        | inr t ↦ (b, at i t, (let z : b ≤ℤ bound = omega (arith, ints, h) in omega (arith, ints)))
      ];
    }

-- all numbers are looked at
pub greatest-to : (upper : Bool) (before : List ℕ) (place : ℕ) (held : List Row) (values : List ℤ) (named : List ℕ) (n row : ℕ) (bound : ℤ) → IsGreatestOf upper before place held values (take n named) row bound → n ≡ length named
    → IsGreatestOf upper before place held values named row bound
greatest-to upper before place held values named n row bound g l = subst (λ (xs : List ℕ). IsGreatestOf upper before place held values xs row bound) (ap (λ m. take m named) l ∙ take-length named) g

-- and among them are all rows of the place
pub greatest-all : (upper : Bool) (before : List ℕ) (place : ℕ) (held : List Row) (values : List ℤ) (named : List ℕ) (row : ℕ) (bound : ℤ) → AreAllNamed held place named → IsGreatestOf upper before place held values named row bound
    → IsGreatest upper before place held values (length held) row bound
greatest-all upper before place held values named row bound f g = record { attained = g.attained; greatest = λ i h o. g.greatest i h (on-among upper before place held named f i h o) o }

-- the same of the place of a stage, and of the first row that gives no bound
pub bound-all : (r : Result Bound FaultAt) (upper : Bool) (before order : List ℕ) (stage place : ℕ) (held found : List Row) (values : List ℤ) (named : List ℕ) → found ≡ held → place ≡ place_at order stage → before ≡ take stage order → AreAllNamed held place named
    → MatchResult r (λ b. IsGreatestOf upper before place found values named b.row b.value) (λ f. IsFaultAt before place found values f)
    → MatchResult r (λ b. IsGreatest upper (take stage order) (place_at order stage) held values (length held) b.row b.value) (λ f. IsFaultAt (take stage order) (place_at order stage) held values f)
bound-all r upper before order stage place held found values named e p o a m =
    subst (λ (l : List ℕ). MatchResult r (λ (b : Bound). IsGreatest upper l (place_at order stage) held values (length held) b.row b.value) (λ (f : FaultAt). IsFaultAt l (place_at order stage) held values f)) o
    (subst (λ (q : ℕ). MatchResult r (λ (b : Bound). IsGreatest upper before q held values (length held) b.row b.value) (λ (f : FaultAt). IsFaultAt before q held values f)) p
    (MatchResult-weaker r (subst (λ (l : List Row). MatchResult r (λ (b : Bound). IsGreatestOf upper before place l values named b.row b.value) (λ (f : FaultAt). IsFaultAt before place l values f)) e m)
    (λ x g. greatest-all upper before place held values named x.row x.value a g) (λ y f. f)))
