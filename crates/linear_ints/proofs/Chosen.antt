use Rattle.std.proofs.Common.{◌≡◌, ℕ, zero, suc, ◌<◌, length, ℤ, pos, true, false, cond, List, [], ◌∷◌, refl, sym, ◌∙◌, ap, arith}
use Rattle.std.specs.Prelude.{nat_eq, int_le, int_lt, ◌&&◌, slice_set}
use Rattle.std.specs.List.{list_any}
use Rattle.std.proofs.lemmas.Int.{ints}
use Rattle.std.proofs.lemmas.Bool.Decides.{nat_tests}
use Rattle.lin_rows.specs.declared.term.RowTerm.{RowTerm}
use Rattle.lin_rows.specs.Rows.{Row, value_at, is_contradiction, has_no_terms, point_of}
use Rattle.proof_lines.specs.Problems.{row_true}
use Rattle.line_rows.specs.Splits.{other_names}
use Rattle.theory_api.specs.Chosen.{Choice, is_named, chosen_point, are_driven, AreChosen}
use Rattle.linear_ints.specs.Points.{with_value, values_of, is_filled_but}
use Rattle.theory_api.specs.Ends.{after}
use Rattle.linear_ints.proofs.Points.{all-one, all-two, are_among-chosen}
use Rattle.theory_api.proofs.Ends.{are_among-turned}

-- the chosen values of the other names of one row, and of two
pub chosen-one : (held : List Row) (choices : List Choice) (place : ℕ) (r : Row) → list_any is_contradiction held ≡ false → are_driven held [] choices ≡ true → is_filled_but (after [] choices) place r ≡ true
    → AreChosen held (other_names place (r ∷ [])) (values_of (chosen_point (after [] choices)) place (r ∷ []))
chosen-one held choices place r c d f = record {
  consistent = c;
  choices = choices;
  driven = d;
  among = are_among-turned choices (other_names place (r ∷ [])) (values_of (chosen_point (after [] choices)) place (r ∷ [])) (are_among-chosen (after [] choices) (other_names place (r ∷ [])) (all-one (is_named (after [] choices)) place r f));
}

pub chosen-two : (held : List Row) (choices : List Choice) (place : ℕ) (low high : Row) → list_any is_contradiction held ≡ false → are_driven held [] choices ≡ true
    → is_filled_but (after [] choices) place low ≡ true → is_filled_but (after [] choices) place high ≡ true
    → AreChosen held (other_names place (low ∷ high ∷ [])) (values_of (chosen_point (after [] choices)) place (low ∷ high ∷ []))
chosen-two held choices place low high c d f g = record {
  consistent = c;
  choices = choices;
  driven = d;
  among = are_among-turned choices (other_names place (low ∷ high ∷ [])) (values_of (chosen_point (after [] choices)) place (low ∷ high ∷ [])) (are_among-chosen (after [] choices) (other_names place (low ∷ high ∷ [])) (all-two (is_named (after [] choices)) place low high f g));
}

-- a constant that is no contradiction is true at every point
pub constant-true : (x : ℕ → ℤ) (r : Row) → has_no_terms r.terms ≡ true → is_contradiction r ≡ false → row_true x r ≡ true
constant-true x r h c = by_terms r.terms r.bound h c
  where
    not_below : (b : ℤ) → int_lt b (pos 0) ≡ false → int_le (pos 0) b ≡ true
    not_below b h = grind (arith, ints)

    by_terms : (ts : List RowTerm) (b : ℤ) → has_no_terms ts ≡ true → (has_no_terms ts && int_lt b (pos 0)) ≡ false → int_le (value_at x ts) b ≡ true
    by_terms [] b h c = not_below b c
    by_terms (t ∷ ts) b h c = absurd cc

zero_suc : (q : ℕ) → nat_eq 0 (suc q) ≡ false
zero_suc q = grind (arith, nat_tests)

suc_zero : (q : ℕ) → nat_eq (suc q) 0 ≡ false
suc_zero q = grind (arith, nat_tests)

suc_suc : (p q : ℕ) → nat_eq p q ≡ nat_eq (suc p) (suc q)
suc_suc p q = grind (arith, nat_tests)

-- a value written into the list of values by place
pub point_of-set : (values : List ℤ) (place : ℕ) (value : ℤ) (q : ℕ) → place < length values → point_of (slice_set values place value) q ≡ with_value (point_of values) place value q
point_of-set [] place value q h = absurd (omega arith)
point_of-set (v ∷ values) zero value zero h = refl
point_of-set (v ∷ values) zero value (suc q) h = sym (ap (λ b. cond b value (point_of values q)) (zero_suc q))
point_of-set (v ∷ values) (suc place) value zero h = sym (ap (λ b. cond b value v) (suc_zero place))
point_of-set (v ∷ values) (suc place) value (suc q) h = point_of-set values place value q (omega arith) ∙ ap (λ b. cond b value (point_of values q)) (suc_suc place q)
