-- The evidence of a range is read by its first word.
use Rattle.std.proofs.Common.{◌≡◌, ℕ, ℤ, true, false, List, Some, ◌⊎◌, inl, inr, sym, ap, ◌∙◌}
use Rattle.std.specs.Prelude.{codes}
use Rattle.std.specs.Str.{bytes_eq}
use Rattle.proof_lines.specs.declared.clause.Lit.{Lit}
use Rattle.proof_lines.specs.declared.line.RowStep.{RowStep}
use Rattle.report_lines.specs.declared.evidence.RangeLine.{RangeLine}
use Rattle.report_lines.specs.Words.{next_of}
use Rattle.report_lines.specs.Formats.{Read, Format, mapped, behind, or_else}
use Rattle.report_lines.specs.Evidence.{product_words, values_words, RangeParts, to_range, range_format}
use Rattle.report_lines.proofs.ShownCases.{first_word, other_word, key_word, two_views}

abbrev Products : Type 0
Products = (List Lit × List RowStep) × (ℕ × (ℕ × ℕ))

abbrev Values : Type 0
Values = (List Lit × List RowStep) × (ℕ × (ℕ × List ℤ))

abbrev sums : Format Values
sums = behind (codes "sum") values_words

abbrev values : Format (Values ⊎ Values)
values = or_else (codes "value") values_words sums

-- behind another word than `product`
not_product : (ws rest : List (List ℕ)) (first : List ℕ) → next_of ws ≡ Some (first, rest) → bytes_eq first (codes "product") ≡ false
    → mapped {A = Values ⊎ Values} {B = RangeLine} (λ (x : Values ⊎ Values). to_range (inr x)) (values.get ws) ≡ range_format.get ws
not_product ws rest first is other =
    two_views {A = Values ⊎ Values} {B = RangeParts} {C = RangeLine} inr to_range (values.get ws)
    ∙ ap (λ (r : Read RangeParts). mapped {A = RangeParts} {B = RangeLine} to_range r) (sym (other_word (codes "product") product_words values ws rest first is other))

pub product_read : (ws rest : List (List ℕ)) (first : List ℕ) → next_of ws ≡ Some (first, rest) → bytes_eq first (codes "product") ≡ true
    → mapped {A = Products} {B = RangeLine} (λ (x : Products). to_range (inl x)) (product_words.get rest) ≡ range_format.get ws
product_read ws rest first is same =
    two_views {A = Products} {B = RangeParts} {C = RangeLine} inl to_range (product_words.get rest)
    ∙ ap (λ (r : Read RangeParts). mapped {A = RangeParts} {B = RangeLine} to_range r) (sym (first_word (codes "product") product_words values ws rest first is same))

pub value_read : (ws rest : List (List ℕ)) (first : List ℕ) → next_of ws ≡ Some (first, rest) → bytes_eq first (codes "product") ≡ false → bytes_eq first (codes "value") ≡ true
    → mapped {A = Values} {B = RangeLine} (λ (x : Values). to_range (inr (inl x))) (values_words.get rest) ≡ range_format.get ws
value_read ws rest first is no_product same =
    two_views {A = Values} {B = Values ⊎ Values} {C = RangeLine} inl (λ x. to_range (inr x)) (values_words.get rest)
    ∙ ap (λ (r : Read (Values ⊎ Values)). mapped {A = Values ⊎ Values} {B = RangeLine} (λ x. to_range (inr x)) r) (sym (first_word (codes "value") values_words sums ws rest first is same))
    ∙ not_product ws rest first is no_product

pub sum_read : (ws rest : List (List ℕ)) (first : List ℕ) → next_of ws ≡ Some (first, rest) → bytes_eq first (codes "product") ≡ false → bytes_eq first (codes "value") ≡ false → bytes_eq first (codes "sum") ≡ true
    → mapped {A = Values} {B = RangeLine} (λ (x : Values). to_range (inr (inr x))) (values_words.get rest) ≡ range_format.get ws
sum_read ws rest first is no_product no_value same =
    ap (λ (r : Read Values). mapped {A = Values} {B = RangeLine} (λ x. to_range (inr (inr x))) r) (sym (key_word (codes "sum") values_words ws rest first is same))
    ∙ two_views {A = Values} {B = Values ⊎ Values} {C = RangeLine} inr (λ x. to_range (inr x)) (sums.get ws)
    ∙ ap (λ (r : Read (Values ⊎ Values)). mapped {A = Values ⊎ Values} {B = RangeLine} (λ x. to_range (inr x)) r) (sym (other_word (codes "value") values_words sums ws rest first is no_value))
    ∙ not_product ws rest first is no_product
