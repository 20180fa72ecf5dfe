use Rattle.std.proofs.Common.{◌≡◌, true, ℕ, List, [], ◌∷◌, sym, ◌∙◌, ap, subst, arith}
use Rattle.std.specs.Prelude.{slice_index_or}
use Rattle.std.proofs.lemmas.Grind.{common_steps}
use Rattle.spec_core.specs.Form.{form_of}
use Rattle.spec_core.specs.Truth.{truth}
use Rattle.spec_core.specs.Fits.{form_fits}
use Rattle.touched_lines.specs.Spans.{all_within}
use Rattle.touched_lines.specs.Touched.{spans_from}
use Rattle.touched_lines.proofs.reached.true_in_spans.Goals as goal

pub true_last-requires-clause-fits : goal.true_last-requires-clause-fits
true_last-requires-clause-fits g c =
    let w = c.args.world.now in let a = c.args.args.now in let ss = c.args.sorts.now in let es = c.args.elems.now in let xs = c.args.spots.now in
    let is : ss ≡ slice_index_or ss 0 0 ∷ [] = grind (arith, common_steps) in
    let at = subst (λ (ks : List ℕ). all_within (spans_from w a es xs 0 ks) [] (λ vars. form_fits c.args.spec.now w [] vars (form_of c.args.body.now)) ≡ true) is c.requires.fits in
    (λ i. all_within (c.span_of-only.ensures i ∷ []) [] (λ vars. form_fits c.args.spec.now w [] vars (form_of c.args.body.now))) ∙ at

pub returns-in-len1 : goal.returns-in-len1
returns-in-len1 g c =
    let w = c.args.world.now in let a = c.args.args.now in let ss = c.args.sorts.now in let es = c.args.elems.now in let xs = c.args.spots.now in
    let is : ss ≡ slice_index_or ss 0 0 ∷ [] = grind (arith, common_steps) in
    c.true_last.ensures ∙ (λ i. all_within (c.span_of-only.ensures i ∷ []) [] (λ vars. truth w (g.R.Readings.reads c.args.at.now) [] vars (form_of c.args.body.now)))
    ∙ ap (λ (ks : List ℕ). all_within (spans_from w a es xs 0 ks) [] (λ vars. truth w (g.R.Readings.reads c.args.at.now) [] vars (form_of c.args.body.now))) (sym is)

pub true_last_two-requires-clause-fits : goal.true_last_two-requires-clause-fits
true_last_two-requires-clause-fits g c =
    let w = c.args.world.now in let a = c.args.args.now in let ss = c.args.sorts.now in let es = c.args.elems.now in let xs = c.args.spots.now in
    let is : ss ≡ slice_index_or ss 0 0 ∷ slice_index_or ss 1 0 ∷ [] = grind (arith, common_steps) in
    let at = subst (λ (ks : List ℕ). all_within (spans_from w a es xs 0 ks) [] (λ vars. form_fits c.args.spec.now w [] vars (form_of c.args.body.now)) ≡ true) is c.requires.fits in
    (λ i. all_within (c.span_of-one.ensures i ∷ c.span_of-other.ensures i ∷ []) [] (λ vars. form_fits c.args.spec.now w [] vars (form_of c.args.body.now))) ∙ at

pub returns-in-len2 : goal.returns-in-len2
returns-in-len2 g c =
    let w = c.args.world.now in let a = c.args.args.now in let ss = c.args.sorts.now in let es = c.args.elems.now in let xs = c.args.spots.now in
    let is : ss ≡ slice_index_or ss 0 0 ∷ slice_index_or ss 1 0 ∷ [] = grind (arith, common_steps) in
    c.true_last_two.ensures ∙ (λ i. all_within (c.span_of-one.ensures i ∷ c.span_of-other.ensures i ∷ []) [] (λ vars. truth w (g.R.Readings.reads c.args.at.now) [] vars (form_of c.args.body.now)))
    ∙ ap (λ (ks : List ℕ). all_within (spans_from w a es xs 0 ks) [] (λ vars. truth w (g.R.Readings.reads c.args.at.now) [] vars (form_of c.args.body.now))) (sym is)

pub true_three-requires-clause-fits : goal.true_three-requires-clause-fits
true_three-requires-clause-fits g c =
    let w = c.args.world.now in let a = c.args.args.now in let ss = c.args.sorts.now in let es = c.args.elems.now in let xs = c.args.spots.now in
    let is : ss ≡ slice_index_or ss 0 0 ∷ slice_index_or ss 1 0 ∷ slice_index_or ss 2 0 ∷ [] = grind (arith, common_steps) in
    let at = subst (λ (ks : List ℕ). all_within (spans_from w a es xs 0 ks) [] (λ vars. form_fits c.args.spec.now w [] vars (form_of c.args.body.now)) ≡ true) is c.requires.fits in
    (λ i. all_within (c.span_of-first.ensures i ∷ c.span_of-second.ensures i ∷ c.span_of-third.ensures i ∷ []) [] (λ vars. form_fits c.args.spec.now w [] vars (form_of c.args.body.now))) ∙ at

pub returns-in-len3 : goal.returns-in-len3
returns-in-len3 g c =
    let w = c.args.world.now in let a = c.args.args.now in let ss = c.args.sorts.now in let es = c.args.elems.now in let xs = c.args.spots.now in
    let is : ss ≡ slice_index_or ss 0 0 ∷ slice_index_or ss 1 0 ∷ slice_index_or ss 2 0 ∷ [] = grind (arith, common_steps) in
    c.true_three.ensures ∙ (λ i. all_within (c.span_of-first.ensures i ∷ c.span_of-second.ensures i ∷ c.span_of-third.ensures i ∷ []) [] (λ vars. truth w (g.R.Readings.reads c.args.at.now) [] vars (form_of c.args.body.now)))
    ∙ ap (λ (ks : List ℕ). all_within (spans_from w a es xs 0 ks) [] (λ vars. truth w (g.R.Readings.reads c.args.at.now) [] vars (form_of c.args.body.now))) (sym is)
