use Rattle.std.proofs.Common.{◌≡◌, true, List, [], ◌∷◌, ◌++◌, ◌∙◌, ap, arith}
use Rattle.std.proofs.lemmas.List.Folds.{list_all-append}
use Rattle.std.proofs.lemmas.Result.{on_ok_weaker}
use Rattle.lin_rows.specs.declared.term.RowTerm.{RowTerm}
use Rattle.lin_rows.specs.Numbers.{in_range}
use Rattle.lin_rows.specs.Rows.{all_in_range}
use Rattle.ground_atoms.proofs.rows.+add_terms.Goals as goal

one_more : (ts : List RowTerm) (t : RowTerm) → in_range t.coef ≡ true → all_in_range ts ≡ true → all_in_range (ts ++ t ∷ []) ≡ true
one_more ts t h k = list_all-append (λ (u : RowTerm). in_range u.coef) ts (t ∷ []) ∙ grind arith

pub returns-in_ok-push-in-Multiple-clause-range : goal.returns-in_ok-push-in-Multiple-clause-range
returns-in_ok-push-in-Multiple-clause-range t c =
    let pushed : all_in_range c.args.terms.now.items ≡ true → all_in_range c.push.new.self.items ≡ true =
    λ h. ap all_in_range c.in_ok-push-in-Multiple.ensures.items ∙ one_more c.args.terms.now.items c.term_of.result c.term_of.ensures.range h in
    on_ok_weaker c.add_terms.result (λ f h. f (pushed h)) c.add_terms.ensures.range
