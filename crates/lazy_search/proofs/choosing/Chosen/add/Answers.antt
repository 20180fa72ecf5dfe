use Rattle.std.proofs.Common.{◌≡◌, ◌-◌, ◌++◌, ℕ, List, length, map, sym, subst, ◌∙◌, ap, arith}
use Rattle.std.specs.List.{range_with_len}
use Rattle.std.proofs.lemmas.List.{length-append}
use Rattle.proof_lines.specs.declared.clause.Lit.{Lit}
use Rattle.ground_numbers.specs.Clauses.{all_clauses}
use Rattle.ground_atoms.specs.Formulas.{form_of}
use Rattle.lazy_search.specs.Chosen.{AreAt}
use Rattle.lazy_search.proofs.Adding.{more_at}
use Rattle.lazy_search.proofs.choosing.Chosen.add.Goals as goal

pub returns-clause-chosen : goal.returns-clause-chosen
returns-clause-chosen c = λ all s h.
    let old = c.args.self.now.clauses in
    let out = c.write_clauses.new.out in
    let more : List (List Lit) = all_clauses c.args.at.name (map form_of c.args.forms.now) in
    let made : out ≡ old ++ more = c.in_ok-name.ensures.made in
    let many : c.len.result - c.len-before.result ≡ length more =
    let a = c.len.ensures in let b = c.len-before.ensures in let l = length-append old more in let m = ap (λ (z : List (List Lit)). length z) made in omega (arith, a, b, l, m) in
    let x = more_at all old more c.args.self.now.numbers.items c.args.at.clause s h in
    subst (λ (z : List (List Lit)). AreAt all z c.add_numbers.new.numbers.items) (sym made)
    (subst (λ (z : List ℕ). AreAt all (old ++ more) z) (sym (c.in_ok-add_numbers.ensures ∙ ap (λ (z : ℕ). c.args.self.now.numbers.items ++ range_with_len c.args.at.clause z) many)) x)
