use Rattle.std.proofs.Common.{◌≡◌, ◌+◌, ℕ, true, List, map, length, ap, sym, ◌∙◌, subst, arith}
use Rattle.std.specs.List.{list_all}
use Rattle.std.proofs.lemmas.Grind.{common_steps}
use Rattle.std.proofs.lemmas.List.{length-map}
use Rattle.proof_lines.specs.declared.problem.AtomKind.{AtomKind}
use Rattle.proof_lines.specs.Problems.{names_below}
use Rattle.ground_numbers.specs.Numbered.{is_below}
use Rattle.ground_numbers.specs.Clauses.{all_names, all_clauses}
use Rattle.ground_numbers.specs.Problem.{kind_of}
use Rattle.ground_atoms.specs.Formulas.{form_of}
use Rattle.clausify.proofs.Below.{parts-fit}
use Rattle.clausify.proofs.problem.problem_from.Goals as goal

pub invariant_of-result : goal.invariant_of-result
invariant_of-result c =
    let fs = map form_of c.args.formulas.now in
    let atoms = c.args.atoms.now.table.atoms in
    let kinds = c.in_ok-kinds.kinds in
    let ints : c.in-Some-Ok.ints ≡ length c.args.atoms.now.table.ints = grind (arith, common_steps) in
    let first : c.in-Some-Ok.first ≡ length kinds = grind (arith, common_steps) in
    let size : length atoms ≡ c.in-Some-Ok.first = sym (first ∙ ap length c.in_ok-kinds.ensures ∙ length-map atoms kind_of) in
    let end : c.in_ok-end.end ≡ c.in-Some-Ok.first + all_names fs = grind (arith, common_steps) in
    let made : c.write_from.new.out ≡ all_clauses c.in-Some-Ok.first fs = grind (arith, common_steps) in
    parts-fit kinds c.in_ok-named.named c.in-Some-Ok.ints c.in-Some-Ok.first c.in_ok-end.end fs c.write_from.new.out first end c.in_ok-named.ensures made
    (subst (λ (n : ℕ). list_all (is_below n) fs ≡ true) size c.requires.named)
    (subst (λ (n : ℕ). list_all (names_below n) kinds ≡ true) (sym ints) (subst (λ (ks : List AtomKind). list_all (names_below (length c.args.atoms.now.table.ints)) ks ≡ true) (sym c.in_ok-kinds.ensures) c.requires.placed))
