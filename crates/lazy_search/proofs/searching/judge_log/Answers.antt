use Rattle.std.proofs.Common.{◌≡◌, ◌≤◌, ◌∙◌, ℕ, sym, subst, length, map, List, true, arith}
use Rattle.std.specs.List.{list_all}
use Rattle.proof_lines.specs.declared.line.Line.{Line}
use Rattle.needed_clauses.specs.Renaming.{is_plain_line, number_in, line_by}
use Rattle.lazy_ground.specs.Lazy.{lazy_problem}
use Rattle.lazy_search.proofs.Logs.{of_whole}
use Rattle.lazy_search.proofs.searching.judge_log.Goals as goal

pub returns : goal.returns
returns c =
    let p = lazy_problem c.args.measured.now.ground.now in
    let part = c.args.part.now in
    let f : ℕ → ℕ = number_in part.picks.numbers.items (length p.clauses) in
    let g : ℕ → ℕ = number_in part.atoms.items (length p.atoms) in
    let plain : list_all is_plain_line c.args.log ≡ true =
    subst (λ (z : List Line). list_all is_plain_line z ≡ true) c.as_slice.ensures (sym c.are_plain_lines.ensures ∙ c.if-not-are_plain_lines.false) in
    let within : length c.args.log ≤ c.args.aim.now.budget = let l = c.len.ensures in omega (arith, l, c.if-len-aim.false) in
    let lines : c.in_ok-lines.lines ≡ map (line_by f g) c.args.log =
    c.in_ok-lines.ensures
    ∙ (λ i. map (line_by (number_in (c.as_slice-numbers.ensures.value i) (c.requires.measured.sizes.clauses i)) (number_in (c.as_slice-atoms.ensures.value i) (c.requires.measured.sizes.atoms i))) c.args.log) in
    of_whole f g part.problem p c.args.few c.args.aim.now.budget c.args.log c.in_ok-lines.lines c.requires.part c.requires.refuted plain within lines
