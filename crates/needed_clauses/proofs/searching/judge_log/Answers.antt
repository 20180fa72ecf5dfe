use Rattle.std.proofs.Common.{◌≡◌, ◌≤◌, ◌∙◌, ℕ, ap, subst, length, map, List, true, arith}
use Rattle.std.specs.List.{list_all}
use Rattle.proof_lines.specs.declared.line.Line.{Line}
use Rattle.needed_clauses.specs.Renaming.{is_plain_line, number_in, line_by, line_in}
use Rattle.needed_clauses.proofs.Answered.{answered}
use Rattle.needed_clauses.proofs.searching.judge_log.Goals as goal

pub returns : goal.returns
returns c = λ split stop.
    let p = c.args.problem.now in
    let part = c.args.part.now in
    let plain : list_all is_plain_line c.args.log ≡ true = let a = c.are_plain_lines.ensures in let b = c.if-not-are_plain_lines.false in let d = c.as_slice-else-not-is_short.ensures in cc in
    let within : length c.args.log ≤ c.args.budget = subst (λ (z : List Line). length z ≤ c.args.budget) c.as_slice.ensures (c.if-not-is_short.ensures.few cc) in
    let many = c.if-not-is_short.ensures.many cc in
    let sizes = c.sizes-whole.ensures in
    let whole : c.sizes-whole.result.0 ≡ length p.atoms = ap (λ (z : ℕ × ℕ). z.0) sizes in
    let some : c.sizes-whole.result.1 ≡ length p.clauses = ap (λ (z : ℕ × ℕ). z.1) sizes in
    let lines : c.in_ok-lines.lines ≡ map (line_in p part.clauses.items part.atoms.items) c.args.log =
    c.in_ok-lines.ensures ∙ (λ i. map (line_by (number_in (c.as_slice-clauses.ensures.value i) (some i)) (number_in (c.as_slice-atoms.ensures.value i) (whole i))) c.args.log) in
    answered split part.problem p part.clauses.items part.atoms.items c.args.few c.args.budget c.args.log c.in_ok-lines.lines c.requires.part c.requires.refuted
    plain within (omega (arith, c.ranges.budget.fits)) many c.law_good_rows.ensures.fits c.law_good_rows.ensures.rows lines
