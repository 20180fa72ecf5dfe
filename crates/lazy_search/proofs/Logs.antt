-- A log of a part is one of the whole problem.
use Rattle.std.proofs.Common.{◌≡◌, ℕ, ◌≤◌, true, List, length, map, sym, subst, arith}
use Rattle.std.specs.List.{list_all}
use Rattle.std.proofs.lemmas.List.{length-map}
use Rattle.proof_lines.specs.declared.line.Line.{Line}
use Rattle.proof_lines.specs.Problems.{PlainProblem}
use Rattle.sat_core.specs.Answers.{IsRefuted}
use Rattle.needed_clauses.specs.Renaming.{line_by, is_plain_line, IsRenamed}
use Rattle.needed_clauses.proofs.Renaming.{renamed-run}
use Rattle.lazy_search.specs.Refuting.{RefutesWithin}

pub of_whole : (f g : ℕ → ℕ) (q p : PlainProblem) (few budget : ℕ) (log lines : List Line) → IsRenamed f g q p → IsRefuted true q few log → list_all is_plain_line log ≡ true → length log ≤ budget → lines ≡ map (line_by f g) log
    → RefutesWithin p budget lines
of_whole f g q p few budget log lines part refuted plain within e =
    let r = renamed-run f g q p part log refuted.state plain refuted.runs refuted.empty in
    let long : length (map (line_by f g) log) ≡ length log = length-map log (line_by f g) in
    subst (λ (z : List Line). RefutesWithin p budget z) (sym e) (record { state = r.0; runs = r.1; empty = r.2; within = omega (arith, long, within) })
