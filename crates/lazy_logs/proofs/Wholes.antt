-- A log of a part, with the numbers of the whole problem, refutes that.
use Rattle.std.proofs.Common.{◌≡◌, ℕ, true, List, map, sym, subst}
use Rattle.std.specs.List.{list_all}
use Rattle.proof_lines.specs.declared.line.Line.{Line}
use Rattle.proof_lines.specs.Problems.{PlainProblem}
use Rattle.needed_clauses.specs.Renaming.{line_by, is_plain_line, IsRenamed}
use Rattle.needed_clauses.proofs.Renaming.{renamed-run}
use Rattle.lazy_logs.specs.Refuted.{Refutes}

pub refutes-whole : (f g : ℕ → ℕ) (q p : PlainProblem) (own lines : List Line) → IsRenamed f g q p → Refutes q own → list_all is_plain_line own ≡ true → lines ≡ map (line_by f g) own → Refutes p lines
refutes-whole f g q p own lines part refuted plain e =
    let r = renamed-run f g q p part own refuted.state plain refuted.runs refuted.empty in
    subst (λ (z : List Line). Refutes p z) (sym e) (record { state = r.0; runs = r.1; empty = r.2 })
