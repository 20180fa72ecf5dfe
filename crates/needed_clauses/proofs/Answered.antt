-- A part's log that is answered of the whole problem.
use Rattle.std.proofs.Common.{◌≡◌, ℕ, ◌+◌, ◌^◌, ◌<◌, ◌≤◌, Bool, true, false, List, [], ◌∷◌, length, map, refl, sym, ◌∙◌, ap, subst, arith, Ok}
use Rattle.std.specs.List.{list_all}
use Rattle.std.proofs.lemmas.List.{length-map}
use Rattle.proof_lines.specs.declared.line.Line.{Line}
use Rattle.proof_lines.specs.declared.line.Line.TheVariants.{Resolve, Farkas, Split, Drop}
use Rattle.proof_lines.specs.Problems.{PlainProblem, fits, has_good_row}
use Rattle.proof_kernel.specs.Rules.{run}
use Rattle.proof_kernel.proofs.Runs.{run-refutes}
use Rattle.sat_core.specs.SearchLogs.{splits}
use Rattle.sat_core.specs.Answers.{IsRefuted, IsShort}
use Rattle.watched_search.proofs.Easy.{none-uneasy}
use Rattle.watched_search.proofs.Proposals.{few-many}
use Rattle.needed_clauses.specs.Renaming.{number_in, line_by, line_in, is_plain_line, IsPart}
use Rattle.needed_clauses.proofs.Renaming.{renamed-run}

plain-unsplit : (f g : ℕ → ℕ) (ls : List Line) → list_all is_plain_line ls ≡ true → splits (map (line_by f g) ls) ≡ 0
plain-unsplit f g [] h = refl
plain-unsplit f g (Resolve left right pivot ∷ ls) h = plain-unsplit f g ls h
plain-unsplit f g (Farkas used steps ∷ ls) h = plain-unsplit f g ls h
plain-unsplit f g (Split place at used steps low high values ∷ ls) h = absurd cc
plain-unsplit f g (Drop clauses ∷ ls) h = absurd cc

pub answered : (split : Bool) (q p : PlainProblem) (clauses atoms : List ℕ) (few budget : ℕ) (log lines : List Line) → IsPart q p clauses atoms → IsRefuted true q few log
    → list_all is_plain_line log ≡ true → length log ≤ budget → budget < 2 ^ 32 → 32 ≤ length p.atoms → fits p ≡ true → list_all has_good_row p.atoms ≡ true
    → lines ≡ map (line_in p clauses atoms) log → IsRefuted split p budget lines
answered split q p clauses atoms few budget log lines part refuted plain within small many fit good e = subst (λ (z : List Line). IsRefuted split p budget z) (sym e) whole
  where
    f : ℕ → ℕ
    f = number_in clauses (length p.clauses)

    g : ℕ → ℕ
    g = number_in atoms (length p.atoms)

    renamed : List Line
    renamed = map (line_in p clauses atoms) log

    long : length renamed ≡ length log
    long = length-map log (line_in p clauses atoms)

    unsplit : splits renamed ≡ 0
    unsplit = plain-unsplit f g log plain

    short : IsShort split p renamed
    short =
        let m = few-many (length p.atoms) (length renamed) (omega (arith, long, within, small)) many in
        record { unsplit = λ x. unsplit; plain = λ x. unsplit; few = subst (λ (z : ℕ). length renamed ≤ 3 ^ (length p.atoms + z) + z) (sym unsplit) m }

    whole : IsRefuted split p budget renamed
    whole =
        let r = renamed-run f g q p part log refuted.state plain refuted.runs refuted.empty in
        record { state = r.0; runs = r.1; empty = r.2; within = omega (arith, long, within); short = short; uneasy = none-uneasy p (run-refutes p renamed r.0 fit good r.1 r.2) }
