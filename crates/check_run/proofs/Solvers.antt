-- The log of a search that doesn't split is short.
use Rattle.std.proofs.Common.{◌≡◌, ℕ, ◌+◌, ◌^◌, ◌≤◌, false, List, length, refl, subst, arith, Result, Ok, Err, IfOk}
use Rattle.proof_lines.specs.declared.line.Line.{Line}
use Rattle.proof_lines.specs.Problems.{PlainProblem}
use Rattle.sat_core.specs.SearchLogs.{splits}
use Rattle.sat_core.specs.Answers.{IsExhausted}

pub exhausted-small : (p : PlainProblem) (budget : ℕ) (log : List Line) → IsExhausted false p budget log → budget ≤ 3 ^ length p.atoms
exhausted-small p budget log h =
    let none : splits log ≡ 0 = h.short.unsplit refl in
    let few : length log ≤ 3 ^ (length p.atoms + 0) + 0 = subst (λ (s : ℕ). length log ≤ 3 ^ (length p.atoms + s) + s) none h.short.few in
    let same : length p.atoms + 0 ≡ length p.atoms = omega arith in
    let within : length log ≤ 3 ^ length p.atoms + 0 = subst (λ (k : ℕ). length log ≤ 3 ^ k + 0) same few in
    omega (arith, h.whole, within)

pub ok_other : {A E : Type 0} (P Q : A → Type 0) (r : Result A E) → ((a : A) → P a → Q a) → IfOk r P → IfOk r Q
ok_other P Q (Ok a) f h = f a h
ok_other P Q (Err e) f h = h
