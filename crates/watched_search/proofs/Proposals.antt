-- What is known of a proposed log that stood its test.
use Rattle.std.proofs.Common.{◌≡◌, ◌+◌, ◌^◌, ◌≤◌, ◌<◌, ℕ, true, not, Bool, List, [], ◌∷◌, length, refl, sym, subst, Ok, Err, Result, arith}
use Rattle.std.specs.List.{list_all}
use Rattle.std.proofs.Math.Nat.{pow-le-pow_left}
use Rattle.std.proofs.Math.Pow.{pow_mono}
use Rattle.proof_lines.specs.declared.line.Line.{Line}
use Rattle.proof_lines.specs.declared.line.Line.TheVariants.{Resolve, Farkas, Split, Drop}
use Rattle.proof_lines.specs.declared.line.Why.{Why}
use Rattle.proof_lines.specs.Problems.{PlainProblem}
use Rattle.proof_kernel.specs.declared.answer.Checked.{Checked}
use Rattle.proof_kernel.specs.Rules.{State, run}
use Rattle.proof_kernel.specs.Answers.{IsJudged}
use Rattle.sat_core.specs.SearchLogs.{is_split, splits}
use Rattle.sat_core.specs.Answers.{IsEasy, IsRefuted, IsShort}

-- ---- a log without a Split line

pub unsplit-none : (ls : List Line) → list_all (λ l. not (is_split l)) ls ≡ true → splits ls ≡ 0
unsplit-none [] h = refl
unsplit-none (Resolve left right pivot ∷ ls) h = unsplit-none ls h
unsplit-none (Farkas used steps ∷ ls) h = unsplit-none ls h
unsplit-none (Split place at used steps low high values ∷ ls) h = absurd cc
unsplit-none (Drop clauses ∷ ls) h = unsplit-none ls h

-- ---- there are more clauses over many atoms than a log has lines

pub few-many : (n len : ℕ) → len < 2 ^ 32 → 32 ≤ n → len ≤ 3 ^ (n + 0) + 0
few-many n len h m =
    let a : 2 ^ 32 ≤ 2 ^ n = pow_mono m in
    let b : 2 ^ n ≤ 3 ^ n = pow-le-pow_left (omega arith) n in
    let e : n + 0 ≡ n = omega arith in
    subst (λ z. len ≤ 3 ^ z + 0) (sym e) (omega (arith, h, a, b))

-- ---- a log that the kernel took

judged-refuted : (split : Bool) (p : PlainProblem) (budget : ℕ) (ls : List Line) (c : Checked) → IsShort split p ls → length ls ≤ budget → (IsEasy p → ⊥)
    → (r : Result State (ℕ × Why)) → run p ls ≡ r → IsJudged ls r (Ok c) → IsRefuted split p budget ls
judged-refuted split p budget ls c short within uneasy (Ok s) e j = record { state = s; runs = e; empty = j.0; within = within; short = short; uneasy = uneasy }
judged-refuted split p budget ls c short within uneasy (Err k) e j = absurd j

pub refuted-by : (split : Bool) (p : PlainProblem) (budget : ℕ) (ls : List Line) (c : Checked) → budget < 2 ^ 32 → length ls ≤ budget → 32 ≤ length p.atoms
    → splits ls ≡ 0 → (IsEasy p → ⊥) → IsJudged ls (run p ls) (Ok c) → IsRefuted split p budget ls
refuted-by split p budget ls c b w m u uneasy j =
    let few = few-many (length p.atoms) (length ls) (omega (arith, b, w)) m in
    let short : IsShort split p ls = record { unsplit = λ x. u; plain = λ x. u; few = subst (λ z. length ls ≤ 3 ^ (length p.atoms + z) + z) (sym u) few } in
    judged-refuted split p budget ls c short w uneasy (run p ls) refl j
