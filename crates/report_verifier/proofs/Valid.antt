-- A verdict has no fault exactly where it is valid.
use Rattle.std.proofs.Common.{◌≡◌, ℕ, zero, suc, ◌+◌, ◌<◌, Bool, true, false, cond, ◌&&◌, List, [], ◌∷◌, length, Option, Some, None, Result, Ok, Err, refl, sym, ap, ◌∙◌, subst, arith}
use Rattle.std.specs.Prelude.{◌==◌, nat_lt, slice_get}
use Rattle.std.proofs.lemmas.Bool.{false≢true, and_parts, and_from, eqb-true, eq-eqb, ltb-true, ltb-false, lt-ltb}
use Rattle.spec_core.specs.Specification.{Specification}
use Rattle.spec_core.specs.State.{Reads, reads}
use Rattle.spec_core.specs.Fits.{fits_places, world_fits}
use Rattle.obligation_list.specs.declared.obligation.Obligation.{Obligation}
use Rattle.obligation_list.specs.Breaking.{elements_of}
use Rattle.obligation_list.specs.Refuting.{refutes, refutes_in}
use Rattle.obligation_list.proofs.Refuted.{refuted as refutes-refutes, refuting as refutation-refutes, parts}
use Rattle.proof_lines.specs.declared.line.Why.{Why}
use Rattle.proof_kernel.specs.Rules.{State, run}
use Rattle.proof_kernel.specs.Evidence.{is_fresh, rows_hold, range_holds}
use Rattle.ground_problem.specs.Problem.{formulas_of}
use Rattle.ground_numbers.specs.Problem.{problem_of}
use Rattle.ground_problem.specs.Problem.{most_formulas}
use Rattle.proof_report.specs.declared.kind.Fault.{Fault}
use Rattle.proof_report.specs.declared.place.PartialWitness.{PartialWitness}
use Rattle.proof_report.specs.Verdicts.{VerdictForm, proved, refuted, instances, lines, rows, range, obligation_at, obligation_count, is_verdict, is_witness, are_verdicts}
use Rattle.proof_report.specs.Events.{verdict_lines}
use Rattle.report_reader.specs.Reader.{reads_of}
use Rattle.report_bytes.specs.Reading.{blocks_behind}
use Rattle.report_verifier.specs.Rules.{unless, or_else, has_many, refutes_shown, log_fault, problem_fault, many_fault, rule_fault, blocks_fault}
use Rattle.report_verifier.specs.Valid.{HasFew, HasMany, IsBroken, IsValid, AreValid}
use Rattle.report_verifier.proofs.Listed.{shown_state}

-- ---- tests

some_fault : (f : Fault) → ◌≡◌ {A = Option Fault} (Some f) None → ⊥
some_fault f e = cc

there : (b : Bool) (f : Fault) → unless b (Some f) ≡ None → b ≡ true
there true f h = refl
there false f h = absurd (some_fault f h)

unless_there : (b : Bool) (o : Option Fault) → b ≡ true → unless b o ≡ None
unless_there true o h = refl
unless_there false o h = absurd (false≢true h)

-- a log without a fault, and what stands after it
record Went (given : Result State (ℕ × Why)) (behind : State → Option Fault) : Type 0 where
  state : State
  leads : given ≡ Ok state
  sound : behind state ≡ None

went : (line : ℕ) (behind : State → Option Fault) (given : Result State (ℕ × Why)) → log_fault line behind given ≡ None → Went given behind
went line behind (Ok s) h = record { state = s; leads = refl; sound = h }
went line behind (Err e) h = absurd (some_fault _ h)

goes : (line : ℕ) (behind : State → Option Fault) (given : Result State (ℕ × Why)) (s : State) → given ≡ Ok s → behind s ≡ None → log_fault line behind given ≡ None
goes line behind given s e h = ap (log_fault line behind) e ∙ h

-- ---- witnesses

pub broken : (d : Specification) (ob : Obligation) (p : PartialWitness) (es : List ℕ) → is_witness d ob p es ≡ true → refutes_shown d ob p es ≡ true → IsBroken d ob p es
broken d ob p es fit h =
    let s = shown_state d ob p es fit in
    let a = and_parts (world_fits d p.world && fits_places p.world (elements_of d ob) es) (refutes_in d ob p.world (reads_of p) p.calls es) h in
    let b = and_parts (world_fits d p.world) (fits_places p.world (elements_of d ob) es) a.0 in
    let in_state : refutes_in d ob p.world (reads s.state) p.calls es ≡ true = ap (λ (r : Reads). refutes_in d ob p.world r p.calls es) s.reads_so ∙ a.1 in
    let all : refutes d ob p.world s.state p.calls es ≡ true = and_from _ _ (and_from _ _ (and_from _ _ b.0 s.fits) b.1) in_state in
    record { state = s.state; reads_so = s.reads_so; breaks = refutes-refutes d ob p.world s.state es p.calls all }

breaking : (d : Specification) (ob : Obligation) (p : PartialWitness) (es : List ℕ) → IsBroken d ob p es → refutes_shown d ob p es ≡ true
breaking d ob p es b =
    let all : refutes d ob p.world b.state p.calls es ≡ true = refutation-refutes d ob p.world b.state es p.calls b.breaks in
    let a = and_parts _ (refutes_in d ob p.world (reads b.state) p.calls es) all in
    let q = parts d ob p.world b.state es a.0 in
    let shown : refutes_in d ob p.world (reads_of p) p.calls es ≡ true = ap (λ (r : Reads). refutes_in d ob p.world r p.calls es) (sym b.reads_so) ∙ a.1 in
    and_from _ _ (and_from _ _ q.world q.elements) shown

-- ---- verdicts

few : (d : Specification) (ob : Obligation) → has_many d ob ≡ false → HasFew d ob
few d ob h = ltb-false most_formulas (length (formulas_of d ob)) h

many : (d : Specification) (ob : Obligation) → has_many d ob ≡ true → HasMany d ob
many d ob h = ltb-true most_formulas (length (formulas_of d ob)) h

not_few : (d : Specification) (ob : Obligation) → HasFew d ob → has_many d ob ≡ true → ⊥
not_few d ob f h = let m : most_formulas < length (formulas_of d ob) = many d ob h in omega (arith, f, m)

valid_few : (d : Specification) (version budget line : ℕ) (ob : Obligation) (v : VerdictForm) → is_verdict d version ob v ≡ true → HasFew d ob → problem_fault d budget (problem_of d ob) line ob v ≡ None → IsValid d budget ob v
valid_few d version budget line ob (proved log) fit f h =
    let w = went line _ (run (problem_of d ob) log) h in
    record { few = f; state = w.state; leads = w.leads; empty = there w.state.empty _ w.sound }
valid_few d version budget line ob (refuted p es) fit f h = broken d ob p es fit (there (refutes_shown d ob p es) _ h)
valid_few d version budget line ob instances fit f h = absurd (some_fault _ h)
valid_few d version budget line ob (lines log) fit f h =
    let w = went line _ (run (problem_of d ob) log) h in
    let t = and_parts (length log == budget) (is_fresh w.state) (there ((length log == budget) && is_fresh w.state) _ w.sound) in
    record { few = f; state = w.state; leads = w.leads; fresh = t.1; all = eqb-true (length log) budget t.0 }
valid_few d version budget line ob (rows log r) fit f h =
    let w = went line _ (run (problem_of d ob) log) h in
    let t = and_parts (is_fresh w.state) (rows_hold w.state r.used r.steps) (there (is_fresh w.state && rows_hold w.state r.used r.steps) _ w.sound) in
    (f, w.state, w.leads, t.0, t.1)
valid_few d version budget line ob (range log r) fit f h =
    let w = went line _ (run (problem_of d ob) log) h in
    let t = and_parts (is_fresh w.state) (range_holds w.state r.used r.steps r.what) (there (is_fresh w.state && range_holds w.state r.used r.steps r.what) _ w.sound) in
    (f, w.state, w.leads, t.0, t.1)

valid_many : (d : Specification) (version budget line : ℕ) (ob : Obligation) (v : VerdictForm) → is_verdict d version ob v ≡ true → HasMany d ob → many_fault d line ob v ≡ None → IsValid d budget ob v
valid_many d version budget line ob (proved log) fit m h = absurd (some_fault _ h)
valid_many d version budget line ob (refuted p es) fit m h = broken d ob p es fit (there (refutes_shown d ob p es) _ h)
valid_many d version budget line ob instances fit m h = m
valid_many d version budget line ob (lines log) fit m h = absurd (some_fault _ h)
valid_many d version budget line ob (rows log r) fit m h = absurd (some_fault _ h)
valid_many d version budget line ob (range log r) fit m h = absurd (some_fault _ h)

pub valid : (d : Specification) (version budget line : ℕ) (ob : Obligation) (v : VerdictForm) → is_verdict d version ob v ≡ true → rule_fault d budget line ob v ≡ None → IsValid d budget ob v
valid d version budget line ob v fit h = by_test (has_many d ob) refl h
  where
    by_test : (b : Bool) → has_many d ob ≡ b → cond b (many_fault d line ob v) (problem_fault d budget (problem_of d ob) line ob v) ≡ None → IsValid d budget ob v
    by_test true e h = valid_many d version budget line ob v fit (many d ob e) h
    by_test false e h = valid_few d version budget line ob v fit (few d ob e) h

sound_few : (d : Specification) (budget line : ℕ) (ob : Obligation) (v : VerdictForm) → has_many d ob ≡ false → IsValid d budget ob v → problem_fault d budget (problem_of d ob) line ob v ≡ None
sound_few d budget line ob (proved log) e h = goes line _ (run (problem_of d ob) log) h.state h.leads (unless_there h.state.empty _ h.empty)
sound_few d budget line ob (refuted p es) e h = unless_there (refutes_shown d ob p es) _ (breaking d ob p es h)
sound_few d budget line ob instances e h = absurd (false≢true (sym e ∙ lt-ltb most_formulas (length (formulas_of d ob)) h))
sound_few d budget line ob (lines log) e h = goes line _ (run (problem_of d ob) log) h.state h.leads (unless_there _ _ (and_from _ _ (eq-eqb (length log) budget h.all) h.fresh))
sound_few d budget line ob (rows log r) e h = goes line _ (run (problem_of d ob) log) h.1 h.2 (unless_there _ _ (and_from _ _ h.3 h.4))
sound_few d budget line ob (range log r) e h = goes line _ (run (problem_of d ob) log) h.1 h.2 (unless_there _ _ (and_from _ _ h.3 h.4))

sound_many : (d : Specification) (budget line : ℕ) (ob : Obligation) (v : VerdictForm) → has_many d ob ≡ true → IsValid d budget ob v → many_fault d line ob v ≡ None
sound_many d budget line ob (proved log) e h = absurd (not_few d ob h.few e)
sound_many d budget line ob (refuted p es) e h = unless_there (refutes_shown d ob p es) _ (breaking d ob p es h)
sound_many d budget line ob instances e h = refl
sound_many d budget line ob (lines log) e h = absurd (not_few d ob h.few e)
sound_many d budget line ob (rows log r) e h = absurd (not_few d ob h.0 e)
sound_many d budget line ob (range log r) e h = absurd (not_few d ob h.0 e)

pub sound : (d : Specification) (budget line : ℕ) (ob : Obligation) (v : VerdictForm) → IsValid d budget ob v → rule_fault d budget line ob v ≡ None
sound d budget line ob v h = by_test (has_many d ob) refl
  where
    by_test : (b : Bool) → has_many d ob ≡ b → cond b (many_fault d line ob v) (problem_fault d budget (problem_of d ob) line ob v) ≡ None
    by_test true e = sound_many d budget line ob v e h
    by_test false e = sound_few d budget line ob v e h

-- ---- reports

both_none : (a b : Option Fault) → or_else a b ≡ None → (a ≡ None) × (b ≡ None)
both_none None b h = (refl, h)
both_none (Some f) b h = absurd (some_fault f h)

-- what a report without fault says of its first verdict, and of the others
record First (d : Specification) (version budget n i : ℕ) (x : VerdictForm) (vs : List VerdictForm) : Type 0 where
  valid_here : IsValid d budget (obligation_at d i) x
  fit : are_verdicts d version (suc i) vs ≡ true
  none : blocks_fault d budget (suc i) (blocks_behind (n + 1 + length (verdict_lines x [])) vs) ≡ None

first_of : (d : Specification) (version budget n i : ℕ) (x : VerdictForm) (vs : List VerdictForm) → are_verdicts d version i (x ∷ vs) ≡ true → blocks_fault d budget i (blocks_behind n (x ∷ vs)) ≡ None → First d version budget n i x vs
first_of d version budget n i x vs fit h =
    let a = and_parts (nat_lt i (obligation_count d)) _ fit in
    let b = and_parts (is_verdict d version (obligation_at d i) x) (are_verdicts d version (suc i) vs) a.1 in
    let c = both_none (rule_fault d budget (n + 2) (obligation_at d i) x) (blocks_fault d budget (suc i) (blocks_behind (n + 1 + length (verdict_lines x [])) vs)) h in
    record { valid_here = valid d version budget (n + 2) (obligation_at d i) x b.0 c.0; fit = b.1; none = c.1 }

same_verdict : (x v : VerdictForm) → ◌≡◌ {A = Option VerdictForm} (Some x) (Some v) → x ≡ v
same_verdict x v e = cc

-- each verdict of a report without fault is valid, at its place
pub valid_at : (d : Specification) (version budget n i : ℕ) (vs : List VerdictForm) → are_verdicts d version i vs ≡ true → blocks_fault d budget i (blocks_behind n vs) ≡ None
    → (j : ℕ) (v : VerdictForm) → slice_get vs j ≡ Some v → IsValid d budget (obligation_at d (i + j)) v
valid_at d version budget n i [] fit h j v e = absurd cc
valid_at d version budget n i (x ∷ vs) fit h zero v e =
    let f = first_of d version budget n i x vs fit h in
    let place : i ≡ i + 0 = omega arith in
    let s : x ≡ v = same_verdict x v e in
    subst (λ (m : ℕ). IsValid d budget (obligation_at d m) v) place (subst (λ (y : VerdictForm). IsValid d budget (obligation_at d i) y) s f.valid_here)
valid_at d version budget n i (x ∷ vs) fit h (suc j) v e =
    let f = first_of d version budget n i x vs fit h in
    let on = valid_at d version budget (n + 1 + length (verdict_lines x [])) (suc i) vs f.fit f.none j v e in
    let place : suc i + j ≡ i + suc j = omega arith in
    subst (λ (m : ℕ). IsValid d budget (obligation_at d m) v) place on

pub each_valid : (d : Specification) (version budget n i : ℕ) (vs : List VerdictForm) → are_verdicts d version i vs ≡ true → blocks_fault d budget i (blocks_behind n vs) ≡ None → AreValid d budget i vs
each_valid d version budget n i [] fit h = tt
each_valid d version budget n i (x ∷ vs) fit h =
    let a = and_parts (nat_lt i (obligation_count d)) _ fit in
    let b = and_parts (is_verdict d version (obligation_at d i) x) (are_verdicts d version (suc i) vs) a.1 in
    let c = both_none (rule_fault d budget (n + 2) (obligation_at d i) x) (blocks_fault d budget (suc i) (blocks_behind (n + 1 + length (verdict_lines x [])) vs)) h in
    (valid d version budget (n + 2) (obligation_at d i) x b.0 c.0, each_valid d version budget (n + 1 + length (verdict_lines x [])) (suc i) vs b.1 c.1)

pub each_sound : (d : Specification) (budget n i : ℕ) (vs : List VerdictForm) → AreValid d budget i vs → blocks_fault d budget i (blocks_behind n vs) ≡ None
each_sound d budget n i [] h = refl
each_sound d budget n i (x ∷ vs) h =
    ap (λ (o : Option Fault). or_else o (blocks_fault d budget (suc i) (blocks_behind (n + 1 + length (verdict_lines x [])) vs))) (sound d budget (n + 2) (obligation_at d i) x h.0)
    ∙ each_sound d budget (n + 1 + length (verdict_lines x [])) (suc i) vs h.1
