-- What refutes an obligation fits.
use Rattle.std.proofs.Common.{◌≡◌, ℕ, suc, ◌≤◌, true, ◌&&◌, List, [], ◌∷◌, length, refl, ap, arith}
use Rattle.std.specs.Prelude.{nat_le, nat_lt, unsigned_abs}
use Rattle.std.specs.List.{list_all}
use Rattle.std.proofs.lemmas.Bool.{and_parts, and_from, eq-eqb, ltb-true}
use Rattle.std.proofs.Common.{le-leb}
use Rattle.spec_core.specs.declared.world.World.{World}
use Rattle.spec_core.specs.declared.world.Call.{Call}
use Rattle.spec_core.specs.Specification.{Specification}
use Rattle.spec_core.specs.State.{Reads, reads}
use Rattle.spec_core.specs.Limits.{greatest_value}
use Rattle.spec_core.specs.World.{size_of}
use Rattle.spec_core.proofs.Places.{size_at_most}
use Rattle.spec_core.specs.Fits.{world_fits, fits_places, is_world, is_call, call_fits, in_state_range}
use Rattle.obligation_list.specs.declared.obligation.Obligation.{Obligation}
use Rattle.obligation_list.specs.declared.obligation.Obligation.TheVariants.{Init, Safety, Commute, Stable}
use Rattle.obligation_list.specs.declared.witness.Witness.{Witness}
use Rattle.obligation_list.specs.Breaking.{elements_of, BreaksIn}
use Rattle.obligation_list.specs.Refuting.{IsRefutation}
use Rattle.report_lines.specs.Fields.{most_count}
use Rattle.proof_report.specs.declared.verdict.Cause.TheVariants as causes
use Rattle.proof_report.specs.declared.verdict.Verdict.{Verdict}
use Rattle.proof_report.specs.declared.verdict.Verdict.TheVariants as verdicts
use Rattle.proof_report.specs.Verdicts.{call_count, element_count}
use Rattle.proof_report.specs.Texts.{WitnessFits, CanStand}
use Rattle.report_bytes.specs.Showing.{CanBeShown, IsFit}
use Rattle.check_run.specs.Fitting.{holds_verdict, HasShown}
use Rattle.check_run.specs.Reports.{written_version}

-- the calls of what breaks an obligation are calls
pub calls_are : (d : Specification) (ob : Obligation) (w : World) (r : Reads) (cs : List Call) (es : List ℕ) → BreaksIn d ob w r cs es → list_all (is_call d w) cs ≡ true
calls_are d (Init i) w r [] es b = refl
calls_are d (Init i) w r (a ∷ cs) es b = absurd b
calls_are d (Safety o i) w r [] es b = absurd b
calls_are d (Safety o i) w r (a ∷ []) es b = and_from (is_call d w a) true b.call.fits refl
calls_are d (Safety o i) w r (a ∷ c ∷ cs) es b = absurd b
calls_are d (Commute o p x) w r [] es b = absurd b
calls_are d (Commute o p x) w r (a ∷ []) es b = absurd b
calls_are d (Commute o p x) w r (a ∷ c ∷ []) es b = and_from (is_call d w a) (is_call d w c && true) b.first.fits (and_from (is_call d w c) true b.second.fits refl)
calls_are d (Commute o p x) w r (a ∷ c ∷ e ∷ cs) es b = absurd b
calls_are d (Stable o l p) w r [] es b = absurd b
calls_are d (Stable o l p) w r (a ∷ []) es b = absurd b
calls_are d (Stable o l p) w r (a ∷ c ∷ []) es b = and_from (is_call d w a) (is_call d w c && true) b.first.fits (and_from (is_call d w c) true b.second.fits refl)
calls_are d (Stable o l p) w r (a ∷ c ∷ e ∷ cs) es b = absurd b

calls_fit : (d : Specification) (w : World) (cs : List Call) → list_all (is_call d w) cs ≡ true → list_all (λ c. list_all in_state_range c.args) cs ≡ true → list_all (call_fits d w) cs ≡ true
calls_fit d w [] h k = refl
calls_fit d w (c ∷ cs) h k =
    let a = and_parts (is_call d w c) (list_all (is_call d w) cs) h in
    let b = and_parts (list_all in_state_range c.args) (list_all (λ c. list_all in_state_range c.args) cs) k in
    and_from (call_fits d w c) _ (and_from (is_call d w c) (list_all in_state_range c.args) a.0 b.0) (calls_fit d w cs a.1 b.1)

-- a witness that refutes an obligation fits
refutation_fits : (d : Specification) (ob : Obligation) (w : Witness) → IsRefutation d ob w.world w.state w.calls w.elements → WitnessFits d w
refutation_fits d ob w h = record {
  world = and_from (is_world d w.world) _ h.breaks.world h.sizes;
  state = h.breaks.state;
  calls = calls_fit d w.world w.calls (calls_are d ob w.world (reads w.state) w.calls w.elements h.breaks.broken) h.numbers;
}

-- they are as many as the obligation speaks of
calls_many : (d : Specification) (ob : Obligation) (w : World) (r : Reads) (cs : List Call) (es : List ℕ) → BreaksIn d ob w r cs es → length cs ≡ call_count ob
calls_many d (Init i) w r [] es b = refl
calls_many d (Init i) w r (a ∷ cs) es b = absurd b
calls_many d (Safety o i) w r [] es b = absurd b
calls_many d (Safety o i) w r (a ∷ []) es b = refl
calls_many d (Safety o i) w r (a ∷ c ∷ cs) es b = absurd b
calls_many d (Commute o p x) w r [] es b = absurd b
calls_many d (Commute o p x) w r (a ∷ []) es b = absurd b
calls_many d (Commute o p x) w r (a ∷ c ∷ []) es b = refl
calls_many d (Commute o p x) w r (a ∷ c ∷ e ∷ cs) es b = absurd b
calls_many d (Stable o l p) w r [] es b = absurd b
calls_many d (Stable o l p) w r (a ∷ []) es b = absurd b
calls_many d (Stable o l p) w r (a ∷ c ∷ []) es b = refl
calls_many d (Stable o l p) w r (a ∷ c ∷ e ∷ cs) es b = absurd b

-- elements of places are as many, and small
elements_many : (w : World) (ss es : List ℕ) → fits_places w ss es ≡ true → length es ≡ length ss
elements_many w [] [] h = refl
elements_many w [] (e ∷ es) h = absurd cc
elements_many w (s ∷ ss) [] h = absurd cc
elements_many w (s ∷ ss) (e ∷ es) h = ap (λ n. suc n) (elements_many w ss es (and_parts (nat_lt e (size_of w s)) (fits_places w ss es) h).1)

elements_small : (d : Specification) (w : World) (ss es : List ℕ) → world_fits d w ≡ true → fits_places w ss es ≡ true → list_all (λ n. nat_le n most_count) es ≡ true
elements_small d w [] [] t h = refl
elements_small d w [] (e ∷ es) t h = absurd cc
elements_small d w (s ∷ ss) [] t h = absurd cc
elements_small d w (s ∷ ss) (e ∷ es) t h =
    let p = and_parts (nat_lt e (size_of w s)) (fits_places w ss es) h in
    let a = size_at_most d w t s in
    let b = ltb-true e (size_of w s) p.0 in
    and_from (nat_le e most_count) _ (le-leb e most_count (omega (arith, a, b))) (elements_small d w ss es t p.1)

-- a witness that refutes an obligation can be shown, where its values are in the range of a state
pub refutation_shown : (d : Specification) (ob : Obligation) (w : Witness) → IsRefutation d ob w.world w.state w.calls w.elements → ((k : ℕ) (t : List ℕ) → unsigned_abs ((reads w.state).count k t) ≤ greatest_value) → CanBeShown d ob w
refutation_shown d ob w h values =
    let fits = refutation_fits d ob w h in
    record {
      fits = fits;
      values = values;
      calls = calls_many d ob w.world (reads w.state) w.calls w.elements h.breaks.broken;
      elements = and_from _ _ (eq-eqb (length w.elements) (element_count d ob) (elements_many w.world (elements_of d ob) w.elements h.breaks.elements)) (elements_small d w.world (elements_of d ob) w.elements fits.world h.breaks.elements);
    }

-- ---- verdicts

pub fits_report : (d : Specification) (ob : Obligation) (v : Verdict) → HasShown d ob v → holds_verdict v ≡ true → IsFit d written_version ob v
fits_report d ob (verdicts.Proved log) s h = h
fits_report d ob (verdicts.Refuted w) s h = s
fits_report d ob (verdicts.Undecided causes.Instances) s h = refl
fits_report d ob (verdicts.Undecided (causes.Lines log)) s h = h
fits_report d ob (verdicts.Undecided (causes.Rows e)) s h = h
fits_report d ob (verdicts.Undecided (causes.Range e)) s h = h

pub can_stand : (d : Specification) (ob : Obligation) (v : Verdict) → IsFit d written_version ob v → CanStand d v
can_stand d ob (verdicts.Proved log) f = tt
can_stand d ob (verdicts.Refuted w) f = f.fits
can_stand d ob (verdicts.Undecided cause) f = tt
