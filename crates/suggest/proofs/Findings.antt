-- What obligations come to, with one more before them.
use Rattle.std.proofs.Common.{ℕ, inl, inr, List, [], ◌∷◌, ◌++◌, refl, ap, subst}
use Rattle.std.specs.List.{Contains}
use Rattle.std.proofs.lemmas.List.Elements.{Contains-append_cases}
use Rattle.spec_core.specs.Specification.{Specification}
use Rattle.obligation_list.specs.declared.obligation.Obligation.{Obligation}
use Rattle.obligation_list.specs.declared.witness.Witness.{Witness}
use Rattle.proof_report.specs.declared.verdict.Cause.{Cause}
use Rattle.proof_report.specs.Verdicts.{refuted}
use Rattle.report_bytes.specs.Showing.{shown_by, shown_cause}
use Rattle.check_run.specs.Good.{IsGood}
use Rattle.suggest.specs.Answers.{HasProof, HasNoRefutation, IsFound}
use Rattle.suggest.specs.declared.answer.Found.{Found}
use Rattle.suggest.specs.declared.answer.Found.TheVariants as found
use Rattle.suggest.proofs.Cons.{nowhere, cons_cases}

-- a fact of a list and of one more
each : (P : Obligation → Type 0) (ob : Obligation) (obs : List Obligation) → P ob → ((x : Obligation) → Contains obs x → P x) → (x : Obligation) → Contains (ob ∷ obs) x → P x
each P ob obs h all x m = elim (cons_cases ob obs x m) [ inl e ↦ subst P e h | inr r ↦ all x r ]

none : (P : Obligation → Type 0) (x : Obligation) → Contains [] x → P x
none P x m = absurd (nowhere x m)

module _ (d : Specification) (budget : ℕ) where
  -- behind a proved one
  pub behind_proved : (ob : Obligation) (obs : List Obligation) (f : Found) → HasProof d budget ob → IsFound d budget obs f → IsFound d budget (ob ∷ obs) f
  behind_proved ob obs found.Proved g h = each (HasProof d budget) ob obs g h
  behind_proved ob obs (found.Refuted o w) g h = record {
    before = ob ∷ h.before;
    behind = h.behind;
    listed = ap (λ os. ob ∷ os) h.listed;
    earlier = each (HasNoRefutation d budget) ob h.before (inl g) h.earlier;
    refutes = h.refutes;
  }
  behind_proved ob obs (found.Undecided o cause) g h = record {
    before = ob ∷ h.before;
    behind = h.behind;
    listed = ap (λ os. ob ∷ os) h.listed;
    earlier = each (HasProof d budget) ob h.before g h.earlier;
    evidence = h.evidence;
    later = h.later;
  }

  -- a refuted one
  pub at_refuted : (ob : Obligation) (w : Witness) (obs : List Obligation) → IsGood d budget ob (refuted (shown_by d w) w.elements) → IsFound d budget (ob ∷ obs) (found.Refuted ob w)
  at_refuted ob w obs g = record {
    before = [];
    behind = obs;
    listed = refl;
    earlier = none (HasNoRefutation d budget);
    refutes = g;
  }

  -- an undecided one, behind which none is refuted
  pub before_proved : (ob : Obligation) (cause : Cause) (obs : List Obligation) → IsGood d budget ob (shown_cause cause) → IsFound d budget obs found.Proved → IsFound d budget (ob ∷ obs) (found.Undecided ob cause)
  before_proved ob cause obs g h = record {
    before = [];
    behind = obs;
    listed = refl;
    earlier = none (HasProof d budget);
    evidence = g;
    later = λ x m. inl (h x m);
  }

  in_parts : (P : Obligation → Type 0) (before behind : List Obligation) (o : Obligation) → ((x : Obligation) → Contains before x → P x) → P o → ((x : Obligation) → Contains behind x → P x) → (x : Obligation) → Contains (before ++ o ∷ behind) x → P x
  in_parts P before behind o early here late x m = elim (Contains-append_cases before (o ∷ behind) x m) [ inl l ↦ early x l | inr r ↦ each P o behind here late x r ]

  pub before_undecided : (ob : Obligation) (cause : Cause) (obs : List Obligation) (o : Obligation) (other : Cause) → IsGood d budget ob (shown_cause cause) → IsFound d budget obs (found.Undecided o other) → IsFound d budget (ob ∷ obs) (found.Undecided ob cause)
  before_undecided ob cause obs o other g h = record {
    before = [];
    behind = obs;
    listed = refl;
    earlier = none (HasProof d budget);
    evidence = g;
    later = λ x m.
        in_parts (HasNoRefutation d budget) h.before h.behind o (λ y k. inl (h.earlier y k)) (inr (other, h.evidence)) h.later x
        (subst (λ (os : List Obligation). Contains os x) h.listed m);
  }

  -- a refuted one behind an undecided one
  pub behind_undecided : (ob : Obligation) (cause : Cause) (obs : List Obligation) (o : Obligation) (w : Witness) → IsGood d budget ob (shown_cause cause) → IsFound d budget obs (found.Refuted o w) → IsFound d budget (ob ∷ obs) (found.Refuted o w)
  behind_undecided ob cause obs o w g h = record {
    before = ob ∷ h.before;
    behind = h.behind;
    listed = ap (λ os. ob ∷ os) h.listed;
    earlier = each (HasNoRefutation d budget) ob h.before (inr (cause, g)) h.earlier;
    refutes = h.refutes;
  }
