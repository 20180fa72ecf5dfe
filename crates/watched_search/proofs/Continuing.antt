use Rattle.std.proofs.Common.{◌≡◌, ℕ, Bool, ◌⊎◌, inl, inr, List, length, sym, subst}
use Rattle.proof_lines.specs.declared.clause.Lit.{Lit}
use Rattle.sat_core.specs.Trails.{NoneFalse}
use Rattle.sat_core.specs.declared.checking.Outcome.{Outcome}
use Rattle.sat_core.specs.declared.checking.Outcome.TheVariants.{Continue, Refuted, Found as OfFound, BudgetExhausted, Rows, Range, Memory}
use Rattle.sat_core.specs.declared.analyzing.Analyzed.{Analyzed}
use Rattle.sat_core.specs.declared.analyzing.Analyzed.TheVariants.{Empty, Cut, BudgetExhausted as ExhaustedThere, Memory as NoMemory}
use Rattle.sat_core.specs.declared.state.SearchState.{SearchState}
use Rattle.sat_core.specs.Searching.{Aim, IsBackjump, IsAnalyzed}
use Rattle.sat_core.specs.Outcomes.{IsOutcome, outcome_of, IfContinue, IsStay}
use Rattle.unit_propagation.specs.declared.watches.Watches.{Watches}
use Rattle.unit_propagation.specs.Watches.{AllKept, AreAtRest}
use Rattle.unit_propagation.specs.Ready.{MayContinue}
use Rattle.watched_search.specs.Conflicts.{IsMet}
use Rattle.unit_propagation.proofs.Changing.{jumped, stayed}

-- Where a search continues.

pub analyzed-continue : (e : Analyzed) (budget : ℕ) (s : SearchState) (i : ℕ) (r : SearchState) (w : Watches) → IsMet budget s i → AllKept s.grown.clauses s.trail w → IsAnalyzed e budget s i r → IfContinue (outcome_of e) (MayContinue r.grown.clauses r.trail w)
analyzed-continue Empty budget s i r w m a h = tt
analyzed-continue Cut budget s i r w m a h =
    let y = h m.aim m.before m.chain in
    (y.0.keeps.few_clauses, jumped s.grown.clauses s.trail r.grown.clauses r.trail w a (subst (λ (z : List (List Lit)). IsBackjump z s.trail r.grown.clauses r.trail) m.whole y.2))
analyzed-continue ExhaustedThere budget s i r w m a h = tt
analyzed-continue NoMemory budget s i r w m a h = tt

-- where the solver of rows was asked
pub checked-continue : (o : Outcome) (a : Aim) (stop : Bool) (budget : ℕ) (s r : SearchState) (w : Watches) → IsOutcome o a stop budget s r → AllKept s.grown.clauses s.trail w → AreAtRest (length s.grown.clauses) s.trail w
    → NoneFalse s.trail s.grown.clauses → IfContinue o (IsStay s r) → IfContinue o (MayContinue r.grown.clauses r.trail w)
checked-continue Continue a stop budget s r w h k b n y = (h.0.keeps.few_clauses, stayed s r w k b n y)
checked-continue Refuted a stop budget s r w h k b n y = tt
checked-continue (OfFound i) a stop budget s r w h k b n y = tt
checked-continue BudgetExhausted a stop budget s r w h k b n y = tt
checked-continue (Rows used steps) a stop budget s r w h k b n y = tt
checked-continue (Range used steps what) a stop budget s r w h k b n y = tt
checked-continue Memory a stop budget s r w h k b n y = tt

-- the outcome stays, or memory is wanting
outcome_or_memory : (o n : Outcome) (a : Aim) (stop : Bool) (budget : ℕ) (s r : SearchState) → IsOutcome o a stop budget s r → (n ≡ o) ⊎ (n ≡ Memory) → IsOutcome n a stop budget s r
outcome_or_memory o n a stop budget s r h (inl e) = subst (λ (z : Outcome). IsOutcome z a stop budget s r) (sym e) h
outcome_or_memory o n a stop budget s r h (inr e) = subst (λ (z : Outcome). IsOutcome z a stop budget s r) (sym e) tt

-- and so does the state
pub outcome_stays : (o n : Outcome) (a : Aim) (stop : Bool) (budget : ℕ) (s r u : SearchState) → IsOutcome o a stop budget s r → (n ≡ o) ⊎ (n ≡ Memory) → u ≡ r → IsOutcome n a stop budget s u
outcome_stays o n a stop budget s r u h e f = subst (λ (z : SearchState). IsOutcome n a stop budget s z) (sym f) (outcome_or_memory o n a stop budget s r h e)
