-- What is answered is the least fault, or that there is none.
use Rattle.std.proofs.Common.{◌≡◌, ◌↔◌, Result, Ok, Err}
use Rattle.std.specs.Prelude.{IfOk, IfErr}
use Rattle.spec_core.specs.Specification.{Specification}
use Rattle.spec_trees.specs.Form.{TreeForm}
use Rattle.typing_rules.specs.Fault.{Fault, unknown_fault, twice_fault, kind_fault, count_fault, limit_fault}
use Rattle.typing_rules.specs.Items.{typing}
use Rattle.typing_rules.specs.FaultRules.{IsTypingOf}
use Rattle.spec_types.specs.declared.refusal.TypeRefused.{TypeRefused}
use Rattle.spec_types.specs.declared.refusal.TypeRefused.TheVariants as refused
use Rattle.spec_types.specs.Refusals.{IsTypeRefusal, IsLeastRefusal}

module _ (t : TreeForm) (law : (r : Result Specification Fault) → IsTypingOf t r ↔ (typing t ≡ r)) where
  least_refusal : (e : TypeRefused) → IsTypeRefusal (typing t) e → IsLeastRefusal t e
  least_refusal (refused.Unknown n w) h = (law (Err (unknown_fault n w))).1 h
  least_refusal (refused.Twice n w) h = (law (Err (twice_fault n w))).1 h
  least_refusal (refused.Kind n w) h = (law (Err (kind_fault n w))).1 h
  least_refusal (refused.Count n w) h = (law (Err (count_fault n w))).1 h
  least_refusal (refused.Limit which number w) h = (law (Err (limit_fault which number w))).1 h
  least_refusal refused.Memory h = tt

  pub if_faultless : {E : Type 0} (r : Result Specification E) → IfOk r (λ d. typing t ≡ Ok d) → IfOk r (λ d. IsTypingOf t (Ok d))
  if_faultless (Ok d) h = (law (Ok d)).1 h
  if_faultless (Err e) h = tt

  pub if_least : {D : Type 0} (r : Result D TypeRefused) → IfErr r (IsTypeRefusal (typing t)) → IfErr r (IsLeastRefusal t)
  if_least (Ok d) h = tt
  if_least (Err e) h = least_refusal e h
