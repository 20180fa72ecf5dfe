use Rattle.std.proofs.Common.{◌≡◌, ◌∙◌, ap, vec_len, Vec, Global, ℕ}
use Rattle.spec_core.specs.State.{is_rising}
use Rattle.spec_states.proofs.Entries.{cloned_tuples}
use Rattle.spec_states.proofs.listed.Tuples.copy.Goals as goal

pub invariant_of-result : goal.invariant_of-result
invariant_of-result c = ap is_rising (cloned_tuples (λ (v w : Vec ℕ Global). vec_len w ≡ vec_len v) c.self.inside.keys.keys c.in_ok-clone.field-0.keys c.in_ok-clone.ensures.cases) ∙ c.self.invariant

pub returns : goal.returns
returns c = cloned_tuples (λ (v w : Vec ℕ Global). vec_len w ≡ vec_len v) c.self.inside.keys.keys c.in_ok-clone.field-0.keys c.in_ok-clone.ensures.cases ∙ c.self.view_is
