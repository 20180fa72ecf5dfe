use Rattle.std.proofs.Common.{◌≡◌, ◌∙◌, ap, vec_len, Vec, Global, ℕ}
use Rattle.spec_core.specs.Fits.{is_counts}
use Rattle.spec_states.proofs.Entries.{cloned_counts}
use Rattle.spec_states.proofs.listed.Counts.copy.Goals as goal

pub invariant_of-result : goal.invariant_of-result
invariant_of-result c = ap is_counts (cloned_counts (λ (v w : Vec ℕ Global). vec_len w ≡ vec_len v) c.self.inside.entries.entries c.in_ok-clone.field-0.entries c.in_ok-clone.ensures.cases) ∙ c.self.invariant

pub returns : goal.returns
returns c = cloned_counts (λ (v w : Vec ℕ Global). vec_len w ≡ vec_len v) c.self.inside.entries.entries c.in_ok-clone.field-0.entries c.in_ok-clone.ensures.cases ∙ c.self.view_is
