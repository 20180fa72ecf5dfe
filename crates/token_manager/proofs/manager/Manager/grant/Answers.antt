use Rattle.std.proofs.Common.{List, sym, subst}
use Rattle.token_protocol.specs.declared.granted.Granted.{Granted}
use Rattle.token_manager.specs.Index.{AreUpTo}
use Rattle.token_manager.proofs.Counted.{index_of_more}
use Rattle.token_manager.proofs.manager.Manager.grant.Goals as goal

pub invariant_of-self : goal.invariant_of-self
invariant_of-self c = subst (λ (l : List Granted). AreUpTo l c.self.inside.index) (sym c.in_err-push.ensures.err) c.self.invariant

pub invariant_of-self-2 : goal.invariant_of-self-2
invariant_of-self-2 c =
    subst (λ (l : List Granted). AreUpTo l c.self.inside.index) (sym c.in_ok-push.ensures.ok)
    (index_of_more c.self.inside.granted _ c.self.inside.index c.self.invariant)
