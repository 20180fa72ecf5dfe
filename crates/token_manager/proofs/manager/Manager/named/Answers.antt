use Rattle.std.proofs.Common.{List, sym, subst}
use Rattle.token_protocol.specs.declared.granted.Granted.{Granted}
use Rattle.token_manager.specs.Index.{AreUpTo}
use Rattle.token_manager.proofs.manager.Manager.named.Goals as goal

pub catch_up-requires : goal.catch_up-requires
catch_up-requires c = record { index = subst (λ (l : List Granted). AreUpTo l c.self.inside.index) (sym c.as_slice-granted.ensures) c.self.invariant }

pub invariant_of-self : goal.invariant_of-self
invariant_of-self c = subst (λ (l : List Granted). AreUpTo l c.catch_up.new.self) c.as_slice-granted.ensures c.catch_up.ensures.index

pub invariant_of-self-2 : goal.invariant_of-self-2
invariant_of-self-2 c = subst (λ (l : List Granted). AreUpTo l c.catch_up.new.self) c.as_slice-granted.ensures c.catch_up.ensures.index
