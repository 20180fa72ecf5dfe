use Rattle.std.proofs.Common.{◌≡◌, true, ◌∷◌, [], ◌++◌, length, take}
use Rattle.spec_core.specs.State.{reads}
use Rattle.spec_core.specs.Choices.{all_below, all_choices}
use Rattle.obligation_list.specs.Starting.{starts_at}
use Rattle.obligation_list.proofs.initial.+starts_behind.Given as goal

abbrev pub decreases-starts_behind : goal.decreases-starts_behind
decreases-starts_behind l = length l.sorts.now

abbrev pub invariant-loop-element : goal.invariant-loop-element
invariant-loop-element l = all_below l.element (λ e. all_choices l.world (take l.count l.chosen ++ e ∷ []) l.sorts (λ t. starts_at l.spec l.thing t (reads l.state))) ≡ true
