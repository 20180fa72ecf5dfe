use Rattle.std.proofs.Common.{◌≡◌, ℕ, ◌<◌, true, [], length, get_or, None, sym, ◌∙◌, ap}
use Rattle.std.specs.Prelude.{is_none}
use Rattle.spec_core.specs.declared.spec.Invariant.{Invariant}
use Rattle.spec_core.specs.declared.world.World.{World}
use Rattle.spec_core.specs.Specification.{Specification}
use Rattle.spec_core.specs.State.{Reads}
use Rattle.spec_core.specs.Truth.{line_true}
use Rattle.spec_core.specs.Meaning.{broken_at}
use Rattle.spec_core.proofs.Lists.{list_all-within}
use Rattle.spec_core.proofs.Positions.{position_none}

-- where no invariant is broken, each is true
pub each_true : (d : Specification) (w : World) (r : Reads) → broken_at d w r ≡ None → (i : ℕ) (it : Invariant) → i < length d.invariants → line_true w r [] (get_or d.invariants i it).line ≡ true
each_true d w r h i it lt =
    list_all-within (λ (x : Invariant). line_true w r [] x.line) d.invariants (sym (position_none (λ (x : Invariant). line_true w r [] x.line) 0 d.invariants) ∙ ap is_none h) i it lt
