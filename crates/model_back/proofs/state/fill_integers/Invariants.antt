use Rattle.std.proofs.Common.{◌≡◌, ℕ, true, pos, drop, length, slice_index, slice_index_or}
use Rattle.spec_core.specs.declared.world.World.{World}
use Rattle.spec_core.specs.State.{reads}
use Rattle.spec_core.specs.Fits.{is_state}
use Rattle.model_back.specs.Filling.{filled_integers, IntegersFit}
use Rattle.model_back.proofs.state.fill_integers.Given as goal

abbrev pub invariant-loop-n : goal.invariant-loop-n
invariant-loop-n l = record {
  reads : filled_integers l.spec (slice_index l.elements) (λ (n : ℕ). slice_index_or l.values n (pos 0)) 0 l.atoms.table.ints (reads l.fn.state) ≡ filled_integers l.spec (slice_index l.elements) (λ (n : ℕ). slice_index_or l.values n (pos 0)) l.n (drop l.n l.atoms.table.ints) (reads l.state);
  counters : length l.state.counters ≡ length l.fn.state.counters;
  fits : (w : World) → is_state l.spec w l.fn.state ≡ true → IntegersFit l.spec w (slice_index l.elements) l.atoms.table.ints → (is_state l.spec w l.state ≡ true) × IntegersFit l.spec w (slice_index l.elements) (drop l.n l.atoms.table.ints);
}
