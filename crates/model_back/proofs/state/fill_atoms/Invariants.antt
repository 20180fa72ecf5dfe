use Rattle.std.proofs.Common.{◌≡◌, ℕ, true, false, drop, length, slice_index, slice_index_or}
use Rattle.spec_core.specs.declared.world.World.{World}
use Rattle.spec_core.specs.State.{reads}
use Rattle.spec_core.specs.Fits.{is_state}
use Rattle.model_back.specs.Filling.{filled, AtomsFit}
use Rattle.model_back.proofs.state.fill_atoms.Given as goal

abbrev pub invariant-loop-n : goal.invariant-loop-n
invariant-loop-n l = record {
  reads : filled l.spec (slice_index l.elements) (λ (n : ℕ). slice_index_or l.truths n false) 0 l.atoms.table.atoms (reads l.fn.state) ≡ filled l.spec (slice_index l.elements) (λ (n : ℕ). slice_index_or l.truths n false) l.n (drop l.n l.atoms.table.atoms) (reads l.state);
  relations : length l.state.relations ≡ length l.fn.state.relations;
  counters : length l.state.counters ≡ length l.fn.state.counters;
  fits : (w : World) → is_state l.spec w l.fn.state ≡ true → AtomsFit l.spec w (slice_index l.elements) l.atoms.table.atoms → (is_state l.spec w l.state ≡ true) × AtomsFit l.spec w (slice_index l.elements) (drop l.n l.atoms.table.atoms);
}
