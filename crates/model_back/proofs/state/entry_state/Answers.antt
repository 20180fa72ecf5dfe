use Rattle.std.proofs.Common.{ℕ, ℤ, Bool, false, pos, List, slice_index, slice_index_or, ◌∙◌, ap}
use Rattle.std.proofs.lemmas.Bool.{and_parts}
use Rattle.spec_core.specs.State.{reads}
use Rattle.model_back.specs.Filling.{filled, filled_integers}
use Rattle.model_back.proofs.Scanning.{lists_sized, values_sized}
use Rattle.model_back.proofs.state.entry_state.Goals as goal

pub fill_atoms-requires : goal.fill_atoms-requires
fill_atoms-requires c = lists_sized c.args.world.now c.args.spec.now.relations c.in_ok-state.state.relations (and_parts _ _ c.in_ok-state.ensures.fits).0

pub fill_integers-requires-clause-counters : goal.fill_integers-requires-clause-counters
fill_integers-requires-clause-counters c = c.fill_atoms.ensures.counters ∙ values_sized c.args.world.now c.args.spec.now.counters c.in_ok-state.state.counters (and_parts _ _ c.in_ok-state.ensures.fits).1

pub returns-clause-reads : goal.returns-clause-reads
returns-clause-reads c =
    let d = c.args.spec.now in
    let val = slice_index c.args.elements.now in
    let atoms = c.args.atoms.now.table.atoms in
    let ints = c.args.atoms.now.table.ints in
    c.in_ok-fill_integers.ensures.reads
    ∙ ap (λ (vs : List ℤ). filled_integers d val (λ (n : ℕ). slice_index_or vs n (pos 0)) 0 ints (reads c.fill_atoms.new.state)) c.as_slice-2.ensures
    ∙ ap (filled_integers d val (λ (n : ℕ). slice_index_or c.args.found.now.ints n (pos 0)) 0 ints)
    (c.in_ok-fill_atoms.ensures.reads
    ∙ ap (λ (ts : List Bool). filled d val (λ (n : ℕ). slice_index_or ts n false) 0 atoms (reads c.in_ok-state.state)) c.as_slice.ensures
    ∙ ap (filled d val (λ (n : ℕ). slice_index_or c.args.found.now.truths n false) 0 atoms) c.in_ok-state.ensures.reads)
