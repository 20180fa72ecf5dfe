use Rattle.std.proofs.Common.{◌∙◌, ap, ℕ, false, slice_index, slice_index_or}
use Rattle.spec_core.specs.State.{reads}
use Rattle.ground_atoms.specs.Symbols.{atom_of}
use Rattle.model_back.specs.Filling.{fill_atom}
use Rattle.model_back.proofs.Scanning.{filled_on, filled_all, atoms_fit_on}
use Rattle.model_back.proofs.state.fill_atoms.Goals as goal

pub returns-in_default-clause-reads : goal.returns-in_default-clause-reads
returns-in_default-clause-reads c =
    filled_all c.args.spec.now (slice_index c.args.elements.now) (λ (n : ℕ). slice_index_or c.args.truths.now n false) c.args.atoms.now.table.atoms c.loop-n.n _ (reads c.loop-n.state) c.loop-n.invariant.reads c.in_default.ensures

pub loop-n-preserved : goal.loop-n-preserved
loop-n-preserved c =
    let d = c.args.spec.now in
    let val = slice_index c.args.elements.now in
    let v = λ (n : ℕ). slice_index_or c.args.truths.now n false in
    let xs = c.args.atoms.now.table.atoms in
    let x = atom_of c.in-Some.atom.now in
    record {
      reads = filled_on d val v xs c.loop-n.n x _ (reads c.loop-n.state) (reads c.put_atom.new.state) c.loop-n.invariant.reads c.in-Some.ensures (c.in_ok-put_atom.ensures.reads ∙ ap (λ b. fill_atom d val b x (reads c.loop-n.state)) c.truth_of.ensures);
      relations = c.put_atom.ensures.relations ∙ c.loop-n.invariant.relations;
      counters = c.put_atom.ensures.counters ∙ c.loop-n.invariant.counters;
      fits = λ w s k. (let p = c.loop-n.invariant.fits w s k in let q = atoms_fit_on d w val xs c.loop-n.n x p.1 c.in-Some.ensures in (c.put_atom.ensures.fits w p.0 q.0, q.1));
    }
