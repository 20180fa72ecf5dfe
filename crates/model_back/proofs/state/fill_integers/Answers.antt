use Rattle.std.proofs.Common.{◌∙◌, ap, ℕ, pos, slice_index, slice_index_or, FitsSigned, w64, rules}
use Rattle.std.proofs.lemmas.Int.{to_z-of_z}
use Rattle.spec_core.specs.State.{reads}
use Rattle.ground_atoms.specs.Symbols.{integer_of}
use Rattle.model_back.specs.Filling.{fill_integer}
use Rattle.model_back.proofs.Scanning.{filled_integers_on, filled_integers_all, integers_fit_on}
use Rattle.model_back.proofs.state.fill_integers.Goals as goal

pub returns-in_default-clause-reads : goal.returns-in_default-clause-reads
returns-in_default-clause-reads c =
    filled_integers_all c.args.spec.now (slice_index c.args.elements.now) (λ (n : ℕ). slice_index_or c.args.values.now n (pos 0)) c.args.atoms.now.table.ints c.loop-n.n _ (reads c.loop-n.state) c.loop-n.invariant.reads c.in_default.ensures

pub loop-n-preserved : goal.loop-n-preserved
loop-n-preserved c =
    let d = c.args.spec.now in
    let val = slice_index c.args.elements.now in
    let v = λ (n : ℕ). slice_index_or c.args.values.now n (pos 0) in
    let xs = c.args.atoms.now.table.ints in
    let f : FitsSigned w64 c.value_of-value.result = search rules in
    let x = integer_of c.in-Some.name.now in
    record {
      reads = filled_integers_on d val v xs c.loop-n.n x _ (reads c.loop-n.state) (reads c.put_integer.new.state) c.loop-n.invariant.reads c.in-Some.ensures (c.in_ok-put_integer.ensures.reads ∙ ap (λ b. fill_integer d val b x (reads c.loop-n.state)) (to_z-of_z w64 c.value_of-value.result f ∙ c.value_of-value.ensures.value));
      counters = c.put_integer.ensures.counters ∙ c.loop-n.invariant.counters;
      fits = λ w s k. (let p = c.loop-n.invariant.fits w s k in let q = integers_fit_on d w val xs c.loop-n.n x p.1 c.in-Some.ensures in (c.put_integer.ensures.fits w p.0 q.0, q.1));
    }
