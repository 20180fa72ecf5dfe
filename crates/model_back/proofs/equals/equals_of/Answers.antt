use Rattle.std.proofs.Common.{◌++◌, ap, ◌∙◌, ℕ, false, slice_index_or}
use Rattle.ground_atoms.specs.Symbols.{atom_of}
use Rattle.model_back.specs.Equals.{equal_of}
use Rattle.model_back.proofs.Scanning.{equals_on, equals_all}
use Rattle.model_back.proofs.equals.equals_of.Goals as goal

pub returns-in_default : goal.returns-in_default
returns-in_default c = equals_all (λ (n : ℕ). slice_index_or c.args.truths.now n false) c.args.atoms.now.table.atoms c.loop-n.equals.items c.loop-n.n c.loop-n.invariant c.in_default.ensures

pub loop-n-preserved : goal.loop-n-preserved
loop-n-preserved c = equals_on (λ (n : ℕ). slice_index_or c.args.truths.now n false) c.args.atoms.now.table.atoms c.loop-n.equals.items c.list_equal.new.equals.items c.loop-n.n (atom_of c.in-Some.atom.now) c.loop-n.invariant c.in-Some.ensures
    (c.in_ok-list_equal.ensures ∙ ap (λ b. c.loop-n.equals.items ++ equal_of b (atom_of c.in-Some.atom.now)) c.truth_of.ensures)
