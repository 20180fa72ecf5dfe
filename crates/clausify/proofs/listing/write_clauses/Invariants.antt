use Rattle.std.proofs.Common.{◌≡◌, ◌+◌, ◌++◌, map, drop}
use Rattle.ground_numbers.specs.Clauses.{all_clauses, all_names}
use Rattle.ground_atoms.specs.Formulas.{form_of}
use Rattle.clausify.proofs.listing.write_clauses.Given as goal

abbrev pub invariant-loop-form : goal.invariant-loop-form
invariant-loop-form l = record {
  made : l.fn.out ++ all_clauses l.next (map form_of l.forms) ≡ l.out ++ all_clauses l.at (map form_of (drop l.form-index l.forms));
  named : l.next + all_names (map form_of l.forms) ≡ l.at + all_names (map form_of (drop l.form-index l.forms));
}
