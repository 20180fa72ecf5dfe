use Rattle.std.proofs.Common.{sym, ◌∙◌}
use Rattle.proof_lines.specs.Problems.{meaning_of}
use Rattle.model_back.proofs.witness.witness_of.Goals as goal

pub witness_with-requires-clause-satisfied : goal.witness_with-requires-clause-satisfied
witness_with-requires-clause-satisfied c = sym (c.law_numbers_are_names.ensures c.args.spec.now c.args.ob.now (meaning_of c.args.found.now)) ∙ c.requires.found
