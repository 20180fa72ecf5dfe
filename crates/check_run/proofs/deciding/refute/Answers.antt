use Rattle.proof_lines.specs.Problems.{meaning_of}
use Rattle.check_run.proofs.deciding.refute.Goals as goal

pub witness_of-requires-clause-found : goal.witness_of-requires-clause-found
witness_of-requires-clause-found c = c.law_clauses_make_formulas_true.ensures c.args.spec.now c.args.ob.now (meaning_of c.args.found.now) c.requires.found.makes_true
