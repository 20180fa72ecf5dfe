use Rattle.std.proofs.Common.{◌≡◌, map, take}
use Rattle.needed_clauses.specs.Renaming.{number_in, lit_by}
use Rattle.needed_clauses.proofs.renumbering.lits_in.Given as goal

abbrev pub invariant-loop-lit : goal.invariant-loop-lit
invariant-loop-lit l = l.renamed ≡ map (lit_by (number_in l.atoms l.whole)) (take l.lit-index l.lits)
