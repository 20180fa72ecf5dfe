use Rattle.std.proofs.Common.{◌≡◌, map}
use Rattle.needed_clauses.specs.Renaming.{number_in, line_by}
use Rattle.needed_clauses.proofs.renumbering.renumbered.Given as goal

abbrev pub invariant-loop-line : goal.invariant-loop-line
invariant-loop-line l = l.lines ≡ map (line_by (number_in l.clauses l.many) (number_in l.atoms l.whole)) l.yielded
