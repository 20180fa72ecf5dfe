use Rattle.std.proofs.Common.{◌≡◌, ◌<◌, ◌%◌, take}
use Rattle.std.specs.List.{fold}
use Rattle.elimination.specs.Fingerprints.{fingerprint_limit, mixed, number_part}
use Rattle.elimination.proofs.held.fingerprint.Given as goal

abbrev pub invariant-loop-term : goal.invariant-loop-term
invariant-loop-term l = (l.so_far < fingerprint_limit) × (l.so_far ≡ fold mixed (number_part l.row.bound % fingerprint_limit) (take l.term-index l.row.terms))
