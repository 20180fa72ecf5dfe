use Rattle.std.proofs.Common.{◌≡◌, drop, true, ◌+ℤ◌}
use Rattle.lin_rows.specs.Numbers.{in_range}
use Rattle.ground_numbers.specs.Numbers.{plain_of}
use Rattle.ground_atoms.specs.Symbols.{parts_of}
use Rattle.ground_atoms.proofs.rows.plain_of.Given as goal

abbrev pub invariant-loop-part : goal.invariant-loop-part
invariant-loop-part l = record {
  sum : l.sum +ℤ plain_of (parts_of (drop l.part-index l.parts)) ≡ plain_of (parts_of l.parts);
  range : in_range l.sum ≡ true;
}
