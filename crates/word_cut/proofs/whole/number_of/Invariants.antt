use Rattle.std.proofs.Common.{◌≡◌, ◌≤◌, drop}
use Rattle.word_cut.specs.Whole.{number_of, digits_behind, greatest}
use Rattle.word_cut.proofs.whole.number_of.Given as goal

abbrev pub invariant-loop-byte : goal.invariant-loop-byte
invariant-loop-byte l = record {
  small : l.number ≤ greatest;
  total : number_of l.text ≡ digits_behind l.number (drop l.byte-index l.text);
}
