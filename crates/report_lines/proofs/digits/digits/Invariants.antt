use Rattle.std.proofs.Common.{◌≡◌, ◌≤◌, drop}
use Rattle.std.specs.List.{list_all}
use Rattle.word_cut.specs.Texts.{is_digit}
use Rattle.word_cut.specs.Whole.{number_of, digits_behind}
use Rattle.report_lines.proofs.digits.digits.Given as goal

abbrev pub invariant-loop-byte : goal.invariant-loop-byte
invariant-loop-byte l = record {
  small : l.number ≤ 10000000000000000009;
  spelled : list_all is_digit l.text ≡ list_all is_digit (drop l.byte-index l.text);
  total : number_of l.text ≡ digits_behind l.number (drop l.byte-index l.text);
}
