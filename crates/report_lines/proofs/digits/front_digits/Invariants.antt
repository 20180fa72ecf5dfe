use Rattle.std.proofs.Common.{◌≡◌, ℕ, ◌<◌, ◌≤◌, true, get_or, take}
use Rattle.std.specs.List.{list_all}
use Rattle.word_cut.specs.Texts.{is_digit}
use Rattle.word_cut.specs.Whole.{number_of}
use Rattle.report_lines.proofs.digits.front_digits.Given as goal

abbrev pub invariant-loop-place : goal.invariant-loop-place
invariant-loop-place l = record {
  small : l.number ≤ 10000000000000000009;
  before : (k : ℕ) → k < l.place → get_or l.bytes k 0 ≡ 32 → ⊥;
  digits : list_all is_digit (take l.place l.bytes) ≡ true;
  total : number_of (take l.place l.bytes) ≡ l.number;
}
