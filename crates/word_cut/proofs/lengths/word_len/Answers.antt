use Rattle.std.proofs.Common.{◌≡◌, suc, true, false, nat_eq, get_or, arith}
use Rattle.word_cut.specs.Texts.{is_letter, is_digit}
use Rattle.word_cut.proofs.Gaps.{neq}
use Rattle.word_cut.proofs.Longest.{IsWordFront-name, IsWordFront-number, IsWordFront-whole}
use Rattle.word_cut.proofs.lengths.word_len.Goals as goal

pub returns-then-is_letter : goal.returns-then-is_letter
returns-then-is_letter c =
    let e : is_letter (get_or c.args.bytes.now 0 0) ≡ true = cc in
    IsWordFront-whole c.args.bytes.now (suc c.name_run.result) _ c.in-len1-up.len_at_least (IsWordFront-name _ _ _ e c.name_run.ensures) (omega arith)

pub returns-then-is_digit : goal.returns-then-is_digit
returns-then-is_digit c =
    let e : is_digit (get_or c.args.bytes.now 0 0) ≡ true = cc in
    let z : nat_eq (get_or c.args.bytes.now 0 0) 48 ≡ false = neq _ 48 c.if-first-eq48.false in
    IsWordFront-whole c.args.bytes.now (suc c.digit_run.result) _ c.in-len1-up.len_at_least (IsWordFront-number _ _ _ e z c.digit_run.ensures) (omega arith)
