use Rattle.std.proofs.Common.{◌≡◌, ◌≤◌, length, Err, sym, ap, ◌∙◌, arith}
use Rattle.parser_combinators.specs.Tokens.{tokens_of}
use Rattle.spec_reader.specs.Reading.{whole_by}
use Rattle.spec_reader.proofs.TreeCode.{left_within}
use Rattle.spec_reader.proofs.Bytes.{is_read, is_only, is_place}
use Rattle.spec_reader.proofs.parsing.parse.Goals as goal

pub returns-in-Ok-whole-clause-found : goal.returns-in-Ok-whole-clause-found
returns-in-Ok-whole-clause-found c =
    let same : c.as_slice.result.now ≡ tokens_of c.args.bytes.now c.args.words.now = c.as_slice.ensures ∙ c.in-Ok.ensures in
    is_read c.args.bytes.now c.args.words.now c.requires c.in-Ok-whole.tree (sym (ap (whole_by 199) same) ∙ c.in-Ok-whole.ensures)

pub overflow_sub-result : goal.overflow_sub-result
overflow_sub-result c =
    let stops : whole_by 199 c.as_slice.result.now ≡ Err c.in-Err-Syntax.left = rw c.in-Err-Syntax.field-0-is at c.in-Err-Syntax.ensures in
    let within = left_within 199 c.as_slice.result.now c.in-Err-Syntax.left stops in
    let same = ap length c.as_slice.ensures in
    omega (arith, within, same, c.len.ensures)

pub returns-clause-only : goal.returns-clause-only
returns-clause-only c =
    let same : c.as_slice.result.now ≡ tokens_of c.args.bytes.now c.args.words.now = c.as_slice.ensures ∙ c.in-Ok.ensures in
    let stops : whole_by 199 c.as_slice.result.now ≡ Err c.in-Err-Syntax.left = rw c.in-Err-Syntax.field-0-is at c.in-Err-Syntax.ensures in
    is_only c.args.bytes.now c.args.words.now c.requires c.in-Err-Syntax.left (sym (ap (whole_by 199) same) ∙ stops)

pub returns-clause-place : goal.returns-clause-place
returns-clause-place c =
    let same : c.as_slice.result.now ≡ tokens_of c.args.bytes.now c.args.words.now = c.as_slice.ensures ∙ c.in-Ok.ensures in
    let stops : whole_by 199 c.as_slice.result.now ≡ Err c.in-Err-Syntax.left = rw c.in-Err-Syntax.field-0-is at c.in-Err-Syntax.ensures in
    let count : c.len.result ≡ length (tokens_of c.args.bytes.now c.args.words.now) = c.len.ensures ∙ ap length c.in-Ok.ensures in
    rw count (is_place c.args.bytes.now c.args.words.now c.requires c.in-Err-Syntax.left (sym (ap (whole_by 199) same) ∙ stops))
