use Rattle.std.proofs.Common.{◌≡◌, true, false, ◌++◌, ◌∷◌, [], map, refl, sym, ap, ◌∙◌}
use Rattle.std.proofs.lemmas.Result.{err_from_is_err_and}
use Rattle.std.proofs.lemmas.List.{map_push}
use Rattle.spec_trees.specs.Form.{line_of}
use Rattle.parser_combinators.specs.Words.{next, seen}
use Rattle.spec_reader.specs.Reading.{starts_line, line_at, lines_at}
use Rattle.parser_combinators.proofs.Loop.{goes_on, ends, is_done}
use Rattle.spec_reader.proofs.Shrinking.{line_shrinks, lines_end}
use Rattle.spec_reader.proofs.lines.lines.Goals as goal

pub returns-in_err-line : goal.returns-in_err-line
unfolding lines_at
returns-in_err-line c =
    let p = err_from_is_err_and c.from_residual.result c.from_residual.ensures.1 in
    let so : starts_line c.args.version (next (seen c.lines.rest.now)) ≡ true = sym (ap (starts_line c.args.version) c.next_kind.ensures) ∙ sym c.starts_line.ensures ∙ c.lines-test.true in
    rw (p.1, p.2) (ends (starts_line c.args.version) (line_at c.args.version c.args.depth) (line_shrinks c.args.version c.args.depth) (lines_end c.args.version) c.in_err-line.field-0.0 (map line_of c.lines.lines) c.lines.rest.now (lines_at c.args.version c.args.depth c.args.tokens.now) so c.in_err-line.ensures c.lines.invariant)

pub lines-smaller : goal.lines-smaller
lines-smaller c = (line_shrinks c.args.version c.args.depth).at c.lines.rest.now (line_of c.in_ok-line.line) c.in_ok-line.after.now c.in_ok-line.ensures

pub lines-preserved : goal.lines-preserved
unfolding lines_at
lines-preserved c =
    let so : starts_line c.args.version (next (seen c.lines.rest.now)) ≡ true = sym (ap (starts_line c.args.version) c.next_kind.ensures) ∙ sym c.starts_line.ensures ∙ c.lines-test.true in
    let pushed : map line_of c.push.new.self ≡ map line_of c.lines.lines ++ line_of c.in_ok-line.line ∷ [] = rw c.in_ok-push.ensures.ok (map_push line_of c.lines.lines c.in_ok-line.line) in
    rw pushed (goes_on (starts_line c.args.version) (line_at c.args.version c.args.depth) (line_shrinks c.args.version c.args.depth) (lines_end c.args.version) (map line_of c.lines.lines) c.lines.rest.now (line_of c.in_ok-line.line) c.in_ok-line.after.now (lines_at c.args.version c.args.depth c.args.tokens.now) so c.in_ok-line.ensures c.lines.invariant)

pub returns : goal.returns
unfolding lines_at
returns c =
    let off : starts_line c.args.version (next (seen c.lines.rest.now)) ≡ false = sym (ap (starts_line c.args.version) c.next_kind.ensures) ∙ sym c.starts_line.ensures ∙ c.lines-test.false in
    is_done (starts_line c.args.version) (line_at c.args.version c.args.depth) (line_shrinks c.args.version c.args.depth) (lines_end c.args.version) (map line_of c.lines.lines) c.lines.rest.now (lines_at c.args.version c.args.depth c.args.tokens.now) off c.lines.invariant
