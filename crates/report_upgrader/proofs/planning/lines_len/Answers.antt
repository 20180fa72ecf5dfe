use Rattle.std.proofs.Common.{◌<◌, length, ◌∙◌, arith}
use Rattle.report_upgrader.proofs.LogBytes.{place_within, place_step}
use Rattle.report_upgrader.proofs.planning.lines_len.Goals as goal

pub place_behind-place-requires : goal.place_behind-place-requires
place_behind-place-requires c =
    let lt = c.lines-test.true in
    let many = c.requires.many in
    let inside : c.lines.taken < length c.args.notes.now = omega (arith, lt, many) in
    place_within c.args.notes.now c.lines.taken c.index-notes-taken.result c.args.lines.now c.requires.noted.0 c.lines.place c.len.result inside c.index-notes-taken.is c.len.ensures c.lines.invariant.place c.requires.noted.1

pub lines-preserved : goal.lines-preserved
lines-preserved c =
    let lt = c.lines-test.true in
    let many = c.requires.many in
    let inside : c.lines.taken < length c.args.notes.now = omega (arith, lt, many) in
    record {
      place = c.place_behind-place.ensures ∙ place_step c.args.notes.now c.lines.taken c.index-notes-taken.result c.lines.place c.len.result inside c.index-notes-taken.is c.len.ensures c.lines.invariant.place;
    }
