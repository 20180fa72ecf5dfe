use Rattle.std.proofs.Common.{◌<◌, List, ℕ, length, drop, sym, subst}
use Rattle.std.proofs.lemmas.Bool.{ltb-true}
use Rattle.report_verifier.specs.Notes.{NoteForm, AreNotedTo}
use Rattle.report_upgrader.proofs.LogBytes.{noted_of, long_within, long_pieces, long_fewer}
use Rattle.report_upgrader.proofs.rewriting.next_line.Goals as goal

pub cut_line-requires : goal.cut_line-requires
cut_line-requires c =
    let note = c.in-Some.note.now in
    let inside : 0 < length c.args.lines.notes.now = ltb-true 0 (length c.args.lines.notes.now) (sym c.in-Some.ensures.lookup.0) in
    let w = noted_of c.args.lines.notes.now 0 note c.args.lines.bytes.now c.requires.0 c.len.result inside c.in-Some.ensures.lookup.1 c.len.ensures c.requires.1.0 in
    long_within c.len.result c.args.lines.bytes.now w.0

pub returns-clause-some : goal.returns-clause-some
returns-clause-some c =
    let note = c.in-Some.note.now in
    let inside : 0 < length c.args.lines.notes.now = ltb-true 0 (length c.args.lines.notes.now) (sym c.in-Some.ensures.lookup.0) in
    let w = noted_of c.args.lines.notes.now 0 note c.args.lines.bytes.now c.requires.0 c.len.result inside c.in-Some.ensures.lookup.1 c.len.ensures c.requires.1.0 in
    long_pieces c.len.result c.args.lines.bytes.now c.cut_line.result.0.now c.cut_line.result.1.now w.0 (c.cut_line.ensures w.0)

pub returns-clause-fewer : goal.returns-clause-fewer
returns-clause-fewer c =
    let note = c.in-Some.note.now in
    let inside : 0 < length c.args.lines.notes.now = ltb-true 0 (length c.args.lines.notes.now) (sym c.in-Some.ensures.lookup.0) in
    let w = noted_of c.args.lines.notes.now 0 note c.args.lines.bytes.now c.requires.0 c.len.result inside c.in-Some.ensures.lookup.1 c.len.ensures c.requires.1.0 in
    long_fewer c.len.result c.args.lines.bytes.now c.cut_line.result.1.now w.0 (c.cut_line.ensures w.0).1

pub returns-clause-noted : goal.returns-clause-noted
returns-clause-noted c =
    let note = c.in-Some.note.now in
    let inside : 0 < length c.args.lines.notes.now = ltb-true 0 (length c.args.lines.notes.now) (sym c.in-Some.ensures.lookup.0) in
    let w = noted_of c.args.lines.notes.now 0 note c.args.lines.bytes.now c.requires.0 c.len.result inside c.in-Some.ensures.lookup.1 c.len.ensures c.requires.1.0 in
    let rest = subst (λ (b : List ℕ). AreNotedTo (drop 1 c.args.lines.notes.now) b c.requires.0) (sym (c.cut_line.ensures w.0).1) w.1.1 in
    (c.requires.0, (subst (λ (ns : List NoteForm). AreNotedTo ns c.cut_line.result.1.now c.requires.0) (sym c.behind-notes.ensures) rest, c.requires.1.1))
