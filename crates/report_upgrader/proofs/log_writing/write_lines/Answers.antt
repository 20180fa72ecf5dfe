use Rattle.std.proofs.Common.{◌≡◌, ◌+◌, ◌<◌, ◌++◌, ◌∷◌, ℕ, List, length, take, drop, refl, sym, ap, subst, ◌∙◌, arith}
use Rattle.report_bytes.specs.Bytes.{pieces}
use Rattle.std.specs.Prelude.{slice_index_or}
use Rattle.report_verifier.specs.Notes.{NoteForm, AreNotedTo}
use Rattle.report_upgrader.proofs.Gathered.{added_ok, added_err}
use Rattle.report_upgrader.proofs.LogBytes.{writing_first, next_writing, all_written_lines, behind_on, noted_at, within_at, pieces_at, noted_left}
use Rattle.report_upgrader.proofs.log_writing.write_lines.Goals as goal

pub lines-init : goal.lines-init
lines-init g c = record {
  lines = λ ls planned whole rest before so. writing_first c.args.plan.now ls c.args.lines.bytes.now whole before (g.K.Sink.held c.args.out.now) c.args.text.now.items rest planned.written planned.says so;
  within = omega arith;
  behind = refl;
  fewer = omega arith;
  noted = λ end are. are;
  never_falls = omega arith;
}

pub take_next-requires : goal.take_next-requires
take_next-requires g c =
    let note = slice_index_or c.args.lines.notes.now c.lines.taken c.index-lines-taken.result in
    let this : note ≡ slice_index_or c.args.lines.notes.now c.lines.taken note = ap (λ (n : NoteForm). slice_index_or c.args.lines.notes.now c.lines.taken n) c.index-lines-taken.is in
    let inside : c.lines.taken < length c.args.lines.notes.now = (let lt = c.lines-test.true in let many = c.requires.many in omega (arith, lt, many)) in
    let w = noted_at c.args.lines.notes.now c.lines.taken note (drop c.lines.run c.lines.from.now) c.requires.noted.0 inside this (c.lines.invariant.noted c.requires.noted.0 c.requires.noted.1.0) in
    within_at c.lines.run note.len c.lines.from.now w.0

pub returns-in-Err-clause-front : goal.returns-in-Err-clause-front
returns-in-Err-clause-front g c = λ ls table whole rest before so.
    let note = slice_index_or c.args.lines.notes.now c.lines.taken c.index-lines-taken.result in
    let this : note ≡ slice_index_or c.args.lines.notes.now c.lines.taken note = ap (λ (n : NoteForm). slice_index_or c.args.lines.notes.now c.lines.taken n) c.index-lines-taken.is in
    let inside : c.lines.taken < length c.args.lines.notes.now = (let lt = c.lines-test.true in let many = c.requires.many in omega (arith, lt, many)) in
    let from = c.lines.from.now in
    let run = c.lines.run in
    let w = noted_at c.args.lines.notes.now c.lines.taken note (drop run from) c.requires.noted.0 inside this (c.lines.invariant.noted c.requires.noted.0 c.requires.noted.1.0) in
    let n = next_writing c.planned-rewritten.result c.args.plan.now ls c.lines.taken c.args.count w.0.line (pieces (drop run from)) (pieces (drop (run + note.len + 1) from)) (pieces c.args.lines.bytes.now) whole before (g.K.Sink.held c.lines.out) (c.lines.text.items ++ take run from) rest
    c.lines-test.true c.requires.planned c.planned-rewritten.ensures (pieces_at run note.len from w.0) table (c.lines.invariant.lines ls table whole rest before so) in
    c.in-Err.ensures.front w.0 n.line_said w.1.0 n.says whole n.left before n.gathered

pub lines-preserved : goal.lines-preserved
lines-preserved g c =
    let note = slice_index_or c.args.lines.notes.now c.lines.taken c.index-lines-taken.result in
    let this : note ≡ slice_index_or c.args.lines.notes.now c.lines.taken note = ap (λ (n : NoteForm). slice_index_or c.args.lines.notes.now c.lines.taken n) c.index-lines-taken.is in
    let notes = c.args.lines.notes.now in
    let inside : c.lines.taken < length notes = (let lt = c.lines-test.true in let many = c.requires.many in omega (arith, lt, many)) in
    let from = c.lines.from.now in
    let run = c.lines.run in
    let next = c.in-Ok.next.now in
    let more = c.in-Ok.more in
    let w = noted_at notes c.lines.taken note (drop run from) c.requires.noted.0 inside this (c.lines.invariant.noted c.requires.noted.0 c.requires.noted.1.0) in
    let h = w.0 in
    let cut : pieces (drop run from) ≡ h.line ∷ pieces (drop more next) = h.cut ∙ ap (λ (x : List ℕ). h.line ∷ pieces x) (sym (c.in-Ok.ensures.behind h)) in
    record {
      lines = λ ls table whole rest before so.
          let n = next_writing c.planned-rewritten.result c.args.plan.now ls c.lines.taken c.args.count h.line (pieces (drop run from)) (pieces (drop more next)) (pieces c.args.lines.bytes.now) whole before (g.K.Sink.held c.lines.out) (c.lines.text.items ++ take run from) rest
          c.lines-test.true c.requires.planned c.planned-rewritten.ensures cut table (c.lines.invariant.lines ls table whole rest before so) in
          n.onward (g.K.Sink.held c.take_next.new.out) (c.take_next.new.text.items ++ take more next) (c.in-Ok.ensures.ok h n.line_said w.1.0 n.says whole n.left before n.gathered);
      within = c.in-Ok.ensures.within;
      behind = behind_on (pieces c.args.lines.bytes.now) c.lines.taken h.line (pieces (drop run from)) (pieces (drop more next)) c.lines.invariant.behind cut;
      fewer = let less = c.in-Ok.ensures.fewer in let so = c.lines.invariant.fewer in omega (arith, less, so);
      noted = λ end are.
          let v = noted_at notes c.lines.taken note (drop run from) end inside this (c.lines.invariant.noted end are) in
          subst (λ (x : List ℕ). AreNotedTo (drop (c.lines.taken + 1) notes) x end) (sym (c.in-Ok.ensures.behind v.0)) v.1.1;
      never_falls = let less = c.in-Ok.ensures.never_falls in let so = c.lines.invariant.never_falls in omega (arith, less, so);
    }

pub returns-clause-ok : goal.returns-clause-ok
returns-clause-ok g c = λ ls table whole rest before so.
    let all : List ℕ = c.lines.text.items ++ take c.lines.run c.lines.from.now in
    added_ok c.copy_run.result whole before (g.K.Sink.held c.lines.out) all c.copy_run.new.text.items rest
    (all_written_lines c.args.plan.now ls c.lines.taken c.args.count (pieces (drop c.lines.run c.lines.from.now)) whole before (g.K.Sink.held c.lines.out) all rest (omega arith) table.long (c.lines.invariant.lines ls table whole rest before so)) c.copy_run.ensures.copied

pub returns-clause-front : goal.returns-clause-front
returns-clause-front g c = λ ls table whole rest before so.
    let all : List ℕ = c.lines.text.items ++ take c.lines.run c.lines.from.now in
    added_err c.copy_run.result whole before (g.K.Sink.held c.lines.out) all rest
    (all_written_lines c.args.plan.now ls c.lines.taken c.args.count (pieces (drop c.lines.run c.lines.from.now)) whole before (g.K.Sink.held c.lines.out) all rest (omega arith) table.long (c.lines.invariant.lines ls table whole rest before so))

pub returns-clause-noted : goal.returns-clause-noted
returns-clause-noted g c =
    let bytes = drop c.lines.run c.lines.from.now in
    let all : c.lines.taken ≡ c.args.count = omega arith in
    let are = c.lines.invariant.noted c.requires.noted.0 c.requires.noted.1.0 in
    noted_left c.copy_run.result (λ left. left.bytes.now) (λ left. left.notes.now) bytes (drop c.args.count c.args.lines.notes.now)
    (c.requires.noted.0, (subst (λ (k : ℕ). AreNotedTo (drop k c.args.lines.notes.now) bytes c.requires.noted.0) all are, c.requires.noted.1.1)) c.copy_run.ensures.bytes c.copy_run.ensures.notes
