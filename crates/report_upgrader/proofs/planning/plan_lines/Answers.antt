use Rattle.std.proofs.Common.{◌≡◌, ℕ, suc, ◌+◌, ◌-◌, ◌<◌, List, length, length-set, refl, sym, ap, subst, ◌∙◌, arith}
use Rattle.std.specs.Prelude.{slice_set}
use Rattle.report_verifier.specs.Notes.{IsPair}
use Rattle.report_upgrader.specs.Passing.{IsText}
use Rattle.report_upgrader.specs.Plans.{place_of}
use Rattle.report_upgrader.proofs.LogBytes.{IsPlanning, planning_on, place_before, place_within, placed_at}
use Rattle.report_upgrader.proofs.planning.plan_lines.Goals as goal

pub overflow_sub-place : goal.overflow_sub-place
overflow_sub-place c =
    let lt = c.lines-test.true in
    let many = c.requires.many in
    let notes = c.args.notes.now in
    let note = c.index-notes-at.result in
    let at = c.args.count - c.lines.taken - 1 in
    let inside : at < length notes = omega (arith, lt, many) in
    let number : c.args.count - c.lines.taken ≡ suc at = omega (arith, lt) in
    let before = place_before notes (c.args.count - c.lines.taken) at note c.lines.place c.len-len.result number inside c.index-notes-at.is c.len-len.ensures c.lines.invariant.place in
    omega (arith, before)

pub overflow_sub-place-in-lines : goal.overflow_sub-place-in-lines
overflow_sub-place-in-lines c =
    let lt = c.lines-test.true in
    let many = c.requires.many in
    let notes = c.args.notes.now in
    let note = c.index-notes-at.result in
    let at = c.args.count - c.lines.taken - 1 in
    let inside : at < length notes = omega (arith, lt, many) in
    let number : c.args.count - c.lines.taken ≡ suc at = omega (arith, lt) in
    let before = place_before notes (c.args.count - c.lines.taken) at note c.lines.place c.len-len.result number inside c.index-notes-at.is c.len-len.ensures c.lines.invariant.place in
    omega (arith, before)

pub line_at-requires : goal.line_at-requires
line_at-requires c =
    let lt = c.lines-test.true in
    let many = c.requires.many in
    let notes = c.args.notes.now in
    let note = c.index-notes-at.result in
    let at = c.args.count - c.lines.taken - 1 in
    let inside : at < length notes = omega (arith, lt, many) in
    let number : c.args.count - c.lines.taken ≡ suc at = omega (arith, lt) in
    let before = place_before notes (c.args.count - c.lines.taken) at note c.lines.place c.len-len.result number inside c.index-notes-at.is c.len-len.ensures c.lines.invariant.place in
    let here : c.lines.place - c.len-len.result - 1 ≡ place_of notes at = omega (arith, before) in
    place_within notes at note c.args.lines.now c.requires.noted.0 (c.lines.place - c.len-len.result - 1) c.len-len.result inside c.index-notes-at.is c.len-len.ensures here c.requires.noted.1

pub lines-preserved : goal.lines-preserved
lines-preserved c =
    let lt = c.lines-test.true in
    let many = c.requires.many in
    let notes = c.args.notes.now in
    let note = c.index-notes-at.result in
    let at = c.args.count - c.lines.taken - 1 in
    let inside : at < length notes = omega (arith, lt, many) in
    let number : c.args.count - c.lines.taken ≡ suc at = omega (arith, lt) in
    let before = place_before notes (c.args.count - c.lines.taken) at note c.lines.place c.len-len.result number inside c.index-notes-at.is c.len-len.ensures c.lines.invariant.place in
    let here : c.lines.place - c.len-len.result - 1 ≡ place_of notes at = omega (arith, before) in
    let w = placed_at notes at note c.args.lines.now c.requires.noted.0 (c.lines.place - c.len-len.result - 1) c.len-len.result inside c.index-notes-at.is c.len-len.ensures here c.requires.noted.1 in
    let line = c.line_at.ensures w.0 in
    let next : at ≡ c.args.count - (c.lines.taken + 1) = omega arith in
    let x = c.in_ok-rewritten.rewritten in
    let plan = c.lines.plan.items in
    let long = c.lines.invariant.long in
    let within : at < length plan = omega (arith, lt, long) in
    record {
      planning = λ ls lines says.
          subst (λ (k : ℕ). IsPlanning ls k c.see_kind.new.seen.items (slice_set plan at x) c.in_ok-written.written) next
          (planning_on ls (c.args.count - c.lines.taken) at w.0.line c.lines.seen.items c.see_kind.new.seen.items plan (slice_set plan at x) x c.lines.written c.line_count.result c.in_ok-written.written c.in_ok-kind.kind number within refl
          (w.1.1 ls (omega (arith, lt, lines)) says) (λ l later kind seen. c.in_ok-rewritten.ensures.seen l later kind seen) (λ l later kind seen. c.in_ok-rewritten.ensures.written l later kind seen) (λ l. c.line_count.ensures l)
          (λ l text. c.in_ok-kind.ensures l (subst (λ (t : List ℕ). IsPair note.pair t) (sym line) w.1.0) (subst (λ (t : List ℕ). IsText l t) (sym line) text)) c.in_ok-written.ensures (c.lines.invariant.planning ls lines says));
      place = here ∙ ap (place_of notes) next;
      long = length-set plan at x ∙ long;
    }
