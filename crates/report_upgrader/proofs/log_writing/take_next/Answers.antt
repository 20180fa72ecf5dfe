use Rattle.std.proofs.Common.{◌≡◌, ◌+◌, ◌++◌, ◌∷◌, [], ℕ, List, length, take, drop, sym, ap, subst, ◌∙◌, append-nil, arith}
use Rattle.std.proofs.lemmas.List.{length-drop}
use Rattle.report_upgrader.specs.Passing.{IsGathered}
use Rattle.report_upgrader.proofs.LogBytes.{copied_next, ended_at, behind_at}
use Rattle.report_upgrader.proofs.log_writing.take_next.Goals as goal

-- a line that is copied with those before it

pub returns-then-is_copied-clause-ok : goal.returns-then-is_copied-clause-ok
returns-then-is_copied-clause-ok g c = λ h l pair text whole rest before so.
    let run = c.args.run in
    let from = c.args.from.now in
    let len = c.args.note.now.len in
    let more = take (run + c.len-len.result + 1) from in
    let ended : more ≡ take run from ++ (h.line ++ 10 ∷ []) = ap (λ (k : ℕ). take (run + k + 1) from) c.len-len.ensures ∙ ended_at run len from h in
    copied_next c.args.rewritten l h.line (take run from) more c.args.text.now.items whole rest before (g.K.Sink.held c.args.out.now) text (c.is_copied.ensures c.if-is_copied.true l) ended so

pub returns-then-is_copied-clause-behind : goal.returns-then-is_copied-clause-behind
returns-then-is_copied-clause-behind g c = λ h. ap (λ (k : ℕ). drop (c.args.run + k + 1) c.args.from.now) c.len-len.ensures ∙ behind_at c.args.run c.args.note.now.len c.args.from.now h

-- any other line

pub returns-in-Ok-clause-ok : goal.returns-in-Ok-clause-ok
returns-in-Ok-clause-ok g c = λ h l pair text whole rest before so.
    subst (λ (t : List ℕ). IsGathered whole before (g.K.Sink.held c.write_next.new.out) t rest) (sym (append-nil c.write_next.new.text.items)) (c.in-Ok.ensures.ok h l pair text whole rest before so)

pub returns-in-Ok-clause-behind : goal.returns-in-Ok-clause-behind
returns-in-Ok-clause-behind g c = λ h. c.behind_line.ensures ∙ ap (λ (k : ℕ). drop (c.args.run + k + 1) c.args.from.now) c.len-len.ensures ∙ behind_at c.args.run c.args.note.now.len c.args.from.now h

pub returns-in-Ok-clause-fewer : goal.returns-in-Ok-clause-fewer
returns-in-Ok-clause-fewer g c =
    let same : length c.behind_line.result.now ≡ length (drop (c.args.run + c.len-len.result + 1) c.args.from.now) = ap (λ (x : List ℕ). length x) c.behind_line.ensures in
    let less = length-drop (c.args.run + c.len-len.result + 1) c.args.from.now in
    omega (arith, same, less)

pub returns-in-Err-clause-front : goal.returns-in-Err-clause-front
returns-in-Err-clause-front g c = λ h l pair text whole rest before so. c.in-Err.ensures.front h l pair text whole rest before so
