use Rattle.std.proofs.Common.{◌≡◌, ◌++◌, ◌∷◌, [], ℕ, List, take, drop, ap, sym, subst, ◌∙◌}
use Rattle.std.specs.Prelude.{OnOk}
use Rattle.proof_lines.specs.declared.line.Line.{Line}
use Rattle.report_verifier.specs.Notes.{IsLong, IsPair}
use Rattle.report_upgrader.specs.Plans.{written_for, IsWritten}
use Rattle.report_upgrader.specs.Passing.{IsText}
use Rattle.report_upgrader.proofs.log_bytes.put_line.Goals as goal

pub returns : goal.returns
returns c =
    let note = c.args.note.now in
    let rest = drop c.args.run c.args.from.now in
    let run = take c.args.run c.args.from.now in
    let old = c.args.text.now.items in
    let new = c.write_line.new.out.items in
    subst (λ (k : ℕ). (h : IsLong k rest) (l : Line) → IsPair note.pair h.line → IsText l h.line → OnOk c.write_line.result (IsWritten (written_for c.args.rewritten l) (old ++ run) new)) c.len-len.ensures
    (λ h l pair text.
    let is = c.line_at.ensures h in
    let front = c.front_of.ensures in
    let ended : c.with_line.result.now ≡ c.front_of.result.now ++ (c.line_at.result.now ++ 10 ∷ []) = c.with_line.ensures h ∙ (λ i. sym front i ++ (sym is i ++ 10 ∷ [])) in
    subst (λ (x : List ℕ). OnOk c.write_line.result (IsWritten (written_for c.args.rewritten l) (old ++ x) new)) front
    (c.write_line.ensures l ended (subst (λ (x : List ℕ). IsPair note.pair x) (sym is) pair) (subst (λ (x : List ℕ). IsText l x) (sym is) text)))
