use Rattle.std.proofs.Common.{◌++◌, ◌∷◌, List, ℕ, ap, ◌∙◌}
use Rattle.report_lines.specs.Words.{line_text}
use Rattle.report_lines.specs.Logs.{used_words}
use Rattle.report_lines.specs.Evidence.{what_words}
use Rattle.report_lines.proofs.Splitting.{more, written}
use Rattle.report_lines.proofs.EvidenceLines.{range_put}
use Rattle.report_lines.proofs.evidence.write_range.Goals as goal

pub returns : goal.returns
returns c =
    let used = used_words.put (c.args.used.now, c.args.steps.now) in
    let what = what_words c.args.what.now in
    let all = more c.extend_from_slice.new.self.items c.put_used.new.out.items c.put_what.new.out.items used what c.in_ok-put_used.ensures c.in_ok-put_what.ensures in
    let old = c.args.out.now.items in
    written old c.extend_from_slice.new.self.items c.put_what.new.out.items c.push.new.self.items c.range_word.result.now (used ++ what) c.in_ok-extend_from_slice.ensures.items all c.in_ok-push.ensures.items
    ∙ ap (λ (k : List ℕ). old ++ line_text (k ∷ used ++ what)) c.range_word.ensures
    ∙ ap (λ (ws : List (List ℕ)). old ++ line_text ws) (range_put c.args.used.now c.args.steps.now c.args.what.now)
