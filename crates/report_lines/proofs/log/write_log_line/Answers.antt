use Rattle.std.proofs.Common.{[], ◌∷◌, ◌++◌, ◌≡◌, ◌∙◌, sym, subst}
use Rattle.std.specs.Fmt.{decimal, signed_decimal}
use Rattle.report_lines.specs.Words.{spaced, line_text}
use Rattle.report_lines.specs.Logs.{used_words, decision_words, line_format}
use Rattle.proof_lines.specs.declared.line.Line.{Line}
use Rattle.report_lines.proofs.Splitting.{more, written}
use Rattle.report_lines.proofs.log.write_log_line.Goals as goal

pub returns-in_ok-push-in-Split-2 : goal.returns-in_ok-push-in-Split-2
returns-in_ok-push-in-Split-2 c =
    let s = c.in-Split in
    let place = decimal s.place ∷ signed_decimal s.at ∷ [] in
    let used = used_words.put (s.used, s.steps) in
    let decides = decision_words.put (s.low, (s.high, s.values)) in
    let start = c.push.new.self.items in
    let end = c.put_values.new.out.items in
    let used_is : c.put_used.new.out.items ≡ c.put_place.new.out.items ++ spaced used =
    c.in_ok-put_used-in-Split.ensures ∙ (λ i. c.put_place.new.out.items ++ spaced (used_words.put (c.as_slice-in-Split.ensures i, c.as_slice-in-Split-2.ensures i))) in
    let decides_is : end ≡ c.put_used.new.out.items ++ spaced decides =
    c.in_ok-put_values-in-Split.ensures ∙ (λ i. c.put_used.new.out.items ++ spaced (decision_words.put (s.low, (s.high, c.as_slice-in-Split-3.ensures i)))) in
    let before = more start c.put_place.new.out.items c.put_used.new.out.items place used c.in_ok-put_place-in-Split.ensures used_is in
    let all = more start c.put_used.new.out.items end (place ++ used) decides before decides_is in
    subst (λ (l : Line). c.push-in-Split.new.self.items ≡ c.args.out.now.items ++ line_text (line_format.put l)) (sym c.in-Split.is)
    (written c.args.out.now.items start end c.push-in-Split.new.self.items (115 ∷ []) ((place ++ used) ++ decides) c.in_ok-push-in-Split.ensures.items all c.in_ok-push-in-Split-2.ensures.items)
