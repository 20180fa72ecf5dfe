use Rattle.std.proofs.Common.{◌≡◌, ◌∙◌, ◌++◌, ◌∷◌, [], sym, get_or}
use Rattle.std.proofs.Math.ListN.{get_or-map}
use Rattle.spec_core.specs.declared.operation.Operation.{Operation}
use Rattle.spec_core.specs.Specification.{op_of, no_operation}
use Rattle.report_lines.specs.Words.{spaced}
use Rattle.report_lines.specs.Witnesses.{arguments_words, operation_names}
use Rattle.report_lines.proofs.Splitting.{more}
use Rattle.report_lines.proofs.witness.put_call.Goals as goal

pub returns : goal.returns
returns c =
    let d = c.args.spec.now in
    let op = c.args.call.now.op in
    let named : get_or (operation_names d) op [] ≡ (op_of d op).name = get_or-map (λ (o : Operation). o.name) d.operations op no_operation in
    let name_is : c.operation_name.result.now ≡ get_or (operation_names d) op [] = c.operation_name.ensures ∙ sym named in
    let first : c.put_word.new.out.items ≡ c.args.out.now.items ++ spaced (get_or (operation_names d) op [] ∷ []) =
    c.in_ok-put_word.ensures ∙ (λ i. c.args.out.now.items ++ spaced (name_is i ∷ [])) in
    let second : c.put_arguments.new.out.items ≡ c.put_word.new.out.items ++ spaced ((arguments_words (op_of d op).params).put c.args.call.now.args) =
    c.in_ok-put_arguments.ensures ∙ (λ i. c.put_word.new.out.items ++ spaced ((arguments_words (c.params_of.ensures i)).put (c.as_slice.ensures i))) in
    more c.args.out.now.items c.put_word.new.out.items c.put_arguments.new.out.items (get_or (operation_names d) op [] ∷ []) ((arguments_words (op_of d op).params).put c.args.call.now.args) first second
