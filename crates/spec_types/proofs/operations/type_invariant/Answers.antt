use Rattle.std.proofs.Common.{◌≡◌, Option, None, length, ◌∙◌, ap, subst, rules}
use Rattle.typing_rules.specs.declared.meaning.Meaning.TheVariants as meaning
use Rattle.typing_rules.specs.declared.which.Which.TheVariants as which
use Rattle.typing_rules.specs.Fault.{Fault}
use Rattle.typing_rules.specs.Scope.{Names, with_name}
use Rattle.typing_rules.specs.Lines.{unless}
use Rattle.typing_rules.specs.Items.{Known, heading_fault, with_heading, typed_invariant}
use Rattle.spec_trees.specs.Form.{sentence_of}
use Rattle.spec_types.specs.faults.Names.{meaning_in}
use Rattle.spec_types.specs.Refusals.{Makes}
use Rattle.spec_types.specs.Views.{known_of}
use Rattle.spec_types.proofs.operations.type_invariant.Goals as goal

pub returns : goal.returns
returns c =
    let known : Known = known_of c.args.known.now in
    let after : Known = known_of c.type_claim.new.known in
    let count : c.len-count.result ≡ length c.args.known.now.draft.invariants = search rules in
    let none : None ≡ heading_fault known which.Invariants 16 (length c.args.known.now.draft.invariants) c.args.mark.now =
    c.in_default.ensures.gives ∙ ap (λ n. heading_fault known which.Invariants 16 n c.args.mark.now) count in
    let named : meaning_in c.add.new.self ≡ with_name known.names c.args.mark.now.text meaning.Invariant =
    c.in_ok-add.ensures ∙ ap (λ t. with_name known.names t meaning.Invariant) c.bytes.ensures.value in
    subst (λ (f : Option Fault). Makes (unless f (typed_invariant (with_heading known c.args.mark.now meaning.Invariant) c.args.mark.now (sentence_of c.args.sentence.now))) after c.type_claim.result) none
    (subst (λ (n : Names). Makes (typed_invariant (record { design = known.design; names = n; stated = known.stated }) c.args.mark.now (sentence_of c.args.sentence.now)) after c.type_claim.result) named c.type_claim.ensures)
