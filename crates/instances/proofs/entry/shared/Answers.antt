use Rattle.std.proofs.Common.{◌∙◌, refl, subst}
use Rattle.std.specs.Prelude.{IfSome}
use Rattle.instances.specs.Entry.{IsEntry}
use Rattle.instances.proofs.Shared.{cut_shared}
use Rattle.instances.proofs.entry.shared.Goals as goal

pub returns-then-is_alike-clause-shared : goal.returns-then-is_alike-clause-shared
returns-then-is_alike-clause-shared c =
    let d = c.args.spec.now in
    let e = c.in-Some.entry in
    let is : IsEntry d e = subst (λ z. IfSome z (IsEntry d)) c.in-Some.is c.requires.kept in
    cut_shared d e c.args.arguments c.args.named.now.sorts c.cut.result is c.requires.arguments (c.if-is_alike.ensures.sorts refl ∙ c.as_slice.ensures)
    (c.if-is_alike.ensures.count refl) (c.if-is_alike.ensures.arguments refl) c.cut.ensures.atoms c.cut.ensures.formulas c.cut.ensures.part
