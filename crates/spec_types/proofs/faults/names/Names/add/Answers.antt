use Rattle.std.proofs.Common.{rules, ◌≡◌, ◌∙◌, ap}
use Rattle.typing_rules.specs.Scope.{with_name}
use Rattle.spec_types.specs.faults.Names.{meaning_in}
use Rattle.spec_types.proofs.Entries.{entries_of, insert_meaning}
use Rattle.spec_types.proofs.faults.names.Names.add.Goals as goal

pub returns : goal.returns
returns c =
    let own : c.in_ok-own.own.items ≡ c.args.name.now = search rules in
    let old = c.self.inside.entries.entries in
    ap (λ es. meaning_in (entries_of es)) c.in_ok-insert.ensures.entries
    ∙ insert_meaning old c.in_ok-own.own c.args.meaning
    ∙ ap (λ k. with_name (meaning_in (entries_of old)) k c.args.meaning) own
    ∙ ap (λ es. with_name (meaning_in es) c.args.name.now c.args.meaning) c.self.view_is
