use Rattle.std.proofs.Common.{rules, ◌∙◌, ap, sym}
use Rattle.spec_core.specs.State.{is_in}
use Rattle.spec_states.proofs.Entries.{contains_in}
use Rattle.spec_states.proofs.listed.Tuples.has.Goals as goal

pub returns : goal.returns
returns c = search rules ∙ sym (contains_in c.self.inside.keys.keys c.args.tuple.now) ∙ ap (is_in c.args.tuple.now) c.self.view_is
