use Rattle.std.proofs.Common.{◌≡◌, List, ℕ, sym, ap, ◌∙◌}
use Rattle.std.specs.List.{list_all}
use Rattle.spec_core.specs.State.{is_in}
use Rattle.std.proofs.lemmas.List.Folds.{list_all-map}
use Rattle.spec_states.proofs.Entries.{Key}
use Rattle.spec_states.proofs.listed.Tuples.is_within.Goals as goal

pub returns : goal.returns
returns c =
    let p = λ (t : List ℕ). is_in t c.args.other.now in
    let each : c.all_within.result ≡ list_all (λ (k : Key). p k.items) c.self.inside.keys.keys = c.all_within.ensures in
    each ∙ sym (list_all-map p (λ (k : Key). k.items) c.self.inside.keys.keys) ∙ ap (list_all p) c.self.view_is
