use Rattle.std.proofs.Common.{refl, ◌≡◌, ℕ, List, false, get_or, sym, ap, ◌∙◌, Option}
use Rattle.std.specs.Prelude.{slice_get}
use Rattle.std.specs.Option.{unwrap_or}
use Rattle.std.proofs.lemmas.Option.{unwrap_or-slice_get}
use Rattle.simulate_text.specs.Course.{tries_again, hears_grant}
use Rattle.simulate_text.specs.Reached.{simulated_in}
use Rattle.simulate_text.proofs.Carrying.{does_from, tries_part}
use Rattle.simulate_text.proofs.simulation.Simulation.try_again.Goals as goal

pub returns : goal.returns
returns g c =
    let old = c.args.self.now in let r = c.args.replica in let grant = c.unwrap_or-grant.result in
    let is : get_or old.grants.items r 0 ≡ grant
    = sym (c.unwrap_or-grant.ensures ∙ ap (λ (o : Option ℕ). unwrap_or o 0) (c.number_at.ensures ∙ ap (λ (l : List ℕ). slice_get l r) c.deref.ensures.value) ∙ unwrap_or-slice_get old.grants.items r 0) in
    does_from c.hear_grant.result (λ d w. hears_grant d w r grant false) (λ d w. tries_again d w r) old old c.hear_grant.new.self refl
    (λ d w asked. (asked, tries_part d w (simulated_in old) r grant (sym c.is_waiting.ensures ∙ c.if-not-is_waiting.false) is)) c.hear_grant.ensures
