use Rattle.std.proofs.Common.{ℕ, List, length, sym, ◌∙◌, ap, arith}
use Rattle.spec_core.specs.declared.update.Thing.TheVariants as thing
use Rattle.spec_core.specs.Specification.{counter_keys}
use Rattle.spec_core.specs.State.{reads}
use Rattle.spec_core.proofs.Parts.{few_keys}
use Rattle.spec_core.proofs.Choosing.{all_below-fails}
use Rattle.obligation_list.specs.Starting.{starts_everywhere}
use Rattle.obligation_list.proofs.initial.counters_start.Goals as goal

pub starts_behind-requires : goal.starts_behind-requires
starts_behind-requires c =
    let few = few_keys c.args.spec.now c.well_formed-2.ensures c.loop-k.k in let e = ap length c.places_of.ensures in omega arith

pub returns-then-not-starts_behind : goal.returns-then-not-starts_behind
returns-then-not-starts_behind c =
    let d = c.args.spec.now in let w = c.args.world.now in let r = reads c.args.state.now in
    let below = c.loop-k-test.true in let size = c.sizes_of-k-end.ensures.counters in
    sym (all_below-fails (length d.counters) (λ k. starts_everywhere d w (thing.Counter k) (counter_keys d k) r) c.loop-k.k (omega arith)
    (ap (λ (ss : List ℕ). starts_everywhere d w (thing.Counter c.loop-k.k) ss r) (sym c.places_of.ensures) ∙ sym c.starts_behind.ensures ∙ c.if-not-starts_behind.true))
