use Rattle.std.proofs.Common.{◌++◌, sym, ap, append_assoc}
use Rattle.spec_core.specs.declared.update.Thing.TheVariants as thing
use Rattle.obligation_list.specs.declared.obligation.Obligation.TheVariants.{Commute}
use Rattle.obligation_list.specs.Obligations.{either_writes}
use Rattle.obligation_list.proofs.Below.{filter_map-below_more}
use Rattle.obligation_list.proofs.listing.add_on_counters.Goals as goal

pub loop-k-preserved : goal.loop-k-preserved
loop-k-preserved c =
    rw (c.in_ok-add_if_written.ensures, c.loop-k.invariant, append_assoc)
    (ap (λ r. c.args.list.now ++ r)
    (sym (filter_map-below_more (λ x. Commute c.args.first c.args.second x) (either_writes c.args.spec.now c.args.first c.args.second) (λ k. thing.Counter k) c.loop-k.k)))
