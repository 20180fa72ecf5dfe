use Rattle.std.proofs.Common.{◌++◌, sym, ◌∙◌, ap, append-nil, append_assoc, arith}
use Rattle.std.specs.List.{flat_map}
use Rattle.obligation_list.specs.Obligations.{commute_of}
use Rattle.obligation_list.proofs.Below.{filter-below_self, flat_map-filter-below_more}
use Rattle.obligation_list.proofs.listing.add_commute_from.Goals as goal

pub loop-second-init : goal.loop-second-init
loop-second-init c =
    sym (append-nil c.args.list.now) ∙ ap (λ l. c.args.list.now ++ flat_map (commute_of c.args.spec.now c.args.first) l) (sym (filter-below_self c.args.first c.args.first (omega arith)))

pub loop-second-preserved : goal.loop-second-preserved
loop-second-preserved c =
    rw (c.in_ok-add_commute.ensures, c.loop-second.invariant, append_assoc)
    (ap (λ r. c.args.list.now ++ r) (sym (flat_map-filter-below_more (commute_of c.args.spec.now c.args.first) c.args.first c.loop-second.second (omega arith))))
