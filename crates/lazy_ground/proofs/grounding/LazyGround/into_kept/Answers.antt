use Rattle.std.proofs.Common.{Some}
use Rattle.lazy_ground.proofs.Serving.{have_numbers}
use Rattle.lazy_ground.proofs.grounding.LazyGround.into_kept.Goals as goal

pub returns : goal.returns
returns c =
    let g = c.args.self in
    λ d h. record {
      entry = c.entry_of.ensures.entry d h.entry;
      pairs = h.pairs;
      numbers = have_numbers c.entry_of.result (Some (record { readings = g.readings; pairs = g.pairs })) g.atoms c.entry_of.ensures.atoms h.numbers;
    }
