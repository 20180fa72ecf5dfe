use Rattle.std.proofs.Common.{Some}
use Rattle.lazy_ground.proofs.Serving.{have_numbers}
use Rattle.lazy_ground.proofs.completing.WholeGround.into_kept.Goals as goal

pub returns : goal.returns
returns c =
    let w = c.args.self in
    λ d h. record {
      entry = c.into_entry.ensures.entry d h.entry;
      pairs = h.pairs;
      numbers = have_numbers c.into_entry.result (Some w.pairs) w.ground.atoms c.into_entry.ensures.atoms h.numbers;
    }
