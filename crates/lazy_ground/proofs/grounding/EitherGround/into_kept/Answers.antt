use Rattle.std.proofs.Common.{None}
use Rattle.lazy_ground.proofs.Entries.{either_whole, either_lazy, either_left}
use Rattle.lazy_ground.proofs.Serving.{have_numbers}
use Rattle.lazy_ground.proofs.grounding.EitherGround.into_kept.Goals as goal

pub returns-in-Whole : goal.returns-in-Whole
returns-in-Whole c = λ d h. record {
  entry = c.into_entry.ensures.entry d (either_whole d c.args.self c.in-Whole.ground c.in-Whole.is h);
  pairs = tt;
  numbers = have_numbers c.into_entry.result None c.in-Whole.ground.atoms c.into_entry.ensures.atoms tt;
}

pub returns-in-Lazy : goal.returns-in-Lazy
returns-in-Lazy c = λ d h. c.into_kept.ensures d (either_lazy d c.args.self c.in-Lazy.ground c.in-Lazy.is h)

pub returns-in-TooMany : goal.returns-in-TooMany
returns-in-TooMany c = λ d h. either_left d c.args.self c.in-TooMany.kept c.in-TooMany.is h
