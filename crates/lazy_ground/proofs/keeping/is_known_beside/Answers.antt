use Rattle.lazy_ground.specs.Equal.{all_known}
use Rattle.lazy_ground.proofs.Serving.{among_passes}
use Rattle.lazy_ground.proofs.keeping.is_known_beside.Goals as goal

pub returns-then-is_among : goal.returns-then-is_among
returns-then-is_among c = λ h. among_passes (all_known c.args.atoms.now.table) c.args.before.now c.args.constants.now c.requires (c.is_among.ensures h)
