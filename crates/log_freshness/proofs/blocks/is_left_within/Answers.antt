use Rattle.std.proofs.Common.{◌∙◌, None}
use Rattle.std.specs.Prelude.{slice_index_or}
use Rattle.log_freshness.proofs.Index.{slot-marked}
use Rattle.log_freshness.proofs.blocks.is_left_within.Goals as goal

pub returns : goal.returns
returns c = c.marked_slot_within.ensures ∙ slot-marked c.args.look.now.count c.args.look.now.marks.now c.args.look.now.lits.now (slice_index_or c.args.look.now.slots.now c.args.number None) c.requires.marks
