-- What every schedule of a specification keeps.
use Rattle.std.specs.Prelude.{◌≡◌, ◌≤◌, true, length}
use Rattle.spec_core.specs.Specification.{Specification}
use Rattle.spec_core.specs.Fits.{world_fits}
use Rattle.schedule_json.specs.declared.schedule.Schedule.{Schedule}
use Rattle.schedule_json.specs.Recorded.{most_steps}
use Rattle.schedule_json.specs.Schedules.{most_replicas}

-- The world is one of the specification, there is a replica, and there are at most 16 replicas and 10,000 steps.
pub record IsScheduleOf (d : Specification) (s : Schedule) : Type 0 where
  pub world : world_fits d s.world ≡ true
  pub some : 1 ≤ s.replicas
  pub replicas : s.replicas ≤ most_replicas
  pub steps : length s.steps ≤ most_steps
