-- What is written where a text is no schedule.
use Rattle.std.specs.Prelude.{ℕ, List, [], ◌∷◌, ◌++◌, codes, decimal}
use Rattle.schedule_json.specs.declared.refusal.Path.{Path}
use Rattle.schedule_json.specs.declared.refusal.Path.TheVariants as path
use Rattle.schedule_json.specs.declared.refusal.ScheduleRefused.{ScheduleRefused}
use Rattle.schedule_json.specs.declared.refusal.ScheduleRefused.TheVariants as refused

-- the bytes of a schedule are at most 16 MiB
abbrev pub most_schedule_bytes : ℕ
most_schedule_bytes = 16777216

-- the words of a place in a schedule
abbrev pub path_text : Path → List ℕ
path_text path.Top = codes "top"
path_text path.Sizes = codes "sizes"
path_text (path.Size sort) = codes "sizes " ++ sort
path_text path.Constants = codes "constants"
path_text (path.Constant name) = codes "constants " ++ name
path_text path.Replicas = codes "replicas"
path_text path.Steps = codes "steps"
path_text (path.Step k) = codes "step " ++ decimal k

-- The line of a refusal; want of memory has none.
abbrev pub refusal_text : ScheduleRefused → List ℕ
refusal_text refused.Json = codes "refused schedule json\n"
refusal_text (refused.Shape p) = codes "refused schedule shape " ++ path_text p ++ 10 ∷ []
refusal_text (refused.Size p) = codes "refused schedule size " ++ path_text p ++ 10 ∷ []
refusal_text refused.Memory = []

-- the line where there are too many bytes
abbrev pub long_text : List ℕ
long_text = codes "refused schedule long\n"
