-- Which world the members `sizes` and `constants` of a schedule give, and the first check that fails.
use Rattle.std.specs.Prelude.{ℕ, List, [], ◌∷◌, map, get_or, nat_lt, if◌then◌else◌, Option, None, Some, option_and_then, Result, Ok, Err, codes}
use Rattle.serde_json.specs.Data.{Data}
use Rattle.serde_json.specs.Find.{get}
use Rattle.spec_core.specs.declared.spec.Const.{Const}
use Rattle.spec_core.specs.declared.world.World.{World}
use Rattle.spec_core.specs.Specification.{Specification}
use Rattle.schedule_json.specs.declared.refusal.Path.TheVariants as path
use Rattle.schedule_json.specs.declared.refusal.Fault.{Fault}
use Rattle.schedule_json.specs.declared.refusal.Fault.TheVariants as fault
use Rattle.schedule_json.specs.declared.refusal.ScheduleRefused.TheVariants as refused
use Rattle.schedule_json.specs.Parts.{natural, has_exactly}
use Rattle.schedule_json.specs.Checks.{Checked, located, need, with_some, and_then, with_first}

-- a size is at most 64
abbrev pub size_limit : ℕ
size_limit = 65

-- a number below a limit: none is a fault of shape, a greater one a fault of size
abbrev pub in_limit : ℕ → Option ℕ → Result ℕ Fault
in_limit limit None = Err fault.Shape
in_limit limit (Some n) = if nat_lt n limit then Ok n else Err fault.Size

-- a whole number that isn't negative, below a limit
abbrev pub number_below : ℕ → Option Data → Result ℕ Fault
number_below limit v = in_limit limit (option_and_then natural v)

-- the size of each sort, by name
abbrev pub sizes_at : List (List ℕ) → Data → Checked (List ℕ)
sizes_at [] v = Ok []
sizes_at (name ∷ names) v =
    with_first (located (path.Size name) (number_below size_limit (get name v))) (sizes_at names v)

-- An object with exactly the sorts as keys, and at each a size.
abbrev pub sizes_of : Specification → Option Data → Checked (List ℕ)
sizes_of d v =
    with_some v (refused.Shape path.Sizes)
    (λ found. need (has_exactly d.sorts found) (refused.Shape path.Sizes) (sizes_at d.sorts found))

-- the element of each constant: below the size of its sort
abbrev pub elements_at : List ℕ → List Const → Data → Checked (List ℕ)
elements_at sizes [] v = Ok []
elements_at sizes (c ∷ cs) v =
    with_first
    (located (path.Constant c.name) (number_below (get_or sizes c.sort 0) (get c.name v)))
    (elements_at sizes cs v)

-- the names of constants
abbrev pub const_names : List Const → List (List ℕ)
const_names cs = map (λ c. c.name) cs

-- An object with exactly the constants as keys, and at each an element of its sort.
abbrev pub elements_of : Specification → List ℕ → Option Data → Checked (List ℕ)
elements_of d sizes v =
    with_some v (refused.Shape path.Constants)
    (λ found. need (has_exactly (const_names d.consts) found) (refused.Shape path.Constants)
    (elements_at sizes d.consts found))

-- the world of these sizes and these elements of constants
abbrev pub world_from : List ℕ → List ℕ → Checked World
world_from sizes elements = Ok (record { sizes = sizes; consts = elements })

-- The world of a schedule: first its sizes, then its constants.
abbrev pub world_of : Specification → Data → Checked World
world_of d v =
    and_then (sizes_of d (get (codes "sizes") v))
    (λ sizes. and_then (elements_of d sizes (get (codes "constants") v))
    (λ elements. world_from sizes elements))
