-- The lines that show a state.
use Rattle.std.specs.Prelude.{ℕ, suc, ℤ, pos, cond, List, [], ◌∷◌, ◌++◌, codes}
use Rattle.std.specs.Fmt.{decimal, signed_decimal}
use Rattle.std.specs.List.{filter, flat_map}
use Rattle.spec_core.specs.declared.spec.Relation.{Relation}
use Rattle.spec_core.specs.declared.spec.Counter.{Counter}
use Rattle.spec_core.specs.declared.world.World.{World}
use Rattle.spec_core.specs.Specification.{Specification}
use Rattle.spec_core.specs.State.{Listing, Reads}
use Rattle.spec_core.specs.World.{tuples}
use Rattle.spec_core.specs.Truth.{int_eq}

-- elements, each behind a space
abbrev pub spaced : List ℕ → List ℕ
spaced es = flat_map (λ e. 32 ∷ decimal e) es

-- `true` and a tuple that a relation holds, as `true enrolled 0 0`
abbrev pub true_line : List ℕ → List ℕ → List ℕ
true_line name tuple = codes "true " ++ name ++ spaced tuple ++ 10 ∷ []

-- `count` and a key with its value, as `count balance 0 -30`; a value of 0 isn't written
abbrev pub count_line : List ℕ → List ℕ × ℤ → List ℕ
count_line name e =
    cond (int_eq e.1 (pos 0)) [] (codes "count " ++ name ++ spaced e.0 ++ 32 ∷ []
    ++ signed_decimal e.1 ++ 10 ∷ [])

-- ---- the text of readings in a world

-- of each relation, those from a number on, the tuples that read true, rising
abbrev pub relation_lines : World → Reads → ℕ → List Relation → List ℕ
relation_lines w r from [] = []
relation_lines w r from (x ∷ rs) =
    flat_map (true_line x.name) (filter (r.has from) (tuples w x.places))
    ++ relation_lines w r (suc from) rs

-- of each counter, those from a number on, the keys whose value isn't 0, rising
abbrev pub counter_lines : World → Reads → ℕ → List Counter → List ℕ
counter_lines w r from [] = []
counter_lines w r from (c ∷ cs) =
    flat_map (λ key. count_line c.name (key, r.count from key)) (tuples w c.keys)
    ++ counter_lines w r (suc from) cs

-- The text of a state, as it is read in a world: the tuples by relation, then the keys with their values by counter.
abbrev pub state_text : Specification → World → Reads → List ℕ
state_text d w r = relation_lines w r 0 d.relations ++ counter_lines w r 0 d.counters

-- ---- the text of what is listed, as a program writes it

-- a line for each tuple, relation by relation
abbrev pub true_lines : List Relation → List (List (List ℕ)) → List ℕ
true_lines [] ls = []
true_lines (r ∷ rs) [] = []
true_lines (r ∷ rs) (l ∷ ls) = flat_map (true_line r.name) l ++ true_lines rs ls

-- a line for each key whose value isn't 0, counter by counter
abbrev pub count_lines : List Counter → List (List (List ℕ × ℤ)) → List ℕ
count_lines [] ls = []
count_lines (c ∷ cs) [] = []
count_lines (c ∷ cs) (l ∷ ls) = flat_map (count_line c.name) l ++ count_lines cs ls

-- the tuples by relation, then the keys with their values by counter, each list as it stands
abbrev pub listed_text : Specification → Listing → List ℕ
listed_text d s = true_lines d.relations s.relations ++ count_lines d.counters s.counters
