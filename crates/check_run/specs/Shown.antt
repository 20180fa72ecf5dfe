-- The state that a witness shows.
use Rattle.std.specs.Prelude.{ℕ, suc, ℤ, ◌==◌, List, [], ◌∷◌, map}
use Rattle.std.specs.List.{filter}
use Rattle.spec_core.specs.declared.spec.Relation.{Relation}
use Rattle.spec_core.specs.declared.spec.Counter.{Counter}
use Rattle.spec_core.specs.Specification.{Specification}
use Rattle.spec_core.specs.State.{Listing}
use Rattle.report_lines.specs.declared.witness.Fact.{Fact}
use Rattle.report_lines.specs.declared.witness.Reading.{Reading}
use Rattle.proof_report.specs.declared.place.PartialWitness.{PartialWitness}

-- the tuples of a relation among facts
abbrev pub tuples_among : List Fact → ℕ → List (List ℕ)
tuples_among fs k = map (λ f. f.tuple) (filter (λ f. f.relation == k) fs)

-- the keys of a counter with their values, among readings
abbrev pub values_among : List Reading → ℕ → List (List ℕ × ℤ)
values_among rs k = map (λ r. (r.key, r.value)) (filter (λ r. r.counter == k) rs)

-- the tuples of each relation, where the first one has this number
abbrev pub relations_from : ℕ → List Relation → List Fact → List (List (List ℕ))
relations_from k [] fs = []
relations_from k (r ∷ more) fs = tuples_among fs k ∷ relations_from (suc k) more fs

-- the keys of each counter with their values, where the first counter has this number
abbrev pub counters_from : ℕ → List Counter → List Reading → List (List (List ℕ × ℤ))
counters_from k [] rs = []
counters_from k (c ∷ more) rs = values_among rs k ∷ counters_from (suc k) more rs

-- The state that a witness shows: it holds the tuples among the facts, and has the values among the readings. What isn't shown is
-- false or 0.
abbrev pub listing_of : Specification → PartialWitness → Listing
listing_of d p = record {
  relations = relations_from 0 d.relations p.facts;
  counters = counters_from 0 d.counters p.readings;
}
