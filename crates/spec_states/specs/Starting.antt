-- What one relation and one counter list in the initial state; for proofs alone.
use Rattle.std.specs.Prelude.{◌≡◌, ℕ, ℤ, true, cond, List, [], map}
use Rattle.spec_core.specs.declared.spec.Relation.{Relation}
use Rattle.spec_core.specs.declared.spec.Counter.{Counter}
use Rattle.spec_core.specs.declared.world.World.{World}
use Rattle.spec_core.specs.State.{is_in, count_in, listed_keys, is_rising}
use Rattle.spec_core.specs.World.{tuples}
use Rattle.spec_core.specs.Fits.{fits_places, is_counts}

-- tuples that read as a relation does in the initial state
pub record StartsAs (w : World) (r : Relation) (ts : List (List ℕ)) : Type 0 where
  pub has : (q : List ℕ) → is_in q ts ≡ is_in q (cond r.initial (tuples w r.places) [])
  pub rising : is_rising ts ≡ true

-- keys with values that read as a counter does in the initial state
pub record CountsAs (w : World) (c : Counter) (es : List (List ℕ × ℤ)) : Type 0 where
  pub count : (q : List ℕ) → count_in es q ≡ count_in
      (map (λ key. (key, c.initial)) (tuples w c.keys)) q
  pub listed : (q : List ℕ) → is_in q (listed_keys es) ≡ true → fits_places w c.keys q ≡ true
  pub counts : is_counts es ≡ true
