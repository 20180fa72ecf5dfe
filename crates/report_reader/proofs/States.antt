-- A state that fits has a list for each relation and each counter.
use Rattle.std.proofs.Common.{◌≡◌, ℕ, suc, ℤ, ◌<◌, true, List, [], ◌∷◌, length, refl, ap, subst}
use Rattle.std.proofs.lemmas.Bool.{false≢true, and_parts, ltb-true}
use Rattle.spec_core.specs.declared.spec.Relation.{Relation}
use Rattle.spec_core.specs.declared.spec.Counter.{Counter}
use Rattle.spec_core.specs.declared.world.World.{World}
use Rattle.spec_core.specs.Specification.{Specification}
use Rattle.spec_core.specs.State.{Listing}
use Rattle.spec_core.specs.Fits.{lists_fit, values_fit, is_state}
use Rattle.report_lines.specs.declared.witness.Fact.{Fact}
use Rattle.report_lines.specs.declared.witness.Reading.{Reading}
use Rattle.report_reader.specs.Reader.{fact_fits, reading_fits}

lists_many : (w : World) (rs : List Relation) (ls : List (List (List ℕ))) → lists_fit w rs ls ≡ true → length rs ≡ length ls
lists_many w [] [] h = refl
lists_many w [] (l ∷ ls) h = absurd (false≢true h)
lists_many w (r ∷ rs) [] h = absurd (false≢true h)
lists_many w (r ∷ rs) (l ∷ ls) h = ap (λ (n : ℕ). suc n) (lists_many w rs ls (and_parts _ _ h).1)

values_many : (w : World) (cs : List Counter) (ls : List (List (List ℕ × ℤ))) → values_fit w cs ls ≡ true → length cs ≡ length ls
values_many w [] [] h = refl
values_many w [] (l ∷ ls) h = absurd (false≢true h)
values_many w (c ∷ cs) [] h = absurd (false≢true h)
values_many w (c ∷ cs) (l ∷ ls) h = ap (λ (n : ℕ). suc n) (values_many w cs ls (and_parts _ _ h).1)

pub fact_within : (d : Specification) (w : World) (s : Listing) (f : Fact) → is_state d w s ≡ true → fact_fits d w f ≡ true → f.relation < length s.relations
fact_within d w s f h fit = subst (λ n. f.relation < n) (lists_many w d.relations s.relations (and_parts _ _ h).0) (ltb-true f.relation (length d.relations) (and_parts _ _ fit).0)

pub reading_within : (d : Specification) (w : World) (s : Listing) (r : Reading) → is_state d w s ≡ true → reading_fits d w r ≡ true → r.counter < length s.counters
reading_within d w s r h fit = subst (λ n. r.counter < n) (values_many w d.counters s.counters (and_parts _ _ h).1) (ltb-true r.counter (length d.counters) (and_parts _ _ fit).0)
