-- The generated specifications are well formed: each is tested by computing.
use Rattle.std.proofs.Common.{◌≡◌, ℕ, zero, suc, ◌≤◌, true, List, [], refl, ◌∙◌, ap, arith}
use Rattle.std.specs.Fmt.{digits}
use Rattle.spec_core.specs.declared.operation.Operation.{Operation}
use Rattle.spec_core.specs.declared.spec.Const.{Const}
use Rattle.spec_core.specs.declared.spec.Relation.{Relation}
use Rattle.spec_core.specs.declared.spec.Counter.{Counter}
use Rattle.spec_core.specs.declared.spec.Token.{Token}
use Rattle.spec_core.specs.declared.spec.Rule.{Rule}
use Rattle.spec_core.specs.declared.spec.Invariant.{Invariant}
use Rattle.spec_core.specs.Specification.{Specification}
use Rattle.spec_core.specs.Typed.{is_specification}
use Rattle.sample_specs.specs.Sample.{sample}

pub well_formed : (n : ℕ) → 1 ≤ n → n ≤ 12 → is_specification (sample n) ≡ true
unfolding digits
well_formed zero some few = absurd (omega (arith, some))
well_formed (suc zero) some few = refl
well_formed (suc (suc zero)) some few = refl
well_formed (suc (suc (suc zero))) some few = refl
well_formed (suc (suc (suc (suc zero)))) some few = refl
well_formed (suc (suc (suc (suc (suc zero))))) some few = refl
well_formed (suc (suc (suc (suc (suc (suc zero)))))) some few = refl
well_formed (suc (suc (suc (suc (suc (suc (suc zero))))))) some few = refl
well_formed (suc (suc (suc (suc (suc (suc (suc (suc zero)))))))) some few = refl
well_formed (suc (suc (suc (suc (suc (suc (suc (suc (suc zero))))))))) some few = refl
well_formed (suc (suc (suc (suc (suc (suc (suc (suc (suc (suc zero)))))))))) some few = refl
well_formed (suc (suc (suc (suc (suc (suc (suc (suc (suc (suc (suc zero))))))))))) some few = refl
well_formed (suc (suc (suc (suc (suc (suc (suc (suc (suc (suc (suc (suc zero)))))))))))) some few = refl
well_formed (suc (suc (suc (suc (suc (suc (suc (suc (suc (suc (suc (suc (suc n))))))))))))) some few = absurd (omega (arith, few))

-- ---- of their parts

abbrev of_parts : List (List ℕ) → List Const → List Relation → List Counter → List Token → List Rule → List Invariant → List Operation → Specification
of_parts sorts consts relations counters tokens rules invariants operations =
    record { version = 1; sorts = sorts; consts = consts; relations = relations; counters = counters; tokens = tokens; rules = rules; invariants = invariants; operations = operations }

pub parts_well_formed : (n : ℕ) → 1 ≤ n → n ≤ 12
    → (sorts : List (List ℕ)) (consts : List Const) (relations : List Relation) (counters : List Counter) (tokens : List Token) (rules : List Rule) (invariants : List Invariant) (operations : List Operation)
    → sorts ≡ (sample n).sorts → consts ≡ [] → relations ≡ (sample n).relations → counters ≡ [] → tokens ≡ (sample n).tokens → rules ≡ (sample n).rules → invariants ≡ (sample n).invariants
    → operations ≡ (sample n).operations → is_specification (of_parts sorts consts relations counters tokens rules invariants operations) ≡ true
parts_well_formed n some few sorts consts relations counters tokens rules invariants operations a b c d e f g h =
    ap is_specification (λ i. of_parts (a i) (b i) (c i) (d i) (e i) (f i) (g i) (h i)) ∙ well_formed n some few
