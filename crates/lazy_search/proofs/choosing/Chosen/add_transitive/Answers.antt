use Rattle.std.proofs.Common.{◌≡◌, ℕ, ◌+◌, ◌-◌, ◌≤◌, List, length, map, take, drop, refl, sym, subst, arith}
use Rattle.ground_numbers.specs.Clauses.{all_clauses}
use Rattle.ground_atoms.specs.declared.formula.GroundFormula.{GroundFormula}
use Rattle.ground_atoms.specs.Formulas.{form_of}
use Rattle.lazy_ground.specs.declared.grounding.LazyGround.{LazyGround}
use Rattle.lazy_ground.specs.Lazy.{lazy_forms}
use Rattle.lazy_search.specs.declared.places.Place.{Place}
use Rattle.lazy_search.specs.Chosen.{IsBehind, StandFrom}
use Rattle.lazy_search.proofs.Implied.{single_behind, some_stand}
use Rattle.lazy_search.proofs.choosing.Chosen.add_transitive.Goals as goal

pub returns : goal.returns
returns c =
    let g : LazyGround = c.args.ground.now in
    let name : ℕ = length g.atoms.table.atoms in
    let first : Place = c.args.layout.now.transitive in
    let from : ℕ = c.args.layout.now.from in
    let place : ℕ = c.in-Some.place in
    let at : ℕ = c.in-Some-checked_add.at in
    let own : Place = record { clause = c.args.number; name = first.name } in
    let number : c.args.number ≡ first.clause + place = let e = c.in-Some.ensures in omega (arith, e) in
    let there : at ≡ from + place = c.in-Some-checked_add.ensures.1 in
    let short : from + place ≤ length g.front = let l = c.len.ensures in omega (arith, l, there, c.if-at-len.false) in
    let moved : IsBehind name (map form_of (take at g.front)) own =
    subst (λ (z : ℕ). IsBehind name (map form_of (take z g.front)) own) (sym there)
    (single_behind name from place g.front first own c.requires.layout.transitive c.requires.layout.implied short number refl) in
    let stands : StandFrom (all_clauses name (lazy_forms g)) own.clause (all_clauses own.name (map form_of (take ((at + 1) - at) (drop at g.front)))) =
    some_stand g name at ((at + 1) - at) own moved in
    c.in_ok-add.ensures.chosen (all_clauses name (lazy_forms g))
    (subst (λ (z : List GroundFormula). StandFrom (all_clauses name (lazy_forms g)) own.clause (all_clauses own.name (map form_of (take ((at + 1) - at) (drop at z))))) (sym c.as_slice.ensures) stands) c.requires.chosen
