use Rattle.std.proofs.Common.{◌≡◌, ◌+◌, ◌-◌, ◌≤◌, ℕ, true, List, length, map, take, drop, sym, subst}
use Rattle.std.specs.List.{list_all}
use Rattle.proof_lines.specs.declared.clause.Lit.{Lit}
use Rattle.ground_numbers.specs.Clauses.{all_clauses, all_names}
use Rattle.ground_atoms.specs.declared.formula.GroundFormula.{GroundFormula}
use Rattle.ground_atoms.specs.Formulas.{form_of}
use Rattle.lazy_ground.specs.declared.pairs.ReadingPairs.{ReadingPairs}
use Rattle.lazy_ground.specs.declared.grounding.LazyGround.{LazyGround}
use Rattle.lazy_ground.specs.Lazy.{lazy_forms}
use Rattle.lazy_search.specs.declared.places.Place.{Place}
use Rattle.lazy_search.specs.declared.places.Layout.{Layout}
use Rattle.lazy_search.specs.Chosen.{StandFrom, IsBehind, AreMoved, is_implied}
use Rattle.lazy_search.proofs.Implied.{first_stand, all_behind}
use Rattle.lazy_search.proofs.Placing.{behind_stands, laid_out}
use Rattle.lazy_search.proofs.choosing.Chosen.add_around.Goals as goal

-- the place behind the formulas in front of the pairs
front_behind : (c : goal.In-Ok) → IsBehind c.args.name (map form_of c.args.ground.now.front) c.in-Some.first
front_behind c =
    let fs : List GroundFormula = c.args.ground.now.front in
    let from : ℕ = c.implied_from-from.result in
    let all : list_all is_implied (drop from fs) ≡ true = subst (λ (z : List GroundFormula). list_all is_implied (drop from z) ≡ true) c.as_slice-front.ensures c.implied_from-from.ensures.implied in
    let within : from ≤ length fs = subst (λ (z : List GroundFormula). from ≤ length z) c.as_slice-front.ensures c.implied_from-from.ensures.within in
    let clause : c.in-Some.first.clause ≡ c.in_ok-transitive.transitive.clause + (length fs - from) =
    subst (λ (z : List GroundFormula). c.in-Some.first.clause ≡ c.in_ok-transitive.transitive.clause + (length z - from)) c.as_slice-front.ensures c.in-Some.ensures.clause in
    all_behind c.args.name from fs c.in_ok-transitive.transitive c.in-Some.first c.in_ok-transitive.ensures.behind all within clause c.in-Some.ensures.name

pub returns-in-Ok-clause-chosen : goal.returns-in-Ok-clause-chosen
returns-in-Ok-clause-chosen c = λ old.
    let g : LazyGround = c.args.ground.now in
    let name : ℕ = c.args.name in
    let all : List (List Lit) = all_clauses name (lazy_forms g) in
    let first : Place = c.in-Some.first in
    let last : Place = c.in-Some-2.pairs_end in
    let moved : AreMoved first g.pairs c.in-Some-2.firsts.items last =
    subst (λ (z : List ReadingPairs). AreMoved first z c.in-Some-2.firsts.items last) c.as_slice.ensures (rw c.in-Some-2.is at c.in_ok-firsts.ensures) in
    let at_end : StandFrom all last.clause (all_clauses last.name (map form_of c.as_slice-2.result.now)) =
    subst (λ (z : List GroundFormula). StandFrom all last.clause (all_clauses last.name (map form_of z))) (sym c.as_slice-2.ensures)
    (behind_stands g name first last (front_behind c) c.requires.pairs moved.behind) in
    c.in-Ok.ensures.chosen all at_end (c.in_ok-transitive.ensures.chosen all (first_stand g name c.implied_from-from.result) old)

pub returns-in-Ok-clause-layout : goal.returns-in-Ok-clause-layout
returns-in-Ok-clause-layout c =
    let g : LazyGround = c.args.ground.now in
    let name : ℕ = c.args.name in
    let from : ℕ = c.implied_from-from.result in
    let first : Place = c.in-Some.first in
    let last : Place = c.in-Some-2.pairs_end in
    let layout : Layout = record { firsts = c.in-Some-2.firsts; behind = c.in-Ok.behind; transitive = c.in_ok-transitive.transitive; from = from } in
    let all : list_all is_implied (drop from g.front) ≡ true =
    subst (λ (z : List GroundFormula). list_all is_implied (drop from z) ≡ true) c.as_slice-front.ensures c.implied_from-from.ensures.implied in
    let moved : AreMoved first g.pairs c.in-Some-2.firsts.items last =
    subst (λ (z : List ReadingPairs). AreMoved first z c.in-Some-2.firsts.items last) c.as_slice.ensures (rw c.in-Some-2.is at c.in_ok-firsts.ensures) in
    laid_out g name first last layout (front_behind c) c.requires.pairs c.in_ok-transitive.ensures.behind all moved
    (subst (λ (z : List GroundFormula). c.in-Ok.behind.clause ≡ last.clause + length (all_clauses last.name (map form_of z))) c.as_slice-2.ensures c.in-Ok.ensures.clause)
    (subst (λ (z : List GroundFormula). c.in-Ok.behind.name ≡ last.name + all_names (map form_of z)) c.as_slice-2.ensures c.in-Ok.ensures.name)
