use Rattle.std.proofs.Common.{◌≡◌, ◌++◌, [], ◌∷◌, ℕ, List, length, map, take, slice_get, Some, sym, subst}
use Rattle.proof_lines.specs.declared.clause.Lit.{Lit}
use Rattle.ground_numbers.specs.Numbered.{Numbered}
use Rattle.ground_numbers.specs.Clauses.{all_clauses}
use Rattle.ground_atoms.specs.Formulas.{form_of}
use Rattle.clausify.specs.Kept.{AreClausesOf}
use Rattle.lazy_ground.specs.declared.grounding.LazyGround.{LazyGround}
use Rattle.lazy_ground.specs.Lazy.{lazy_forms}
use Rattle.lazy_search.specs.Chosen.{AreAt}
use Rattle.lazy_search.proofs.Adding.{one_more_at}
use Rattle.lazy_search.proofs.Behind.{kept_stands}
use Rattle.lazy_search.proofs.choosing.Chosen.add_kept.Goals as goal

pub returns : goal.returns
returns c =
    let g : LazyGround = c.args.ground.now in
    let name : ℕ = length g.atoms.table.atoms in
    let count : ℕ = c.in-Some.field-0-1 in
    let fs : List Numbered = map form_of g.front in
    let all : List (List Lit) = all_clauses name (lazy_forms g) in
    let clause : List Lit = c.in-Some-2.clause in
    let kept : AreClausesOf (take count fs) c.in-Some.kept.now = c.in-Some.ensures fs c.requires.clauses in
    let found : slice_get (all_clauses c.args.sizes.now.first (take count fs)) c.args.place ≡ Some clause = (rw c.in-Some-2.is at c.in_ok-clause.ensures) (take count fs) kept in
    let there : slice_get (all_clauses name (take count fs)) c.args.place ≡ Some clause =
    subst (λ (z : ℕ). slice_get (all_clauses z (take count fs)) c.args.place ≡ Some clause) c.requires.sizes.first found in
    let one : AreAt all (c.args.self.now.clauses ++ clause ∷ []) (c.args.self.now.numbers.items ++ c.args.place ∷ []) =
    one_more_at all c.args.self.now.clauses c.args.self.now.numbers.items c.args.place clause (kept_stands g name count c.args.place clause there) c.requires.chosen in
    subst (λ (z : List (List Lit)). AreAt all z c.push-2.new.self.items) (sym c.in_ok-push.ensures.ok)
    (subst (λ (z : List ℕ). AreAt all (c.args.self.now.clauses ++ clause ∷ []) z) (sym c.in_ok-push-2.ensures.items) one)
