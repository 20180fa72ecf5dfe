use Rattle.std.proofs.Common.{◌≡◌, ◌<◌, ℕ, List, length, get_or, slice_get, Some, refl, subst, ◌∙◌, ap, arith}
use Rattle.std.proofs.lemmas.Option.{slice_get_read}
use Rattle.ground_numbers.specs.Clauses.{all_clauses}
use Rattle.ground_atoms.specs.Formulas.{form_of}
use Rattle.lazy_ground.specs.declared.pairs.ReadingPairs.{ReadingPairs}
use Rattle.lazy_ground.specs.declared.grounding.LazyGround.{LazyGround}
use Rattle.lazy_ground.specs.Lazy.{lazy_forms}
use Rattle.lazy_search.specs.declared.places.Place.{Place}
use Rattle.lazy_search.specs.Chosen.{IsMoved, pair_place}
use Rattle.lazy_search.proofs.Placing.{pairs_at, pair_stands}
use Rattle.lazy_search.proofs.choosing.Chosen.add_pair.Goals as goal

pub pair_formula-requires-clause-atoms : goal.pair_formula-requires-clause-atoms
pair_formula-requires-clause-atoms c =
    let g : LazyGround = c.args.ground.now in
    let r : ℕ = c.args.pair.relation in
    let s : ReadingPairs = c.index-as_slice-relation.result in
    let item : slice_get g.pairs r ≡ Some s =
    slice_get_read g.pairs c.len.result r s c.len.ensures c.if-relation-len.false (c.index-as_slice-relation.is ∙ ap (λ (z : List ReadingPairs). get_or z r s) c.as_slice.ensures) in
    (pairs_at g.atoms.table g.pairs r s c.requires item).1

pub returns-in-Ok : goal.returns-in-Ok
returns-in-Ok c = λ name h old.
    let g : LazyGround = c.args.ground.now in
    let r : ℕ = c.args.pair.relation in
    let s : ReadingPairs = c.index-as_slice-relation.result in
    let first : Place = c.index-first.result.now in
    let item : slice_get g.pairs r ≡ Some s =
    slice_get_read g.pairs c.len.result r s c.len.ensures c.if-relation-len.false (c.index-as_slice-relation.is ∙ ap (λ (z : List ReadingPairs). get_or z r s) c.as_slice.ensures) in
    let placed : List Place = c.args.layout.now.firsts.items in
    let short : r < length placed = let l = c.len-else-relation-len.ensures in omega (arith, l, c.if-relation-len-2.false) in
    let there : slice_get placed r ≡ Some first = slice_get_read placed (length placed) r first refl short c.index-first.ensures in
    let within : c.args.pair.later < length s.tuples = let a = c.len-else-earlier-later.ensures in let b = c.if-later-len.false in omega (arith, a, b) in
    let moved : IsMoved first (pair_place (length s.tuples) c.args.pair.earlier c.args.pair.later) c.in-Some.at =
    subst (λ (z : ℕ). IsMoved first (pair_place z c.args.pair.earlier c.args.pair.later) c.in-Some.at) c.len-2.ensures c.in-Some.ensures in
    let stands = pair_stands g name r c.args.pair.earlier c.args.pair.later s (form_of c.in-Some-2.form) first c.in-Some.at c.requires item (h.firsts r first there)
    c.if-earlier-later.false within moved (rw c.in-Some-2.is at c.in_ok-form.ensures) in
    c.in-Ok.ensures.chosen (all_clauses name (lazy_forms g)) stands old
