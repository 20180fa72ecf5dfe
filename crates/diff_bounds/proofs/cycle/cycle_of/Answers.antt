use Rattle.std.proofs.Common.{◌≡◌, ℕ, ◌-◌, List, None, length, drop, sym, ◌∙◌, ap, arith}
use Rattle.std.proofs.lemmas.List.{get_or_read}
use Rattle.diff_bounds.specs.Cycles.{IsCycle}
use Rattle.diff_bounds.proofs.Seeing.{going-start, at-below, place-seen, before-at, going-on, cycle-seen, ok_more}
use Rattle.diff_bounds.proofs.cycle.cycle_of.Goals as goal

pub back-init : goal.back-init
back-init c = going-start c.args.walks.now.ints c.args.walks.now.visits.items c.in_ok-seen.seen.items (length c.args.walks.now.visits.items - 1) (c.len-at.result - 1) c.new-used.result c.in_ok-seen.ensures c.new-used.ensures (omega (arith, c.len-at.ensures, c.args.walks.now.visits.ok.0))

pub index-visit-requires : goal.index-visit-requires
index-visit-requires c = omega (arith, at-below c.args.walks.now c.args.edges.now c.back.seen.items c.back.used c.back.at c.requires.kept c.requires.long c.back.invariant, c.args.walks.now.visits.ok.0)

pub index-requires : goal.index-requires
index-requires c = omega (arith, place-seen c.args.walks.now c.args.edges.now c.back.seen.items c.back.used c.back.at c.index-visit.result.now c.requires.kept c.requires.long c.back.invariant c.index-visit.ensures, c.back.seen.ok.0)

pub from_place-requires : goal.from_place-requires
from_place-requires c =
    let i = place-seen c.args.walks.now c.args.edges.now c.back.seen.items c.back.used c.back.at c.index-visit.result.now c.requires.kept c.requires.long c.back.invariant c.index-visit.ensures in
    let e = get_or_read c.back.seen.items c.index-visit.result.now.place c.index.result.now i c.index.ensures None in
    let p = c.back.invariant.places c.index-visit.result.now.place c.in-Some.first (sym e ∙ c.in-Some.is) in
    omega (arith, p.0, ap (length {A = ℕ}) c.as_slice.ensures)

pub returns-in-Some : goal.returns-in-Some
returns-in-Some c =
    let i = place-seen c.args.walks.now c.args.edges.now c.back.seen.items c.back.used c.back.at c.index-visit.result.now c.requires.kept c.requires.long c.back.invariant c.index-visit.ensures in
    let e = get_or_read c.back.seen.items c.index-visit.result.now.place c.index.result.now i c.index.ensures None in
    ok_more (λ (rest : List ℕ). rest ≡ drop c.in-Some.first c.as_slice.result.now) (IsCycle c.args.walks.now.visits.items)
    (λ rest h. cycle-seen c.args.walks.now c.args.edges.now c.back.seen.items c.back.used c.back.at c.index-visit.result.now c.in-Some.first rest c.requires.kept c.requires.long c.back.invariant c.index-visit.ensures (sym e ∙ c.in-Some.is) (h ∙ ap (λ (l : List ℕ). drop c.in-Some.first l) c.as_slice.ensures)) c.from_place.result c.from_place.ensures

pub index_mut-requires : goal.index_mut-requires
index_mut-requires c = omega (arith, place-seen c.args.walks.now c.args.edges.now c.back.seen.items c.back.used c.back.at c.index-visit.result.now c.requires.kept c.requires.long c.back.invariant c.index-visit.ensures, c.back.seen.ok.0)

pub back-smaller : goal.back-smaller
back-smaller c =
    let i = place-seen c.args.walks.now c.args.edges.now c.back.seen.items c.back.used c.back.at c.index-visit.result.now c.requires.kept c.requires.long c.back.invariant c.index-visit.ensures in
    let e = get_or_read c.back.seen.items c.index-visit.result.now.place c.index.result.now i c.index.ensures None in
    before-at c.args.walks.now c.args.edges.now c.back.seen.items c.back.used c.back.at c.index-visit.result.now c.requires.kept c.requires.long c.back.invariant c.index-visit.ensures (sym e ∙ c.in-None.is)

pub back-preserved : goal.back-preserved
back-preserved c =
    let i = place-seen c.args.walks.now c.args.edges.now c.back.seen.items c.back.used c.back.at c.index-visit.result.now c.requires.kept c.requires.long c.back.invariant c.index-visit.ensures in
    let e = get_or_read c.back.seen.items c.index-visit.result.now.place c.index.result.now i c.index.ensures None in
    going-on c.args.walks.now c.args.edges.now c.back.seen.items c.back.used c.back.at c.index-visit.result.now c.len.result c.push.new.self c.requires.kept c.requires.long c.back.invariant c.index-visit.ensures (sym e ∙ c.in-None.is) c.len.ensures c.in_ok-push.ensures.ok
