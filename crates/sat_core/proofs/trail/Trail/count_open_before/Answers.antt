use Rattle.std.proofs.Common.{rules, ◌≡◌, sym, ◌∙◌, ap, not, length}
use Rattle.std.specs.List.{count_by}
use Rattle.proof_lines.specs.Clauses.{flip}
use Rattle.sat_core.specs.Trails.{before_last}
use Rattle.sat_core.specs.Places.{lies_before, place_of, top_place}
use Rattle.sat_core.proofs.Seats.{open_by_places, before_last-place}
use Rattle.sat_core.proofs.trail.Trail.count_open_before.Goals as goal

pub returns : goal.returns
returns c =
    let t = c.args.self.now in
    let e : c.count.result ≡ count_by (λ l. not (lies_before c.top-end.result (place_of t (flip l)))) c.args.lits.now = search rules in
    let v = c.as_slice.ensures.value in
    let p = before_last-place t in
    let d = ap top_place c.self.invariant.decisions_places in
    let m = c.top-end.ensures in
    let k : length (before_last t) ≡ c.top-end.result = cc in
    e ∙ sym (open_by_places t c.top-end.result c.args.lits.now k)
