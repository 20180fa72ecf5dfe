use Rattle.std.proofs.Common.{rules, ◌≡◌, ◌<◌, length, get_or, sym, ◌∙◌, ap, arith, vec_len, List, w64}
use Rattle.std.proofs.lemmas.Int.{to_z-of_z}
use Rattle.std.proofs.Math.ListN.{set}
use Rattle.spec_core.specs.declared.spec.Counter.{Counter}
use Rattle.spec_types.proofs.Setting.{number_set, number_beyond}
use Rattle.spec_types.proofs.initials.with_number.Goals as goal
use Rattle.spec_types.proofs.initials.with_number.Goals.{then-place-len, else-place-len}

pub returns : goal.returns
returns c =
    let e : c.into_vec-counters.result.items ≡ c.args.counters = c.into_vec-counters.ensures in
    let l : length c.into_vec-counters.result.items ≡ vec_len c.into_vec-counters.result = search rules in
    let k : length c.into_vec-counters.result.items ≡ length c.args.counters = ap (λ (rs : List Counter). length rs) e in
    elim c.if-place-len.branch [
      | then-place-len w ↦
          (let d = w.index_mut.result.now in
          let lt : c.args.place < length c.args.counters = omega (arith, w.if-place-len.true, c.len.ensures) in
          let value : d ≡ get_or c.args.counters c.args.place d = w.index_mut.ensures.value ∙ ap (λ rs. get_or rs c.args.place d) e in
          c.from_vec.ensures ∙ ap (λ v. v.items) w.counters-is
          ∙ ap (λ v. set c.into_vec-counters.result.items c.args.place (record d { initial = v })) (to_z-of_z w64 c.args.value c.ranges.value)
          ∙ ap (λ rs. set rs c.args.place (record d { initial = c.args.value })) e
          ∙ ap (λ x. set c.args.counters c.args.place (record x { initial = c.args.value })) value
          ∙ sym (number_set c.args.counters c.args.place c.args.value d lt))
      | else-place-len w ↦
          c.from_vec.ensures ∙ ap (λ v. v.items) w.counters-is ∙ e ∙ sym (number_beyond c.args.counters c.args.place c.args.value (omega (arith, w.if-place-len.false, c.len.ensures)))
    ]
