use Rattle.std.proofs.Common.{rules, ◌≡◌, ◌<◌, length, get_or, sym, ◌∙◌, ap, arith, vec_len, List}
use Rattle.std.proofs.Math.ListN.{set}
use Rattle.spec_core.specs.declared.spec.Relation.{Relation}
use Rattle.spec_types.proofs.Setting.{truth_set, truth_beyond}
use Rattle.spec_types.proofs.initials.with_truth.Goals as goal
use Rattle.spec_types.proofs.initials.with_truth.Goals.{then-place-len, else-place-len}

pub returns : goal.returns
returns c =
    let e : c.into_vec-relations.result.items ≡ c.args.relations = c.into_vec-relations.ensures in
    let l : length c.into_vec-relations.result.items ≡ vec_len c.into_vec-relations.result = search rules in
    let k : length c.into_vec-relations.result.items ≡ length c.args.relations = ap (λ (rs : List Relation). length rs) e in
    elim c.if-place-len.branch [
      | then-place-len w ↦
          (let d = w.index_mut.result.now in
          let lt : c.args.place < length c.args.relations = omega (arith, w.if-place-len.true, c.len.ensures) in
          let value : d ≡ get_or c.args.relations c.args.place d = w.index_mut.ensures.value ∙ ap (λ rs. get_or rs c.args.place d) e in
          c.from_vec.ensures ∙ ap (λ v. v.items) w.relations-is
          ∙ ap (λ rs. set rs c.args.place (record d { initial = c.args.value })) e
          ∙ ap (λ x. set c.args.relations c.args.place (record x { initial = c.args.value })) value
          ∙ sym (truth_set c.args.relations c.args.place c.args.value d lt))
      | else-place-len w ↦
          c.from_vec.ensures ∙ ap (λ v. v.items) w.relations-is ∙ e ∙ sym (truth_beyond c.args.relations c.args.place c.args.value (omega (arith, w.if-place-len.false, c.len.ensures)))
    ]
