use Rattle.std.proofs.Common.{◌≡◌, ◌<◌, ◌*◌, ◌%◌, ◌^◌, ◌∙◌, ℕ, List, true, sym, ap, subst, set, length}
use Rattle.std.specs.Prelude.{slice_index_or, bit_or}
use Rattle.std.proofs.lemmas.List.{length-set}
use Rattle.proof_lines.specs.Numbers.{stands_in}
use Rattle.log_freshness.specs.Index.{spots}
use Rattle.log_freshness.specs.Blocks.{BitsAre}
use Rattle.log_freshness.proofs.Index.{spot-among}
use Rattle.log_freshness.proofs.Masks.{bits-step}
use Rattle.log_freshness.proofs.blocks.set_bits.Goals as goal

pub loop-lit-preserved : goal.loop-lit-preserved
loop-lit-preserved c =
    let masks : List ℕ = c.loop-lit.masks.items in
    let at : ℕ = c.spot-at.result in
    let value : c.mask_at-mask.result ≡ slice_index_or masks at 0 = c.mask_at-mask.ensures ∙ ap (λ (z : List ℕ). slice_index_or z at 0) c.as_slice.ensures.value in
    let among : stands_in (spots c.args.count c.args.lits.now) at ≡ true =
    subst (λ (z : ℕ). stands_in (spots c.args.count c.args.lits.now) z ≡ true) (sym c.spot-at.ensures.is) (spot-among c.args.count c.args.lits.now c.loop-lit.lit-index _ c.loop-lit-test.true) in
    let below : at < length masks = subst (λ (z : ℕ). at < z) (sym c.loop-lit.invariant.0) c.spot-at.ensures.below in (
      length-set masks at _ ∙ c.loop-lit.invariant.0,
      subst (λ (z : ℕ). BitsAre c.args.count c.args.lits.now c.args.place c.args.masks.now.items (set masks at (bit_or z (1 * 2 ^ c.args.place % 2 ^ 128)))) (sym value)
          (bits-step c.args.count c.args.lits.now c.args.place at c.args.masks.now.items masks c.requires.within below among c.loop-lit.invariant.1),
    )
