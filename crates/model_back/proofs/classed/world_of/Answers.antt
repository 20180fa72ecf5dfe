use Rattle.std.proofs.Common.{◌≡◌, ℕ, true, false, nat_lt, map, length, slice_index, slice_index_or, sym, ◌∙◌, ap, subst, arith}
use Rattle.std.specs.List.{list_all, range_with_len}
use Rattle.std.proofs.lemmas.Grind.{common_steps}
use Rattle.std.proofs.lemmas.List.FromFn.{length-map-range_with_len}
use Rattle.model_back.specs.Equals.{equals_from, alike_by, classes_by, element_by}
use Rattle.model_back.specs.Classed.{elements_in}
use Rattle.model_back.proofs.classed.world_of.Goals as goal

pub all_elements-requires-clause-classes : goal.all_elements-requires-clause-classes
all_elements-requires-clause-classes c =
    let f = classes_by (alike_by c.deref-2.result.now) c.args.sorts.now in
    let same : c.deref.result.now ≡ c.deref-2.result.now = c.deref.ensures.value ∙ sym c.deref-2.ensures.value in
    let made : c.deref-3.result.now ≡ map f (range_with_len 0 c.in-Ok-Ok.count) = c.deref-3.ensures.value ∙ c.in_ok-classes.ensures ∙ ap (λ es. map (classes_by (alike_by es) c.args.sorts.now) (range_with_len 0 c.in-Ok-Ok.count)) same in
    let size : c.in-Ok-Ok.count ≡ length c.deref-3.result.now = sym (ap length made ∙ length-map-range_with_len f 0 c.in-Ok-Ok.count) in
    made ∙ ap (λ n. map f (range_with_len 0 n)) size

pub all_elements-requires-clause-exist : goal.all_elements-requires-clause-exist
all_elements-requires-clause-exist c =
    let d = c.args.spec.now in
    let f = classes_by (alike_by c.deref.result.now) c.args.sorts.now in
    let count : c.in-Ok-Ok.count ≡ length d.sorts = grind (arith, common_steps) in
    let made : c.deref-3.result.now ≡ map f (range_with_len 0 c.in-Ok-Ok.count) = c.deref-3.ensures.value ∙ c.in_ok-classes.ensures in
    let size : length c.deref-3.result.now ≡ length d.sorts = ap length made ∙ length-map-range_with_len f 0 c.in-Ok-Ok.count ∙ count in
    subst (λ (n : ℕ). list_all (λ (s : ℕ). nat_lt s n) c.args.sorts.now ≡ true) (sym size) c.requires

pub returns : goal.returns
returns c =
    let d = c.args.spec.now in
    let sorts = c.args.sorts.now in
    let e : c.in_ok-equals.equals.items ≡ equals_from (λ (n : ℕ). slice_index_or c.args.truths.now n false) 0 c.args.atoms.now.table.atoms = c.in_ok-equals.ensures in
    let count : c.in-Ok-Ok.count ≡ length d.sorts = grind (arith, common_steps) in
    let declared : c.in-Ok-Ok.declared ≡ length d.consts = grind (arith, common_steps) in
    let cls : c.in_ok-classes.classes.items ≡ map (classes_by (alike_by c.in_ok-equals.equals.items) sorts) (range_with_len 0 c.in-Ok-Ok.count) =
    c.in_ok-classes.ensures ∙ ap (λ x. map (classes_by (alike_by x) sorts) (range_with_len 0 c.in-Ok-Ok.count)) c.deref.ensures.value in
    let els : c.in_ok-elements.elements.items ≡ map (element_by (alike_by c.in_ok-equals.equals.items) sorts) (range_with_len 0 (length sorts)) =
    c.in_ok-elements.ensures ∙ ap (λ x. map (element_by (alike_by x) sorts) (range_with_len 0 (length sorts))) c.deref-2.ensures.value in
    let classes = cls ∙ (λ i. map (classes_by (alike_by (e i)) sorts) (range_with_len 0 (count i))) in
    let elements = els ∙ (λ i. elements_in (alike_by (e i)) sorts) in
    record {
      elements = elements;
      world =
          c.in_ok-world.ensures
          ∙ (λ i. record {
            sizes = map length ((c.deref-4.ensures.value ∙ classes) i);
            consts = map (slice_index ((c.deref-5.ensures.value ∙ elements) i)) (range_with_len 0 (declared i));
          });
    }
