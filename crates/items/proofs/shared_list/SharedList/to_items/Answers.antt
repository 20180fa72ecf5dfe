use Rattle.std.proofs.Common.{[], List, ◌++◌, ◌∙◌, ap}
use Rattle.items.specs.Joined.{joined}
use Rattle.items.proofs.Joining.{joined_two}
use Rattle.items.proofs.shared_list.SharedList.to_items.Goals as goal

pub returns : goal.returns
returns g c =
    let blocks = c.self.inside.blocks.items in
    let rest = c.self.inside.rest in
    c.in_ok-extend_from_slice.ensures.ok
    ∙ ap (λ l. l ++ c.as_slice-2.result.now) (c.in_ok-items.ensures ∙ ap (λ bs. joined bs []) c.as_slice.ensures.value)
    ∙ ap (λ l. joined blocks [] ++ l) c.as_slice-2.ensures
    ∙ joined_two blocks rest
    ∙ c.self.view_is
