use Rattle.std.proofs.Common.{List, [], ◌∷◌, ◌++◌, ◌∙◌, ap}
use Rattle.items.specs.Joined.{joined}
use Rattle.items.proofs.Joining.{joined_aside}
use Rattle.items.proofs.shared_list.SharedList.set_aside.Goals as goal

pub returns : goal.returns
returns g c =
    let blocks = c.self.inside.blocks.items in
    ap (λ bs. joined bs c.clear.new.self) c.in_ok-push.ensures.items
    ∙ ap (λ l. joined (blocks ++ c.in_ok-block.block ∷ []) l) c.clear.ensures
    ∙ ap (λ b. joined (blocks ++ b ∷ []) []) (c.in_ok-block.ensures ∙ c.as_slice.ensures)
    ∙ joined_aside blocks c.self.inside.rest
    ∙ c.self.view_is
