use Rattle.lazy_ground.proofs.grounding.Kept.none.Goals as goal

pub returns : goal.returns
returns c = λ d. record { entry = tt; pairs = tt; numbers = tt }
