use Rattle.token_core.proofs.ids.make_room.Goals as goal

pub returns-clause-same : goal.returns-clause-same
returns-clause-same c = λ id. c.reserve.ensures.keys.2 (id.replica, id.turn)
