use Rattle.token_protocol.proofs.Conflicting.{left_takes, right_takes}
use Rattle.token_protocol.proofs.law.law_conflicts_take_tokens.Goals as goal

pub returns : goal.returns
returns c = λ d w a b h. (left_takes d w a b h, right_takes d w a b h)
