use Rattle.std.proofs.Common.{◌∙◌, ap, cond, false}
use Rattle.std.specs.Str.{bytes_eq}
use Rattle.spec_core.specs.State.{is_in}
use Rattle.spec_states.proofs.Entries.{tuples_of, remove_in, rising}
use Rattle.spec_states.proofs.listed.Tuples.take.Goals as goal

pub invariant_of-self : goal.invariant_of-self
invariant_of-self c = rising c.remove-was.new.self.keys c.remove-was.ensures.ordered

pub returns-clause-readings : goal.returns-clause-readings
returns-clause-readings c = λ q.
    ap (λ ks. is_in q (tuples_of ks)) c.remove-was.ensures.keys
    ∙ remove_in c.self.inside.keys.keys c.len-count.ensures.ordered c.args.tuple.now q
    ∙ ap (λ ts. cond (bytes_eq q c.args.tuple.now) false (is_in q ts)) c.self.view_is

pub returns-clause-rising : goal.returns-clause-rising
returns-clause-rising c = rising c.remove-was.new.self.keys c.remove-was.ensures.ordered
