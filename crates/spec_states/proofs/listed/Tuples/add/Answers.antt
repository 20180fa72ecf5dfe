use Rattle.std.proofs.Common.{rules, ◌≡◌, ◌∙◌, ap, cond, true}
use Rattle.std.specs.Str.{bytes_eq}
use Rattle.spec_core.specs.State.{is_in}
use Rattle.spec_states.proofs.Entries.{tuples_of, insert_in, rising}
use Rattle.spec_states.proofs.listed.Tuples.add.Goals as goal

pub invariant_of-self-2 : goal.invariant_of-self-2
invariant_of-self-2 c = rising c.insert.new.self.keys c.insert.ensures.ordered

pub returns-clause-ok : goal.returns-clause-ok
returns-clause-ok c = λ q.
    let own : c.in_ok-own.own.items ≡ c.args.tuple.now = search rules in
    ap (λ ks. is_in q (tuples_of ks)) c.in_ok-insert.ensures.keys
    ∙ insert_in c.self.inside.keys.keys c.in_ok-own.own q
    ∙ ap (λ t. cond (bytes_eq q t) true (is_in q (tuples_of c.self.inside.keys.keys))) own
    ∙ ap (λ ts. cond (bytes_eq q c.args.tuple.now) true (is_in q ts)) c.self.view_is

pub returns-clause-rising : goal.returns-clause-rising
returns-clause-rising c = rising c.insert.new.self.keys c.insert.ensures.ordered
