use Rattle.std.proofs.Common.{sym}
use Rattle.parser_combinators.specs.declared.token.Key.TheVariants.{Open}
use Rattle.parser_combinators.proofs.KeyLemmas.{key_from-next, key_from-found, key_from-none}
use Rattle.parser_combinators.proofs.making.key_among.Goals as goal

pub keys-preserved : goal.keys-preserved
keys-preserved c = key_from-next c.args.keys.now c.args.text.now c.key_text.result.now c.keys.key-index Open c.keys-test.true c.key_text.ensures (cc) c.keys.invariant

pub returns-then-eq : goal.returns-then-eq
returns-then-eq c = sym (key_from-found c.args.keys.now c.args.text.now c.key_text.result.now c.keys.key-index Open c.keys-test.true c.key_text.ensures (cc) c.keys.invariant)

pub returns : goal.returns
returns c = sym (key_from-none c.args.keys.now c.args.text.now c.keys.key-index c.keys-test.false c.keys.invariant)
