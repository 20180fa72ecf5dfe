use Rattle.std.proofs.Common.{◌≡◌, drop}
use Rattle.parser_combinators.specs.Texts.{key_from}
use Rattle.parser_combinators.proofs.making.key_among.Given as goal

abbrev pub invariant-keys : goal.invariant-keys
invariant-keys l = key_from l.keys l.text ≡ key_from (drop l.key-index l.keys) l.text
