use Rattle.std.proofs.Common.{◌≡◌, ◌++◌, drop}
use Rattle.spec_trees.specs.Layout.{behind}
use Rattle.spec_trees.proofs.spelling.write_behind.Given as goal

abbrev pub invariant-words : goal.invariant-words
invariant-words l = l.out.items ++ behind l.version (drop l.symbol-index l.symbols) ≡ l.fn.out.items ++ behind l.version l.symbols
