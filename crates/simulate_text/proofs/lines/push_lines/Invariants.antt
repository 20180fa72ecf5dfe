use Rattle.std.proofs.Common.{◌≡◌, ◌++◌, drop}
use Rattle.simulate_text.specs.Lines.{said_lines}
use Rattle.simulate_text.proofs.lines.push_lines.Given as goal

abbrev pub invariant-loop-what : goal.invariant-loop-what
invariant-loop-what l =
    l.fn.text.items ++ said_lines l.spec l.number l.replica l.said ≡ l.text.items ++ said_lines l.spec l.number l.replica (drop l.what-index l.said)
