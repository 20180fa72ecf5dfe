use Rattle.std.proofs.Common.{◌≡◌, ℕ, ◌-◌, sym, ◌∙◌, arith, true, get_or}
use Rattle.std.proofs.lemmas.Bool.{not-false}
use Rattle.std.specs.Prelude.{nat_eq}
use Rattle.std.specs.HashSet.{contains}
use Rattle.proof_kernel.proofs.States.{different-stop, different-drop}
use Rattle.proof_kernel.proofs.kernel.are_different.Goals as goal

pub returns-in-Ok-false : goal.returns-in-Ok-false
returns-in-Ok-false c =
    let ns = c.args.numbers.now in
    let i = c.loop-i.i in
    let n : ℕ = get_or ns (i - 1) 0 in
    let there : contains nat_eq c.loop-i.seen n ≡ true = not-false (contains nat_eq c.loop-i.seen n) (sym c.in-Ok-false.ensures.added ∙ c.in-Ok-false.field-0-test) in
    sym (different-drop ns (i - 1) (different-stop ns (i - 1) i (omega (arith, c.loop-i-test.true)) (omega (arith, c.loop-i-test.true, c.loop-i.invariant.within)) (sym (c.loop-i.invariant.seen n) ∙ there)))
