use Rattle.std.proofs.Common.{◌≡◌, ◌≤◌, ◌*◌, ◌^◌, ◌+ℤ◌, unsigned_abs, drop}
use Rattle.spec_core.specs.Truth.{sum_of}
use Rattle.spec_core.proofs.truth.sum_value.Given as goal

abbrev pub invariant-loop-summand : goal.invariant-loop-summand
invariant-loop-summand g l = record {
  so_far : l.sum +ℤ sum_of l.world (g.R.Readings.reads l.at) l.args l.vars (drop l.summand-index l.summands) ≡ sum_of l.world (g.R.Readings.reads l.at) l.args l.vars l.summands;
  small : unsigned_abs l.sum ≤ l.summand-index * (3 * 10 ^ 35);
}
