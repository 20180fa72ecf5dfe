use Rattle.std.proofs.Common.{◌≡◌, ◌<◌, ℕ, sym, subst}
use Rattle.std.proofs.lemmas.Result.{on_ok_weaker}
use Rattle.std.specs.Prelude.{◌++◌, ◌∷◌, [], slice_set, slice_index_or}
use Rattle.log_freshness.specs.declared.freshness.Entry.{Entry}
use Rattle.log_freshness.proofs.freshness.put.Goals as goal

pub returns-clause-puts : goal.returns-clause-puts
returns-clause-puts c =
    let old = c.args.index.now.lists.items in
    let first = c.rarest-first.result in
    let entry : Entry = record { number = c.args.number; second = c.rarest-second.result; third = c.rarest-third.result; fourth = c.rarest-fourth.result } in
    on_ok_weaker c.put_at.result
    (λ (p : c.put_at.new.lists.items ≡ slice_set old first (slice_index_or old first [] ++ entry ∷ [])). record {
      at = first;
      second = c.rarest-second.result;
      third = c.rarest-third.result;
      fourth = c.rarest-fourth.result;
      within = subst (λ (z : ℕ). first < z) (sym c.requires.listed) c.rarest-first.ensures.below;
      at_spot = c.rarest-first.ensures.among;
      second_spot = c.rarest-second.ensures.among;
      third_spot = c.rarest-third.ensures.among;
      fourth_spot = c.rarest-fourth.ensures.among;
      lists = p;
    })
    c.put_at.ensures
