use Rattle.std.proofs.Common.{◌∙◌, sym, refl, ap, inl, inr, length}
use Rattle.std.proofs.lemmas.Result.{on_ok_weaker}
use Rattle.std.proofs.lemmas.List.{length-set}
use Rattle.log_freshness.specs.Index.{PutsOne}
use Rattle.log_freshness.specs.Blocks.{PutsInBlocks}
use Rattle.log_freshness.proofs.freshness.put_clause.Goals as goal

pub returns-then-is_for_blocks : goal.returns-then-is_for_blocks
returns-then-is_for_blocks c =
    let old = c.args.index.now in
    on_ok_weaker c.put_in_blocks.result
    (λ (p : PutsInBlocks old.count c.args.lits.now c.args.number old.blocks c.put_in_blocks.new.blocks). record { count = refl; listed = c.requires.listed; either = inr (refl, p) })
    c.put_in_blocks.ensures

pub returns : goal.returns
returns c =
    let old = c.args.index.now in
    on_ok_weaker c.put.result
    (λ (p : PutsOne old.count c.args.lits.now c.args.number old.lists.items c.put.new.index.lists.items). record {
      count = c.put.ensures.count;
      listed = ap length p.lists ∙ length-set old.lists.items p.at _ ∙ c.requires.listed ∙ sym c.put.ensures.count;
      either = inl (p, c.put.ensures.blocks);
    })
    c.put.ensures.puts
