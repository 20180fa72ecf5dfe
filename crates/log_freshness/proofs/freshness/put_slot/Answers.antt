use Rattle.std.proofs.Common.{◌∙◌, sym, ap, arith, None}
use Rattle.std.specs.Prelude.{option_copied}
use Rattle.std.proofs.lemmas.Result.{on_ok_weaker}
use Rattle.log_freshness.specs.Puts.{PutsClause}
use Rattle.log_freshness.proofs.Index.{index-some, index-dropped}
use Rattle.log_freshness.proofs.Masks.{index_fits-some}
use Rattle.log_freshness.proofs.freshness.put_slot.Goals as goal

pub put_clause-requires-clause-some : goal.put_clause-requires-clause-some
put_clause-requires-clause-some c = c.requires.fits.some

pub put_clause-requires-clause-listed : goal.put_clause-requires-clause-listed
put_clause-requires-clause-listed c = c.requires.fits.listed

pub put_clause-requires-clause-room : goal.put_clause-requires-clause-room
put_clause-requires-clause-room c = c.requires.fits.blocks.room

pub put_clause-requires-clause-sized : goal.put_clause-requires-clause-sized
put_clause-requires-clause-sized c = c.requires.fits.blocks.last.sized

pub returns-in-Some-clause-count : goal.returns-in-Some-clause-count
returns-in-Some-clause-count c =
    on_ok_weaker c.put_clause.result (λ (p : PutsClause c.in-Some.clause.now c.args.number c.args.index.now c.put_clause.new.index). p.count)
    c.put_clause.ensures

pub returns-in-Some-clause-fits : goal.returns-in-Some-clause-fits
returns-in-Some-clause-fits c =
    on_ok_weaker c.put_clause.result
    (λ (p : PutsClause c.in-Some.clause.now c.args.number c.args.index.now c.put_clause.new.index).
    index_fits-some c.args.slots.now c.args.index.now c.put_clause.new.index c.args.number None c.in-Some.clause.now c.requires.there
    (sym c.get.ensures.there ∙ ap option_copied c.in-Some.is) p c.requires.fits)
    c.put_clause.ensures

pub returns-in-Some-clause-next : goal.returns-in-Some-clause-next
returns-in-Some-clause-next c =
    on_ok_weaker c.put_clause.result
    (λ (p : PutsClause c.in-Some.clause.now c.args.number c.args.index.now c.put_clause.new.index).
    index-some c.args.slots.now c.args.index.now c.put_clause.new.index c.args.number _ None c.in-Some.clause.now (omega arith) c.requires.there
    (sym c.get.ensures.there ∙ ap option_copied c.in-Some.is) p)
    c.put_clause.ensures

pub returns-in-None-clause-next : goal.returns-in-None-clause-next
returns-in-None-clause-next c =
    let index = c.args.index.now in
    index-dropped index.count c.args.slots.now index.lists.items index.blocks c.args.number _ None (omega arith) c.requires.there (sym c.get.ensures.there ∙ ap option_copied c.in-None.is)
