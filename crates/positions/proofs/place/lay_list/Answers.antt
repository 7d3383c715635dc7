use Rattle.std.proofs.Common.{get_or, ap, ◌∙◌, arith}
use Rattle.positions.specs.Positions.{nowhere, put}
use Rattle.positions.proofs.Entries.{partly_more}
use Rattle.positions.proofs.place.lay_list.Goals as goal

pub loop-i-preserved : goal.loop-i-preserved
loop-i-preserved c =
    partly_more _ c.loop-i.i c.args.part.now c.loop-i.part c.put.result nowhere (omega arith)
    (c.put.ensures ∙ ap (put c.args.axis (get_or c.loop-i.part c.loop-i.i nowhere)) c.get.ensures)
    c.loop-i.invariant
