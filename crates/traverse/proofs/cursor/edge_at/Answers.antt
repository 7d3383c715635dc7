use Rattle.std.proofs.Common.{rules}
use Rattle.traverse.specs.Cursor.{begun}
use Rattle.traverse.proofs.Visited.{moved_none, moved_more, visits}
use Rattle.traverse.proofs.cursor.edge_at.Goals as goal

pub loop-init : goal.loop-init
loop-init c = let m = moved_none c.args.nodes.now (begun c.args.start) in search rules

pub loop-preserved : goal.loop-preserved
loop-preserved c = let m = moved_more c.args.nodes.now c.loop.counter (begun c.args.start) in search rules

pub returns : goal.returns
returns c = record { steps = search rules; visits_exactly_the_subtree = visits _ _ _ _ (search rules) }
