use Rattle.std.proofs.Common.{◌≡◌, ◌≤◌}
use Rattle.card.specs.Lists.{member}
use Rattle.card.specs.Contents.{above}
use Rattle.card.specs.Tables.{entries, contents}
use Rattle.order.proofs.whole.WholeTables.lies_above.Given as goal

-- the sought number lies above the node that was reached as it does above the first
abbrev pub invariant-loop-at : goal.invariant-loop-at
invariant-loop-at l =
    (l.at ≤ l.from)
    × (member l.sought (above (contents (entries l.self.tables) l.self.counts) l.at) ≡ member l.sought (above (contents (entries l.self.tables) l.self.counts) l.from))

abbrev pub decreases-loop-at : goal.decreases-loop-at
decreases-loop-at l = l.at
