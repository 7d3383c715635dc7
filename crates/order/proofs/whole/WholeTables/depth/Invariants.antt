use Rattle.std.proofs.Common.{◌≡◌, ◌+◌, ◌≤◌, length}
use Rattle.card.specs.Contents.{above}
use Rattle.card.specs.Tables.{entries, contents}
use Rattle.order.proofs.whole.WholeTables.depth.Given as goal

-- the elements that were passed, with those above the node that was reached
abbrev pub invariant-loop-at : goal.invariant-loop-at
invariant-loop-at l =
    (l.at + l.elements ≤ l.from)
    × (l.elements + length (above (contents (entries l.self.tables) l.self.counts) l.at) ≡ length (above (contents (entries l.self.tables) l.self.counts) l.from))

abbrev pub decreases-loop-at : goal.decreases-loop-at
decreases-loop-at l = l.at
