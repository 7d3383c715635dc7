-- Where a cursor begins, and where it goes from an edge.
use Rattle.std.specs.Prelude.{ℕ, zero, suc, cond, List, length, Some, None, Option, ◌==◌, nat_le, slice_index_or}
use Rattle.card.specs.declared.record.NodeData.{NodeData}
use Rattle.card.specs.Tables.{blank}
use Rattle.traverse.specs.declared.cursor.Edge.{Edge}
use Rattle.traverse.specs.declared.cursor.Edge.TheVariants.{Open, Close}
use Rattle.traverse.specs.declared.cursor.Traverse.{Traverse}

-- the node of an edge
abbrev pub number_of : Edge → ℕ
number_of (Open k) = k
number_of (Close k) = k

-- a cursor begins at its start's opening edge
abbrev pub begun : ℕ → Traverse
begun k = record { root = k; edge = Some (Open k) }

-- from an opening edge to the first child's, or without children to the closing edge
abbrev pub inward : ℕ → Option ℕ → Edge
inward k None = Close k
inward k (Some child) = Open child

-- from a closing edge to the next sibling's opening edge, or else to the parent's closing edge
abbrev pub outward : Option ℕ → Option ℕ → Option Edge
outward (Some next) parent = Some (Open next)
outward None (Some parent) = Some (Close parent)
outward None None = None

-- from an edge on by its node's links; the start's closing edge is the last
abbrev pub onward : ℕ → NodeData → Edge → Option Edge
onward start n (Open k) = Some (inward k n.first)
onward start n (Close k) = cond (k == start) None (outward n.next n.parent)

-- the same in a table: an edge of a number past it is the last
abbrev pub after_edge : List NodeData → ℕ → Option Edge → Option Edge
after_edge ns start None = None
after_edge ns start (Some e) = cond (nat_le (length ns) (number_of e)) None (onward start (slice_index_or ns (number_of e) blank) e)

-- a cursor after a step
abbrev pub stepped : List NodeData → Traverse → Traverse
stepped ns t = record { root = t.root; edge = after_edge ns t.root t.edge }

-- a cursor after n steps
unfoldable pub moved : List NodeData → ℕ → Traverse → Traverse
moved ns zero t = t
moved ns (suc n) t = stepped ns (moved ns n t)
