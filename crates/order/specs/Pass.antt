-- What the pass over the nodes keeps, and how it judges a node.
use Rattle.std.specs.Prelude.{◌≡◌, ℕ, ◌<◌, true, false, List, map, length, Some, None, Option, slice_index}
use Rattle.card.specs.declared.record.TableCounts.{TableCounts}
use Rattle.card.specs.Contents.{above}
use Rattle.card.specs.Tables.{Entries, contents}
use Rattle.card.specs.TableOrder.{in_order}
use Rattle.order.specs.declared.links.Note.{Note}

-- the depth that is noted of each node
abbrev pub depths : List Note → List ℕ
depths notes = map (λ n. n.depth) notes

-- the depths of the nodes below k
pub record Depths (e : Entries) (c : TableCounts) (k : ℕ) (ds : List ℕ) : Type 0 where
  pub long : length ds ≡ 4096
  pub each : (j : ℕ) → j < k → slice_index ds j ≡ length (above (contents e c) j)

-- a node in order has a depth, one out of order none
abbrev pub Judged : Entries → TableCounts → ℕ → Option ℕ → Type 0
Judged e c k None = in_order e c k ≡ false
Judged e c k (Some depth) = (in_order e c k ≡ true) × (depth ≡ length (above (contents e c) k))
