-- A card that is begun: its tables hold the root and an `svg`, and are in order.
use Rattle.std.proofs.Common.{ℕ, zero, suc, ◌<◌, ◌≤◌, List, [], ◌∷◌, length, refl, arith, lit<, lit≤}
use Rattle.names.specs.declared.EId.TheVariants as tag
use Rattle.card.specs.declared.record.Length.{Length}
use Rattle.card.specs.declared.record.Attribute.{Attribute}
use Rattle.card.specs.declared.record.NodeData.{NodeData}
use Rattle.card.specs.Lists.{highest, lowest}
use Rattle.card.specs.Contents.{root, element, above}
use Rattle.card.specs.Tables.{Entries, contents}
use Rattle.card.specs.TableOrder.{attributes_end, NodeInOrder}
use Rattle.build.specs.Edits.{with_begun, begun_counts}
use Rattle.build.specs.Kept.{Kept}

module _ (attributes : List Attribute) (bytes : List ℕ) (lengths : List Length) where
  abbrev over : List NodeData → Entries
  over ns = record { nodes = ns; attributes = attributes; bytes = bytes; lengths = lengths }

  begun_node : (x y : NodeData) (rest : List NodeData) (k : ℕ) → k < 2 → NodeInOrder (with_begun (over (x ∷ y ∷ rest))) begun_counts k
  unfolding contents above highest lowest attributes_end
  begun_node x y rest zero l = record { present = lit< tt; parent = refl; place = refl; depth = lit≤ tt; first = refl; last = refl; next = refl; runs = refl }
  begun_node x y rest (suc zero) l = record { present = lit< tt; parent = refl; place = refl; depth = lit≤ tt; first = refl; last = refl; next = refl; runs = refl }
  begun_node x y rest (suc (suc k)) l = absurd (omega arith)

  begun_over : (ns : List NodeData) → 2 ≤ length ns → Kept (with_begun (over ns)) begun_counts (root ∷ element 0 tag.Svg [] ∷ []) 1
  unfolding contents above
  begun_over [] h = absurd (omega arith)
  begun_over (x ∷ []) h = absurd (omega arith)
  begun_over (x ∷ y ∷ rest) h =
      record {
        contents = refl;
        order = record { two = lit≤ tt; each = λ k l. begun_node x y rest k l };
        inside = refl;
        whole = record { nodes = omega arith; nodes_few = lit≤ tt; attributes = omega arith; attributes_few = lit≤ tt; bytes = omega arith; bytes_few = lit≤ tt; lengths = omega arith; lengths_few = lit≤ tt };
      }

-- a card that is begun
pub begun : (e : Entries) → 2 ≤ length e.nodes → Kept (with_begun e) begun_counts (root ∷ element 0 tag.Svg [] ∷ []) 1
begun e h = begun_over e.attributes e.bytes e.lengths e.nodes h
