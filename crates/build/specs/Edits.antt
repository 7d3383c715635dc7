-- What building a card writes in its tables: one node more, or one attribute more.
use Rattle.std.specs.Prelude.{ℕ, ◌+◌, List, [], ◌∷◌, ◌++◌, length, get_or, take, drop, Some, None, Option, slice_index_or, slice_set}
use Rattle.names.specs.declared.EId.{EId}
use Rattle.names.specs.declared.EId.TheVariants as tag
use Rattle.card.specs.declared.record.Attribute.{Attribute}
use Rattle.card.specs.declared.record.NodeKind.{NodeKind}
use Rattle.card.specs.declared.record.NodeKind.TheVariants as kind
use Rattle.card.specs.declared.record.NodeData.{NodeData}
use Rattle.card.specs.declared.record.TableCounts.{TableCounts}
use Rattle.card.specs.Contents.{Attr, Item, root, element, text}
use Rattle.card.specs.Tables.{Entries, blank, node}

-- ---- one node more

-- a node with another next sibling
abbrev pub with_next : NodeData → ℕ → NodeData
with_next n k = record { parent = n.parent; next = Some k; first = n.first; last = n.last; kind = n.kind }

-- a node with another first child
abbrev pub with_first : NodeData → ℕ → NodeData
with_first n k = record { parent = n.parent; next = n.next; first = Some k; last = n.last; kind = n.kind }

-- a node with another last child
abbrev pub with_last : NodeData → ℕ → NodeData
with_last n k = record { parent = n.parent; next = n.next; first = n.first; last = Some k; kind = n.kind }

-- a node of this kind inside p, with no children and no next sibling
abbrev pub fresh : ℕ → NodeKind → NodeData
fresh p k = record { parent = Some p; next = None; first = None; last = None; kind = k }

-- node k comes into p: it is the next sibling of p's last child, or p's first child
abbrev pub linked : List NodeData → ℕ → ℕ → Option ℕ → List NodeData
linked ns p k None = slice_set ns p (with_first (slice_index_or ns p blank) k)
linked ns p k (Some l) = slice_set ns l (with_next (slice_index_or ns l blank) k)

-- the nodes with a node k more, the last child of p
abbrev pub added : List NodeData → ℕ → ℕ → NodeKind → List NodeData
added ns p k kind =
    let m = linked ns p k (get_or ns p blank).last in
    slice_set (slice_set m p (with_last (slice_index_or m p blank) k)) k (fresh p kind)

-- values laid over a table from a place on
abbrev pub laid : {X : Type 0} → List X → ℕ → List X → List X
laid xs k ys = take k xs ++ (ys ++ drop (k + length ys) xs)

-- the tables with an element more inside p
abbrev pub with_element : Entries → TableCounts → ℕ → EId → Entries
with_element e c p t =
    record {
      nodes = added e.nodes p c.nodes (kind.Element t (record { start = c.attributes; end = c.attributes }));
      attributes = e.attributes;
      bytes = e.bytes;
      lengths = e.lengths;
    }

-- the counts with an element more
abbrev pub count_element : TableCounts → TableCounts
count_element c = record { nodes = c.nodes + 1; attributes = c.attributes; bytes = c.bytes; lengths = c.lengths }

-- the tables with a text more inside p
abbrev pub with_text : Entries → TableCounts → ℕ → List ℕ → Entries
with_text e c p bs =
    record {
      nodes = added e.nodes p c.nodes (kind.Text (record { start = c.bytes; end = c.bytes + length bs }));
      attributes = e.attributes;
      bytes = laid e.bytes c.bytes bs;
      lengths = e.lengths;
    }

-- the counts with a text of so many bytes more
abbrev pub count_text : TableCounts → ℕ → TableCounts
count_text c n = record { nodes = c.nodes + 1; attributes = c.attributes; bytes = c.bytes + n; lengths = c.lengths }

-- ---- one attribute more

-- an element's run of attributes up to another end
abbrev pub ended_at : NodeKind → ℕ → NodeKind
ended_at kind.Root k = kind.Root
ended_at (kind.Element t run) k = kind.Element t (record { start = run.start; end = k })
ended_at (kind.Text run) k = kind.Text run

-- a node with another end of its attributes
abbrev pub with_end : NodeData → ℕ → NodeData
with_end n k = record { parent = n.parent; next = n.next; first = n.first; last = n.last; kind = ended_at n.kind k }

-- the entry of an attribute whose value and reading are the next entries of their tables
abbrev pub entry_of : TableCounts → Attr → Attribute
entry_of c a =
    record {
      name = a.name;
      value = record { start = c.bytes; end = c.bytes + length a.value };
      lengths = record { start = c.lengths; end = c.lengths + length a.reading.lengths };
      marks = record { single = a.reading.single; plain = a.reading.plain };
    }

-- the tables with an attribute more of the element p
abbrev pub with_attribute : Entries → TableCounts → ℕ → Attr → Entries
with_attribute e c p a =
    record {
      nodes = slice_set e.nodes p (with_end (node e p) (c.attributes + 1));
      attributes = slice_set e.attributes c.attributes (entry_of c a);
      bytes = laid e.bytes c.bytes a.value;
      lengths = laid e.lengths c.lengths a.reading.lengths;
    }

-- the counts with such an attribute more
abbrev pub count_attribute : TableCounts → Attr → TableCounts
count_attribute c a = record { nodes = c.nodes; attributes = c.attributes + 1; bytes = c.bytes + length a.value; lengths = c.lengths + length a.reading.lengths }

-- an item with an attribute more, after those that it has
abbrev pub with_attr : Attr → Item → Item
with_attr a root = root
with_attr a (element p t attrs) = element p t (attrs ++ a ∷ [])
with_attr a (text p bytes) = text p bytes

-- ---- the first two nodes

-- the root, whose only child is node 1
abbrev pub root_node : NodeData
root_node = record { parent = None; next = None; first = Some 1; last = Some 1; kind = kind.Root }

-- the `svg` in it, without attributes
abbrev pub svg_node : NodeData
svg_node = fresh 0 (kind.Element tag.Svg (record { start = 0; end = 0 }))

-- the nodes of a card that is begun
abbrev pub begun_nodes : List NodeData → List NodeData
begun_nodes ns = slice_set (slice_set ns 0 root_node) 1 svg_node

-- the tables of a card that is begun
abbrev pub with_begun : Entries → Entries
with_begun e = record { nodes = begun_nodes e.nodes; attributes = e.attributes; bytes = e.bytes; lengths = e.lengths }

-- its counts
abbrev pub begun_counts : TableCounts
begun_counts = record { nodes = 2; attributes = 0; bytes = 0; lengths = 0 }
