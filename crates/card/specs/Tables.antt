-- The four tables of a card, and the contents that are read off them.
use Rattle.std.specs.Prelude.{ℕ, ◌≤◌, false, List, map, length, take, None, slice_index_or}
use Rattle.std.specs.Float.{nan}
use Rattle.std.specs.Option.{unwrap_or}
use Rattle.std.specs.List.{between}
use Rattle.names.specs.declared.AId.TheVariants as name
use Rattle.names.specs.declared.LengthUnit.TheVariants as unit
use Rattle.card.specs.declared.record.Run.{Run}
use Rattle.card.specs.declared.record.Length.{Length}
use Rattle.card.specs.declared.record.Attribute.{Attribute}
use Rattle.card.specs.declared.record.NodeKind.{NodeKind}
use Rattle.card.specs.declared.record.NodeKind.TheVariants as kind
use Rattle.card.specs.declared.record.NodeData.{NodeData}
use Rattle.card.specs.declared.record.TableCounts.{TableCounts}
use Rattle.card.specs.declared.record.Tables.{Tables}
use Rattle.card.specs.Contents.{Reading, Attr, Item, root, element, text, Card}

-- the entries of the four tables
pub record Entries : Type 0 where
  pub nodes : List NodeData
  pub attributes : List Attribute
  pub bytes : List ℕ
  pub lengths : List Length

-- what the lent tables hold
abbrev pub entries : Tables → Entries
entries t = record { nodes = t.nodes.now; attributes = t.attributes.now; bytes = t.bytes.now; lengths = t.lengths.now }

-- what stands past the end of a table of nodes: a root without links
abbrev pub blank : NodeData
blank = record { parent = None; next = None; first = None; last = None; kind = kind.Root }

-- what stands past the end of a table of attributes
abbrev pub blank_attribute : Attribute
blank_attribute = record { name = name.AlignmentBaseline; value = record { start = 0; end = 0 }; lengths = record { start = 0; end = 0 }; marks = record { single = false; plain = false } }

-- what stands past the end of a table of lengths
abbrev pub blank_length : Length
blank_length = record { number = nan; unit = unit.None }

-- the node of a number
abbrev pub node : Entries → ℕ → NodeData
node e k = slice_index_or e.nodes k blank

-- the entries of a run
abbrev pub run_in : {X : Type 0} → Run → List X → List X
run_in r xs = between r.start r.end xs

-- what was read in an attribute's value
abbrev pub reading_of : Entries → Attribute → Reading
reading_of e a = record { lengths = run_in a.lengths e.lengths; single = a.marks.single; plain = a.marks.plain }

-- an attribute as contents
abbrev pub attr_of : Entries → Attribute → Attr
attr_of e a = record { name = a.name; value = run_in a.value e.bytes; reading = reading_of e a }

-- a node of this kind and parent as contents
abbrev pub item_by : Entries → ℕ → NodeKind → Item
item_by e p kind.Root = root
item_by e p (kind.Element tag run) = element p tag (map (attr_of e) (run_in run e.attributes))
item_by e p (kind.Text run) = text p (run_in run e.bytes)

-- a node as contents; one without a parent is named a child of the root
abbrev pub item_of : Entries → NodeData → Item
item_of e n = item_by e (unwrap_or n.parent 0) n.kind

-- what a card holds
unfoldable pub contents : Entries → TableCounts → Card
contents e c = map (item_of e) (take c.nodes e.nodes)

-- each table has the entries that are used, and no count is above its limit
pub record Whole (e : Entries) (c : TableCounts) : Type 0 where
  pub nodes : c.nodes ≤ length e.nodes
  pub nodes_few : c.nodes ≤ 4096
  pub attributes : c.attributes ≤ length e.attributes
  pub attributes_few : c.attributes ≤ 16384
  pub bytes : c.bytes ≤ length e.bytes
  pub bytes_few : c.bytes ≤ 65536
  pub lengths : c.lengths ≤ length e.lengths
  pub lengths_few : c.lengths ≤ 16384
