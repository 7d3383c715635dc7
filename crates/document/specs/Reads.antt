-- A document as contents, and what its calls answer of an item.
use Rattle.std.specs.Prelude.{◌≡◌, ℕ, ◌<◌, Bool, true, false, cond, [], ◌∷◌, Some, None, Option, nat_lt}
use Rattle.names.specs.declared.EId.{EId}
use Rattle.card.specs.declared.record.NodeKind.{NodeKind}
use Rattle.card.specs.declared.record.NodeKind.TheVariants as kind
use Rattle.card.specs.declared.record.NodeData.{NodeData}
use Rattle.card.specs.declared.record.TableCounts.{TableCounts}
use Rattle.card.specs.Contents.{Item, root, element, text, Card, item, parent, above}
use Rattle.card.specs.Tables.{Entries, entries, node, contents}
use Rattle.document.specs.declared.document.Document.{Document}
use Rattle.document.specs.declared.node.SvgNode.{SvgNode}

-- what a document holds
unfoldable pub card_of : Document → Card
card_of d = contents (entries d.tables) d.counts

-- the node of a number, in its document
abbrev pub numbered : Document → ℕ → SvgNode
numbered d k = record { doc = d; id = k }

-- the node of a number, if it is one
abbrev pub node_at : Entries → TableCounts → ℕ → Option NodeData
node_at e c k = cond (nat_lt k c.nodes) (Some (node e k)) None

-- the kind of a node; a number that is none is as the root
abbrev pub kind_at : Entries → TableCounts → ℕ → NodeKind
kind_at e c k = cond (nat_lt k c.nodes) (node e k).kind kind.Root

-- an element's tag
abbrev pub tag_of : Item → Option EId
tag_of root = None
tag_of (element p t attrs) = Some t
tag_of (text p bytes) = None

-- the item is an element
abbrev pub is_element_item : Item → Bool
is_element_item root = false
is_element_item (element p t attrs) = true
is_element_item (text p bytes) = false

-- the number is an element
abbrev pub is_element : Card → ℕ → Bool
is_element card k = is_element_item (item card k)

-- where the way up goes on from a number: to a lower one, or to none
abbrev pub Leads : Card → ℕ → Option ℕ → Type 0
Leads card k None = above card k ≡ []
Leads card k (Some p) = (p < k) × (parent card k ≡ p) × (above card k ≡ cond (is_element card k) (k ∷ above card p) (above card p))
