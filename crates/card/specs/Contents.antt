-- What a card holds: its items by number, with no places in tables, and which elements lie around one.
use Rattle.std.specs.Prelude.{ℕ, zero, suc, Bool, true, false, ◌&&◌, List, [], ◌∷◌, length, filter, slice_index_or}
use Rattle.std.specs.List.{range_with_len}
use Rattle.names.specs.declared.AId.{AId}
use Rattle.names.specs.declared.EId.{EId}
use Rattle.names.specs.EIds as tags
use Rattle.card.specs.declared.record.Length.{Length}
use Rattle.card.specs.Lists.{member, up_to}

-- what was read in a value: its lengths, whether it is one length, whether it is a list of bare numbers
pub record Reading : Type 0 where
  pub lengths : List Length
  pub single : Bool
  pub plain : Bool

-- an attribute: its name, its value, and what was read in it
pub record Attr : Type 0 where
  pub name : AId
  pub value : List ℕ
  pub reading : Reading

-- an element has a parent, a tag and attributes; a text has a parent and bytes
pub data Item : Type 0 where
  root : Item
  element : ℕ → EId → List Attr → Item
  text : ℕ → List ℕ → Item

-- an item's number is its place
abbrev pub Card : Type 0
Card = List Item

-- the item of a number; a number that is none has nothing, as the root
abbrev pub item : Card → ℕ → Item
item card k = slice_index_or card k root

-- an item's parent
abbrev pub parent_of : Item → ℕ
parent_of root = 0
parent_of (element p tag attrs) = p
parent_of (text p bytes) = p

-- an element's attributes
abbrev pub attrs_of : Item → List Attr
attrs_of root = []
attrs_of (element p tag attrs) = attrs
attrs_of (text p bytes) = []

-- a text's bytes
abbrev pub bytes_of : Item → List ℕ
bytes_of root = []
bytes_of (element p tag attrs) = []
bytes_of (text p bytes) = bytes

-- the item is a text
abbrev pub is_text_item : Item → Bool
is_text_item root = false
is_text_item (element p tag attrs) = false
is_text_item (text p bytes) = true

-- the item is an element with this tag
abbrev pub tagged : EId → Item → Bool
tagged t root = false
tagged t (element p tag attrs) = tags.same tag t
tagged t (text p bytes) = false

-- the number is a text
abbrev pub is_text : Card → ℕ → Bool
is_text card k = is_text_item (item card k)

-- the number is an element with this tag
abbrev pub has_tag : EId → Card → ℕ → Bool
has_tag t card k = tagged t (item card k)

-- the parent of a number
abbrev pub parent : Card → ℕ → ℕ
parent card k = parent_of (item card k)

-- what the item k adds to a list of elements on the way up, and where it goes on
abbrev pub onward : Item → ℕ → (ℕ → List ℕ) → List ℕ
onward root k up = []
onward (element p tag attrs) k up = k ∷ up p
onward (text p bytes) k up = up p

-- the elements from k upward, the nearest first, over at most n items
unfoldable pub climb : ℕ → Card → ℕ → List ℕ
climb zero card k = []
climb (suc n) card k = onward (item card k) k (λ p. climb n card p)

-- the elements from k upward, itself included, the nearest first; a parent has a lower number, so k steps suffice
unfoldable pub above : Card → ℕ → List ℕ
unfolding climb
above card k = climb k card k

-- the elements around k: those above it, the nearest first, up to c and with it
abbrev pub around : Card → ℕ → ℕ → List ℕ
around card c k = up_to c (above card (parent card k))

-- k lies below the element e
abbrev pub below : Card → ℕ → ℕ → Bool
below card e k = member e (above card (parent card k))

-- all numbers, which is document order
abbrev pub numbers : Card → List ℕ
numbers card = range_with_len 0 (length card)

-- the texts below an element, in document order
unfoldable pub texts_below : Card → ℕ → List ℕ
unfolding above
texts_below card e = filter (λ k. is_text card k && below card e k) (numbers card)
