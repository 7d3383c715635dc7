-- The edges of a node's subtree in document order, and when a cursor visits exactly these.
use Rattle.std.specs.Prelude.{◌≡◌, ℕ, zero, suc, ◌<◌, ◌≤◌, Bool, true, not, ◌&&◌, List, [], ◌∷◌, ◌++◌, length, is_some, None, filter, Option, ◌==◌}
use Rattle.std.specs.List.{slice_get, flat_map}
use Rattle.card.specs.Contents.{Card, item, parent, numbers}
use Rattle.card.specs.Order.{is_root}
use Rattle.traverse.specs.declared.cursor.Edge.{Edge}
use Rattle.traverse.specs.declared.cursor.Edge.TheVariants.{Open, Close}
use Rattle.traverse.specs.declared.cursor.Traverse.{Traverse}

-- j is a child of k
abbrev pub lies_in : Card → ℕ → ℕ → Bool
lies_in card k j = not (is_root (item card j)) && parent card j == k

-- the children of k in document order
abbrev pub children : Card → ℕ → List ℕ
children card k = filter (lies_in card k) (numbers card)

-- the edges of k and of what lies in it, over at most n generations
unfoldable pub edges_within : ℕ → Card → ℕ → List Edge
edges_within zero card k = []
edges_within (suc n) card k = Open k ∷ (flat_map (λ j. edges_within n card j) (children card k) ++ Close k ∷ [])

-- the edges of k's subtree; a child has a higher number, so there are fewer generations than items
unfoldable pub edges : Card → ℕ → List Edge
unfolding edges_within
edges card k = edges_within (length card) card k

-- the cursor is i steps into the subtree of k: it stands at the edge of that place, and past the last at none
pub record Stands (card : Card) (k i : ℕ) (t : Traverse) : Type 0 where
  pub from : t.root ≡ k
  pub inside : k < length card
  pub place : t.edge ≡ slice_get (edges card k) i

-- after i steps from k the cursor stands at r: it visits exactly the subtree's edges, in their order, and then ends
pub record Visits (card : Card) (k i : ℕ) (r : Option Edge) : Type 0 where
  pub edge_by_edge : r ≡ slice_get (edges card k) i
  pub goes_on : i < length (edges card k) → is_some r ≡ true
  pub ends : length (edges card k) ≤ i → r ≡ None
  pub nested : edges card k ≡ Open k ∷ (flat_map (edges card) (children card k) ++ Close k ∷ [])
