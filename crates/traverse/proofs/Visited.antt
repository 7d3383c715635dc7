-- A cursor visits exactly the edges of its start's subtree, in order, and ends after the last.
use Rattle.std.proofs.Common.{◌≡◌, ℕ, zero, suc, ◌+◌, ◌<◌, List, [], ◌∷◌, length, is_some, Some, None, Option, sym, refl, ap, ◌∙◌, subst, add-one, arith}
use Rattle.std.specs.List.{slice_get}
use Rattle.std.proofs.lemmas.Option.{slice_get-get_or, slice_get_past}
use Rattle.card.specs.declared.record.NodeData.{NodeData}
use Rattle.card.specs.declared.record.TableCounts.{TableCounts}
use Rattle.card.specs.Contents.{Card}
use Rattle.card.specs.Tables.{Entries, contents}
use Rattle.card.specs.TableOrder.{TablesInOrder}
use Rattle.traverse.specs.declared.cursor.Edge.{Edge}
use Rattle.traverse.specs.declared.cursor.Edge.TheVariants.{Open}
use Rattle.traverse.specs.declared.cursor.Traverse.{Traverse}
use Rattle.traverse.specs.Cursor.{begun, after_edge, stepped, moved}
use Rattle.traverse.specs.Subtree.{edges_within, edges, Stands, Visits}
use Rattle.traverse.proofs.Linked.{card_length, all_placed}
use Rattle.traverse.proofs.Chained.{Chain, chained, nested}

-- from each place of a chain the links lead to the place after
chain_nth : (ns : List NodeData) (start : ℕ) (xs : List Edge) → Chain (λ x. after_edge ns start (Some x)) xs None → (i : ℕ) → after_edge ns start (slice_get xs i) ≡ slice_get xs (suc i)
chain_nth ns start [] h i = refl
chain_nth ns start (x ∷ []) h zero = h.0
chain_nth ns start (x ∷ y ∷ xs) h zero = h.0
chain_nth ns start (x ∷ xs) h (suc i) = chain_nth ns start xs h.1 i

-- a subtree's first edge is the opening edge
opening : (n : ℕ) (card : Card) (k : ℕ) → 0 < n → Some (Open k) ≡ slice_get (edges_within n card k) 0
unfolding edges_within
opening zero card k h = absurd (omega arith)
opening (suc n) card k h = refl

-- a new cursor stands at the first edge
pub at_first : (card : Card) (k : ℕ) → k < length card → Stands card k 0 (begun k)
unfolding edges
at_first card k l = record { from = refl; inside = l; place = opening (length card) card k (omega arith) }

-- a step leads from one edge to the next
pub steps_on : (ns : List NodeData) (t u : Traverse) → u ≡ stepped ns t → (e : Entries) (c : TableCounts) → e.nodes ≡ ns → TablesInOrder e c → (k i : ℕ) → Stands (contents e c) k i t → Stands (contents e c) k (i + 1) u
steps_on ns t u s e c q o k i h =
    let n = card_length e c o in
    let l = h.inside in
    subst (Stands (contents e c) k (i + 1)) (sym s)
    (record {
      from = h.from;
      inside = l;
      place =
          ap (λ x. after_edge x t.root t.edge) (sym q)
          ∙ ap (λ x. after_edge e.nodes x t.edge) h.from
          ∙ ap (after_edge e.nodes k) h.place
          ∙ chain_nth e.nodes k (edges (contents e c) k) (chained e c o k (omega arith)) i
          ∙ ap (slice_get (edges (contents e c) k)) (sym (add-one i));
    })

-- ---- many steps

pub moved_none : (ns : List NodeData) (t : Traverse) → moved ns 0 t ≡ t
unfolding moved
moved_none ns t = refl

pub moved_more : (ns : List NodeData) (n : ℕ) (t : Traverse) → moved ns (n + 1) t ≡ stepped ns (moved ns n t)
unfolding moved
moved_more ns n t = ap (λ m. moved ns m t) (add-one n)

moved_stands : (ns : List NodeData) (k : ℕ) (e : Entries) (c : TableCounts) → e.nodes ≡ ns → TablesInOrder e c → k < c.nodes → (i : ℕ) → Stands (contents e c) k i (moved ns i (begun k))
unfolding moved
moved_stands ns k e c q o l zero = let n = card_length e c o in at_first (contents e c) k (omega arith)
moved_stands ns k e c q o l (suc i) =
    subst (λ j. Stands (contents e c) k j (moved ns (suc i) (begun k))) (add-one i)
    (steps_on ns (moved ns i (begun k)) (moved ns (suc i) (begun k)) refl e c q o k i (moved_stands ns k e c q o l i))

-- where a new cursor stands after i steps
pub visits : (ns : List NodeData) (k i : ℕ) (r : Option Edge) → r ≡ (moved ns i (begun k)).edge → (e : Entries) (c : TableCounts) → e.nodes ≡ ns → TablesInOrder e c → k < c.nodes → Visits (contents e c) k i r
visits ns k i r h e c q o l =
    let n = card_length e c o in
    let at : r ≡ slice_get (edges (contents e c) k) i = h ∙ (moved_stands ns k e c q o l i).place in
    record {
      edge_by_edge = at;
      goes_on = λ u. ap is_some (at ∙ slice_get-get_or (edges (contents e c) k) i (Open k) u);
      ends = λ u. at ∙ slice_get_past (edges (contents e c) k) i u;
      nested = nested (contents e c) (all_placed e c o) k (omega arith);
    }
