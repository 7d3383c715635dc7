-- The links of tables in order lead to the card's parents, children and siblings.
use Rattle.std.proofs.Common.{◌≡◌, ℕ, zero, suc, ◌+◌, ◌-◌, ◌<◌, ◌≤◌, true, false, not, ◌&&◌, ltb, length, is_some, Some, None, Option, unwrap_or, sym, refl, ap, ◌∙◌, ⊎_elim, arith, length-take}
use lib.ListN.{length-map}
use Rattle.std.proofs.lemmas.Bool.{and_parts, and_from, and_left, and_right, cases_Bool, cases_lt, true≢false, false≢true, lt-ltb, ltb-true, le-ltb, cond-true, cond-false}
use Rattle.card.specs.declared.record.TableCounts.{TableCounts}
use Rattle.card.specs.declared.record.NodeKind.{NodeKind}
use Rattle.card.specs.declared.record.NodeKind.TheVariants as kind
use Rattle.card.specs.Contents.{parent, parent_of}
use Rattle.card.specs.Order.{is_root}
use Rattle.card.specs.Tables.{Entries, node, item_by, contents}
use Rattle.card.specs.TableOrder.{same_link, child, siblings, later_sibling, TablesInOrder}
use Rattle.card.proofs.Upward.{past_end}
use Rattle.card.proofs.Numbers.{lowest_nowhere, lowest_is}
use Rattle.card.proofs.Links.{same_link_true, link_same, child_is, child_from}
use Rattle.card.proofs.Checked.{length_contents, item_at}
use Rattle.traverse.specs.Subtree.{lies_in}
use Rattle.traverse.proofs.Family.{Placed, placed, not_root, root_in_none, lies_by, higher, first_born}

-- an item that is not the root keeps the parent of its node
kept_parent : (e : Entries) (p : Option ℕ) (n : NodeKind) → is_some p ≡ true → not (is_root (item_by e (unwrap_or p 0) n)) ≡ true → p ≡ Some (parent_of (item_by e (unwrap_or p 0) n))
kept_parent e None n s r = absurd (false≢true s)
kept_parent e (Some p) kind.Root s r = absurd (false≢true r)
kept_parent e (Some p) (kind.Element t run) s r = refl
kept_parent e (Some p) (kind.Text run) s r = refl

no_parent : (p : Option ℕ) → not (is_some p) ≡ true → p ≡ None
no_parent None h = refl
no_parent (Some p) h = absurd (false≢true h)

-- tables in order are as long as their count says
pub long_enough : (e : Entries) (c : TableCounts) → TablesInOrder e c → c.nodes ≤ length e.nodes
unfolding contents
long_enough e c o = ⊎_elim (λ l. absurd (short l)) (λ l. l) (cases_lt (length e.nodes) c.nodes)
  where
    short : length e.nodes < c.nodes → ⊥
    short l =
        let t = o.two in
        let k = c.nodes - 1 in
        let q : length (contents e c) ≤ k = simp (length-map, length-take) (omega arith) in
        let r = placed (contents e c) k (omega arith) (o.each k (omega arith)).place in
        false≢true (sym (ap (λ it. not (is_root it)) (past_end (contents e c) k q)) ∙ r)

module _ (e : Entries) (c : TableCounts) (o : TablesInOrder e c) where
  pub card_length : length (contents e c) ≡ c.nodes
  card_length = length_contents e c (long_enough e c o)

  pub all_placed : Placed (contents e c)
  all_placed k l = let n = card_length in (o.each k (omega arith)).place

  -- every item but the root has its node's parent
  linked : (k : ℕ) → 0 < k → k < c.nodes → (node e k).parent ≡ Some (parent (contents e c) k)
  linked zero z l = absurd (omega arith)
  linked (suc k) z l =
      let n = card_length in
      let i = item_at e c (suc k) (long_enough e c o) l in
      kept_parent e (node e (suc k)).parent (node e (suc k)).kind (o.each (suc k) l).parent (sym (ap (λ it. not (is_root it)) i) ∙ not_root (contents e c) all_placed (suc k) z (omega arith))
      ∙ ap {B = Option ℕ} (λ it. Some (parent_of it)) (sym i)

  -- the card and the links agree on what a child is
  lies_child : (k j : ℕ) → j < c.nodes → lies_in (contents e c) k j ≡ child e k j
  lies_child k zero l = let n = card_length in root_in_none (contents e c) all_placed k (omega arith) ∙ sym (ap (λ p. same_link p (Some k)) (no_parent (node e 0).parent (o.each 0 l).parent))
  lies_child k (suc j) l = let n = card_length in lies_by (contents e c) all_placed k (suc j) (omega arith) (omega arith) ∙ sym (ap (λ p. same_link p (Some k)) (linked (suc j) (omega arith) l))

  -- a child's parent link
  pub parent_link : (k j : ℕ) → j < c.nodes → lies_in (contents e c) k j ≡ true → (node e j).parent ≡ Some k
  parent_link k j l h = child_is e k j (sym (lies_child k j l) ∙ h)

  -- without children there is no first link
  pub first_none : (k : ℕ) → k < c.nodes → ((j : ℕ) → j < c.nodes → lies_in (contents e c) k j ≡ false) → (node e k).first ≡ None
  first_none k l h =
      (o.each k l).first
      ∙ cond-false (ltb (k + 1) c.nodes && child e k (k + 1)) (Some (k + 1)) None
      (⊎_elim
      (λ u. and_right (ltb (k + 1) c.nodes) (child e k (k + 1)) (sym (lies_child k (k + 1) u) ∙ h (k + 1) u))
      (λ u. and_left (ltb (k + 1) c.nodes) (child e k (k + 1)) (le-ltb (k + 1) c.nodes u))
      (cases_lt (k + 1) c.nodes))

  -- with a child the first link leads to the number after
  pub first_some : (k j : ℕ) → k < c.nodes → j < c.nodes → lies_in (contents e c) k j ≡ true → (lies_in (contents e c) k (k + 1) ≡ true) × ((node e k).first ≡ Some (k + 1))
  first_some k j l m h =
      let n = card_length in
      let u = higher (contents e c) all_placed k j (omega arith) h in
      let b = first_born (contents e c) all_placed j k j (omega arith) (omega arith) h in (
        b,
        (o.each k l).first
            ∙ cond-true (ltb (k + 1) c.nodes && child e k (k + 1)) (Some (k + 1)) None
            (and_from (ltb (k + 1) c.nodes) (child e k (k + 1)) (lt-ltb (k + 1) c.nodes (omega arith)) (sym (lies_child k (k + 1) (omega arith)) ∙ b)),
      )

  -- a later sibling of a child of k is a later child of k
  sibling_is : (k a j : ℕ) → a < c.nodes → j < c.nodes → lies_in (contents e c) k a ≡ true → later_sibling e a j ≡ true → (a < j) × (lies_in (contents e c) k j ≡ true)
  sibling_is k a j l m h t =
      let x = and_parts (ltb a j) (siblings e a j) t in
      let y = (and_parts (is_some (node e a).parent) (same_link (node e a).parent (node e j).parent) x.1).1 in
      (ltb-true a j x.0, lies_child k j m ∙ child_from e k j (sym (same_link_true (node e a).parent (node e j).parent y) ∙ parent_link k a l h))

  sibling_from : (k a j : ℕ) → a < c.nodes → j < c.nodes → lies_in (contents e c) k a ≡ true → lies_in (contents e c) k j ≡ true → a < j → later_sibling e a j ≡ true
  sibling_from k a j l m h t u =
      let x = parent_link k a l h in
      let y = parent_link k j m t in
      and_from (ltb a j) (siblings e a j) (lt-ltb a j u)
      (and_from (is_some (node e a).parent) (same_link (node e a).parent (node e j).parent) (ap is_some x) (link_same (node e a).parent (node e j).parent (x ∙ sym y)))

  -- where no child of k from a + 1 up to m passes, no number below m is a later sibling
  no_sibling : (k a m : ℕ) → a < c.nodes → m ≤ c.nodes → lies_in (contents e c) k a ≡ true → ((j : ℕ) → a < j → j < m → lies_in (contents e c) k j ≡ false) → (j : ℕ) → j < m → later_sibling e a j ≡ false
  no_sibling k a m l b h f j u = ⊎_elim (λ t. let s = sibling_is k a j l (omega arith) h t in absurd (true≢false (sym s.1 ∙ f j s.0 u))) (λ t. t) (cases_Bool (later_sibling e a j))

  -- after the last child there is no next link
  pub next_none : (k a : ℕ) → a < c.nodes → lies_in (contents e c) k a ≡ true → ((j : ℕ) → a < j → j < c.nodes → lies_in (contents e c) k j ≡ false) → (node e a).next ≡ None
  next_none k a l h f = (o.each a l).next ∙ lowest_nowhere (later_sibling e a) c.nodes (no_sibling k a c.nodes l (omega arith) h f)

  -- the next link leads to the next child
  pub next_some : (k a m : ℕ) → a < m → m < c.nodes → lies_in (contents e c) k a ≡ true → lies_in (contents e c) k m ≡ true → ((j : ℕ) → a < j → j < m → lies_in (contents e c) k j ≡ false) → (node e a).next ≡ Some m
  next_some k a m u b h t f = (o.each a (omega arith)).next ∙ lowest_is (later_sibling e a) c.nodes m b (sibling_from k a m (omega arith) b h t u) (no_sibling k a m (omega arith) (omega arith) h f)
