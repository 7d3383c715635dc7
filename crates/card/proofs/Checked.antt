-- The order of the tables: the test and the facts are one, and what the contents owe to it.
use Rattle.std.proofs.Common.{◌≡◌, ℕ, ◌<◌, ◌≤◌, max, true, false, not, ltb, leb, List, [], ◌∷◌, map, length, take, Some, None, sym, refl, ap, ◌∙◌, subst, arith}
use lib.ListN.{length-map}
use Rattle.std.specs.List.{AllByRecursion}
use Rattle.std.proofs.lemmas.List.{get_or-map, get_or-take, length-take-le}
use Rattle.std.proofs.lemmas.Bool.{and_parts, and_from, not-false, not_from_true, not_from_false, lt-ltb, ltb-true, le-leb, leb-true}
use Rattle.card.specs.declared.record.Attribute.{Attribute}
use Rattle.card.specs.declared.record.NodeKind.{NodeKind}
use Rattle.card.specs.declared.record.NodeKind.TheVariants as kind
use Rattle.card.specs.declared.record.TableCounts.{TableCounts}
use Rattle.card.specs.Lists.{all}
use Rattle.card.specs.Contents.{root, item, attrs_of, bytes_of, above}
use Rattle.card.specs.Order.{is_utf8, keeps_rules, in_place, AttrInOrder, ItemInOrder, InOrder}
use Rattle.card.specs.Tables.{Entries, blank, node, run_in, reading_of, attr_of, item_of, item_by, contents}
use Rattle.card.specs.TableOrder.{same_link, in_use, follows_on, parented, first_child, last_child, next_sibling, attribute_in_order, filled, NodeInOrder, in_order, lowest_out_of_order, TablesInOrder}
use Rattle.card.proofs.Numbers.{lowest_none, lowest_nowhere, lowest_is}
use Rattle.card.proofs.Links.{same_link_true, link_same}

-- ---- contents

pub length_contents : (e : Entries) (c : TableCounts) → c.nodes ≤ length e.nodes → length (contents e c) ≡ c.nodes
unfolding contents
length_contents e c h = length-map (take c.nodes e.nodes) (item_of e) ∙ length-take-le c.nodes e.nodes h

pub item_at : (e : Entries) (c : TableCounts) (k : ℕ) → c.nodes ≤ length e.nodes → k < c.nodes → item (contents e c) k ≡ item_of e (node e k)
unfolding contents
item_at e c k h l =
    get_or-map (item_of e) (take c.nodes e.nodes) k blank root (let q = length-take-le c.nodes e.nodes h in omega arith)
    ∙ ap (item_of e) (get_or-take c.nodes e.nodes k blank l)

-- ---- the test and the facts

module _ (e : Entries) (c : TableCounts) (k : ℕ) where
  pub facts : in_order e c k ≡ true → NodeInOrder e c k
  unfolding in_order
  facts h =
      let a = and_parts (ltb k c.nodes) _ h in
      let b = and_parts (parented e k) _ a.1 in
      let d = and_parts (in_place (contents e c) k) _ b.1 in
      let f = and_parts (leb (length (above (contents e c) k)) 64) _ d.1 in
      let g = and_parts (same_link (node e k).first (first_child e c k)) _ f.1 in
      let i = and_parts (same_link (node e k).last (last_child e c k)) _ g.1 in
      let j = and_parts (same_link (node e k).next (next_sibling e c k)) _ i.1 in
      record {
        present = ltb-true k c.nodes a.0;
        parent = b.0;
        place = d.0;
        depth = leb-true (length (above (contents e c) k)) 64 f.0;
        first = same_link_true (node e k).first (first_child e c k) g.0;
        last = same_link_true (node e k).last (last_child e c k) i.0;
        next = same_link_true (node e k).next (next_sibling e c k) j.0;
        runs = (and_parts (filled e c k (node e k).kind) true j.1).0;
      }

  pub passes : NodeInOrder e c k → in_order e c k ≡ true
  unfolding in_order
  passes n =
      and_from (ltb k c.nodes) _ (lt-ltb k c.nodes n.present)
      (and_from (parented e k) _ n.parent
      (and_from (in_place (contents e c) k) _ n.place
      (and_from (leb (length (above (contents e c) k)) 64) _ (le-leb (length (above (contents e c) k)) 64 n.depth)
      (and_from (same_link (node e k).first (first_child e c k)) _ (link_same (node e k).first (first_child e c k) n.first)
      (and_from (same_link (node e k).last (last_child e c k)) _ (link_same (node e k).last (last_child e c k) n.last)
      (and_from (same_link (node e k).next (next_sibling e c k)) _ (link_same (node e k).next (next_sibling e c k) n.next)
      (and_from (filled e c k (node e k).kind) true n.runs refl)))))))

-- ---- the lowest node out of order

module _ (e : Entries) (c : TableCounts) where
  pub none_out : lowest_out_of_order e c ≡ None → TablesInOrder e c
  unfolding lowest_out_of_order
  none_out h =
      let at : (k : ℕ) → k < max 2 c.nodes → NodeInOrder e c k =
      λ k l. facts e c k (not-false (in_order e c k) (lowest_none (λ j. not (in_order e c j)) (max 2 c.nodes) h k l)) in
      record { two = let p = (at 1 (omega arith)).present in omega arith; each = λ k l. at k (omega arith) }

  pub all_in : TablesInOrder e c → lowest_out_of_order e c ≡ None
  unfolding lowest_out_of_order
  all_in o = let t = o.two in lowest_nowhere (λ j. not (in_order e c j)) (max 2 c.nodes) (λ k l. not_from_true (in_order e c k) (passes e c k (o.each k (omega arith))))

  -- the first that fails, where all before it pass
  pub first_out : (k : ℕ) → k < max 2 c.nodes → in_order e c k ≡ false → ((j : ℕ) → j < k → in_order e c j ≡ true) → lowest_out_of_order e c ≡ Some k
  unfolding lowest_out_of_order
  first_out k l f h = lowest_is (λ j. not (in_order e c j)) (max 2 c.nodes) k l (not_from_false (in_order e c k) f) (λ j a. not_from_true (in_order e c j) (h j a))

-- ---- contents of tables in order are in order

attrs_hold : (e : Entries) (c : TableCounts) (as' : List Attribute) → all (attribute_in_order e c) as' ≡ true → AllByRecursion AttrInOrder (map (attr_of e) as')
unfolding attribute_in_order
attrs_hold e c [] h = tt
attrs_hold e c (a ∷ rest) h =
    let w = and_parts (attribute_in_order e c a) (all (attribute_in_order e c) rest) h in
    let x = and_parts (in_use c.bytes a.value) _ w.0 in
    let y = and_parts (in_use c.lengths a.lengths) _ x.1 in
    let z = and_parts (is_utf8 (run_in a.value e.bytes)) _ y.1 in
    (record { spelled = z.0; read = (and_parts (keeps_rules (reading_of e a)) true z.1).0 }, attrs_hold e c rest w.1)

module _ (e : Entries) (c : TableCounts) where
  spelled_by : (k p : ℕ) (n : NodeKind) → filled e c k n ≡ true → is_utf8 (bytes_of (item_by e p n)) ≡ true
  unfolding is_utf8
  spelled_by k p kind.Root h = refl
  spelled_by k p (kind.Element tag run) h = refl
  spelled_by k p (kind.Text run) h = (and_parts (is_utf8 (run_in run e.bytes)) true (and_parts (in_use c.bytes run) _ h).1).0

  attrs_by : (k p : ℕ) (n : NodeKind) → filled e c k n ≡ true → AllByRecursion AttrInOrder (attrs_of (item_by e p n))
  attrs_by k p kind.Root h = tt
  attrs_by k p (kind.Element tag run) h =
      let a = and_parts (in_use c.attributes run) _ h in
      let b = and_parts (follows_on e c k run) _ a.1 in
      attrs_hold e c (run_in run e.attributes) (and_parts (all (attribute_in_order e c) (run_in run e.attributes)) true b.1).0
  attrs_by k p (kind.Text run) h = tt

  pub item_in_order : (k : ℕ) → c.nodes ≤ length e.nodes → NodeInOrder e c k → ItemInOrder (contents e c) k
  item_in_order k h n =
      let i = item_at e c k h n.present in
      record {
        place = n.place;
        depth = n.depth;
        spelled = ap (λ it. is_utf8 (bytes_of it)) i ∙ spelled_by k _ (node e k).kind n.runs;
        attrs = subst (λ it. AllByRecursion AttrInOrder (attrs_of it)) (sym i) (attrs_by k _ (node e k).kind n.runs);
      }

  pub contents_in_order : c.nodes ≤ length e.nodes → TablesInOrder e c → InOrder (contents e c)
  contents_in_order h o =
      let q = length_contents e c h in
      let t = o.two in
      record { two = omega arith; each = λ k l. item_in_order k h (o.each k (omega arith)) }
