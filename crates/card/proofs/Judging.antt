-- How single checks of a node settle whether it is in order.
use Rattle.std.proofs.Common.{◌≡◌, ℕ, ◌<◌, ◌≤◌, Bool, true, false, ◌&&◌, [], ◌∷◌, length, sym, refl, ◌∙◌, ⊎_elim, true≢false, arith}
use Rattle.std.proofs.lemmas.Bool.{and_parts, and_from, cases_Bool}
use Rattle.card.specs.declared.record.TableCounts.{TableCounts}
use Rattle.card.specs.Lists.{holds}
use Rattle.card.specs.Contents.{above}
use Rattle.card.specs.Order.{in_place}
use Rattle.card.specs.Tables.{Entries, node, contents}
use Rattle.card.specs.TableOrder.{same_link, first_child, last_child, next_sibling, parented, filled, NodeInOrder, in_order}
use Rattle.card.proofs.Checked.{facts, passes}
use Rattle.card.proofs.Links.{same_link_true, link_same}

module _ (e : Entries) (c : TableCounts) (k : ℕ) where
  -- the links of node k are those that it ought to have
  abbrev pub links_hold : Bool
  links_hold =
      holds (same_link (node e k).first (first_child e c k) ∷ same_link (node e k).last (last_child e c k) ∷ same_link (node e k).next (next_sibling e c k) ∷ [])

  out_since : (NodeInOrder e c k → ⊥) → in_order e c k ≡ false
  out_since h = ⊎_elim (λ t. absurd (h (facts e c k t))) (λ f. f) (cases_Bool (in_order e c k))

  pub out_by_absence : c.nodes ≤ k → in_order e c k ≡ false
  out_by_absence h = out_since (λ n. let l = n.present in omega arith)

  pub out_by_place : (parented e k && in_place (contents e c) k) ≡ false → in_order e c k ≡ false
  out_by_place h = out_since (λ n. true≢false (sym (and_from (parented e k) (in_place (contents e c) k) n.parent n.place) ∙ h))

  pub out_by_depth : 64 < length (above (contents e c) k) → in_order e c k ≡ false
  out_by_depth h = out_since (λ n. let d = n.depth in omega arith)

  pub out_by_links : links_hold ≡ false → in_order e c k ≡ false
  out_by_links h =
      out_since (λ n. true≢false (sym (
      and_from (same_link (node e k).first (first_child e c k)) _ (link_same (node e k).first (first_child e c k) n.first)
      (and_from (same_link (node e k).last (last_child e c k)) _ (link_same (node e k).last (last_child e c k) n.last)
      (and_from (same_link (node e k).next (next_sibling e c k)) true (link_same (node e k).next (next_sibling e c k) n.next) refl))) ∙ h))

  pub out_by_runs : filled e c k (node e k).kind ≡ false → in_order e c k ≡ false
  out_by_runs h = out_since (λ n. true≢false (sym n.runs ∙ h))

  pub in_by_all : k < c.nodes → (parented e k && in_place (contents e c) k) ≡ true → length (above (contents e c) k) ≤ 64 → links_hold ≡ true → filled e c k (node e k).kind ≡ true → in_order e c k ≡ true
  in_by_all l p d h f =
      let a = and_parts (parented e k) (in_place (contents e c) k) p in
      let b = and_parts (same_link (node e k).first (first_child e c k)) _ h in
      let g = and_parts (same_link (node e k).last (last_child e c k)) _ b.1 in
      let i = and_parts (same_link (node e k).next (next_sibling e c k)) true g.1 in
      passes e c k (record {
        present = l;
        parent = a.0;
        place = a.1;
        depth = d;
        first = same_link_true (node e k).first (first_child e c k) b.0;
        last = same_link_true (node e k).last (last_child e c k) g.0;
        next = same_link_true (node e k).next (next_sibling e c k) i.0;
        runs = f;
      })
