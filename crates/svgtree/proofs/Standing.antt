-- What a call may rely on once a draft has passed its checks.
use Rattle.std.proofs.Common.{◌≡◌, ℕ, ◌+◌, ◌-◌, ◌<◌, true, not, Some, None, unwrap_or, sym, ◌∙◌, arith}
use Rattle.std.proofs.lemmas.Bool.{and_parts, and_from}
use Rattle.card.specs.declared.record.TableCounts.{TableCounts}
use Rattle.card.specs.Lists.{member}
use Rattle.card.specs.Contents.{parent, above}
use Rattle.card.specs.Order.{in_place}
use Rattle.card.specs.Tables.{Entries, node, contents}
use Rattle.card.specs.TableOrder.{is_root_kind, parented, SoundBelow}
use Rattle.card.proofs.Checked.{passes}
use Rattle.card.proofs.Climb as climb
use Rattle.card.proofs.Within.{within, elem_itself}
use Rattle.card.proofs.Placed.{place_later}
use Rattle.card.proofs.Upward.{found, rises_less}
use Rattle.build.proofs.Open as opened
use Rattle.order.specs.Checks.{SoundDraft}

module _ (e : Entries) (c : TableCounts) (k : ℕ) (s : SoundDraft e c k) where
  -- the open element is one of the nodes
  pub open_before : k < c.nodes
  open_before = opened.open_before e c s.whole s.order k s.inside

  -- the nodes up to the open element are in order
  pub sound_to_open : SoundBelow e c (k + 1)
  sound_to_open j u = let l = open_before in passes e c j (s.order.each j (omega arith))

  -- its last child is one of the nodes
  pub last_before : unwrap_or (node e k).last 0 < c.nodes
  last_before = opened.last_used e c s.whole s.order k s.inside

  climbs : climb.Climbs e c k
  climbs = climb.climbs e c k (λ j u. sound_to_open j (omega arith))

  -- it has a parent
  pub has_parent : (node e k).parent ≡ None → ⊥
  has_parent q = climb.linked_up e c s.whole k climbs k (opened.open_above_root e c s.whole s.order k s.inside) (omega arith) q

  -- which is the one of the contents
  pub parent_is : (p : ℕ) → (node e k).parent ≡ Some p → parent (contents e c) k ≡ p
  parent_is p q = climb.parent_of_link e c s.whole k climbs k p (opened.open_above_root e c s.whole s.order k s.inside) (omega arith) q

  -- where node 1 is not the one that is open, its parent may be open in its place
  pub parent_inside : (p : ℕ) → (node e k).parent ≡ Some p → (k ≡ 1 → ⊥) → member p (above (contents e c) (c.nodes - 1)) ≡ true
  parent_inside p q ne =
      let two = s.order.two in
      let first = opened.open_above_root e c s.whole s.order k s.inside in
      let low = (climb.way e c s.whole k climbs k p first (omega arith) q).1 in
      let place = s.order.each k open_before in
      let above_before = (and_parts (not (is_root_kind (node e k).kind)) (member p (above (contents e c) (k - 1))) (sym (place_later e c s.whole p k (omega arith) open_before q) ∙ and_from (parented e k) (in_place (contents e c) k) place.parent place.place)).1 in
      let rises = climb.rises e c s.whole k climbs in
      let elem = (found (contents e c) (k - 1) (rises_less (contents e c) k (k - 1) (omega arith) rises) p above_before).1 in
      within (contents e c) (c.nodes - 1) (opened.rises e c s.whole s.order) (c.nodes - 1) k p (omega arith)
      (climb.above_parent e c s.whole k climbs p k p low (omega arith) q ∙ elem_itself (contents e c) k rises p (omega arith) elem)
      s.inside
