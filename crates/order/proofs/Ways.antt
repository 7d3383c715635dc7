-- What a climb along the parents keeps, and what it finds at its end, where the nodes up to the one that it begins at are in order.
use Rattle.std.proofs.Common.{◌≡◌, ℕ, ◌+◌, ◌<◌, ◌≤◌, Bool, false, cond, [], length, Some, None, sym, ap, ◌∙◌, subst, add-one, arith}
use Rattle.card.specs.declared.record.TableCounts.{TableCounts}
use Rattle.card.specs.Lists.{member}
use Rattle.card.specs.Contents.{above}
use Rattle.card.specs.Tables.{Entries, node, contents, Whole}
use Rattle.card.specs.TableOrder.{is_element, SoundBelow}
use Rattle.card.proofs.Climb as climb

module _ (e : Entries) (c : TableCounts) (w : Whole e c) (top : ℕ) (s : SoundBelow e c (top + 1)) where
  sound : climb.Climbs e c top
  sound = climb.climbs e c top (subst (SoundBelow e c) (add-one top) s)

  pub in_table : (at : ℕ) → at ≤ top → at < length e.nodes
  in_table at l = let a = climb.within e c w top sound at l in let b = w.nodes in omega arith

  pub in_card : (at : ℕ) → at ≤ top → at < 4096
  in_card at l = let a = climb.within e c w top sound at l in let b = w.nodes_few in omega arith

  pub no_end : (at : ℕ) → 0 < at → at ≤ top → (node e at).parent ≡ None → ⊥
  no_end at a l q = climb.linked_up e c w top sound at a l q

  pub lower : (at p : ℕ) → 0 < at → at ≤ top → (node e at).parent ≡ Some p → p < at
  lower at p a l q = (climb.way e c w top sound at p a l q).1

  pub past_parent : (n at p : ℕ) → n < at → at ≤ top → (node e at).parent ≡ Some p → member n (above (contents e c) p) ≡ member n (above (contents e c) at)
  past_parent n at p l u q = sym (climb.above_parent e c w top sound n at p l u q)

  pub not_above : (n at : ℕ) → at < n → at ≤ top → member n (above (contents e c) at) ≡ false
  not_above n at l u = climb.above_lower e c w top sound n at l u

  pub itself : (at : ℕ) → at ≤ top → member at (above (contents e c) at) ≡ is_element (node e at).kind
  itself at u = climb.above_itself e c w top sound at u

  pub at_root : above (contents e c) 0 ≡ []
  at_root = climb.at_root e c w top sound

  -- what a node adds to the depth
  pub deeper : (at p : ℕ) → 0 < at → at ≤ top → (node e at).parent ≡ Some p → length (above (contents e c) at) ≡ cond (is_element (node e at).kind) 1 0 + length (above (contents e c) p)
  deeper at p a l q = climb.deeper e c w top sound at p a l q

  pub deeper_by : (b : Bool) (at p : ℕ) → 0 < at → at ≤ top → (node e at).parent ≡ Some p → is_element (node e at).kind ≡ b → length (above (contents e c) at) ≡ cond b 1 0 + length (above (contents e c) p)
  deeper_by b at p a l q h = deeper at p a l q ∙ ap (λ x. cond x 1 0 + length (above (contents e c) p)) h
