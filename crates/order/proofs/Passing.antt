-- What the pass over the nodes needs and keeps, in one step.
use Rattle.std.proofs.Common.{◌≡◌, ℕ, ◌+◌, ◌<◌, ◌≤◌, Bool, true, cond, not, List, length, get_or, set, is_some, Some, None, sym, refl, ap, ◌∙◌, subst, ⊎_elim, add-one, arith}
use Rattle.std.proofs.lemmas.List.{get_or-set_same, get_or-set_other, length-map, length-set, map-set}
use Rattle.std.proofs.lemmas.Bool.{cases_lt, true≢false}
use Rattle.card.specs.declared.record.TableCounts.{TableCounts}
use Rattle.card.specs.Contents.{above}
use Rattle.card.specs.Order.{in_place}
use Rattle.card.specs.Tables.{Entries, node, contents, Whole}
use Rattle.card.specs.TableOrder.{is_element, parented, end_by, attributes_end, in_order, SoundBelow}
use Rattle.card.proofs.Checked.{facts}
use Rattle.card.proofs.Climb as climb
use Rattle.order.specs.declared.links.Note.{Note}
use Rattle.order.specs.Pass.{depths, Depths}
use Rattle.order.proofs.Notes.{blank, field, with_depth}

module _ (e : Entries) (c : TableCounts) (w : Whole e c) (k : ℕ) (s : SoundBelow e c k) (l : k < c.nodes) (h : in_place (contents e c) k ≡ true) (g : parented e k ≡ true) (notes : List Note) (d : Depths e c k (depths notes)) where
  up : climb.Climbs e c k
  up = climb.climbs_more e c k s l h g

  -- only number 0 has no parent, and it has no element above it
  pub rootless : (node e k).parent ≡ None → 0 ≡ length (above (contents e c) k)
  rootless q = ⊎_elim (λ b. absurd (climb.linked_up e c w k up k b (omega arith) q)) (λ b. let z : 0 ≡ k = omega arith in ap length (sym (climb.at_root e c w k up)) ∙ ap (λ j. length (above (contents e c) j)) z) (cases_lt 0 k)

  not_first : (p : ℕ) → (node e k).parent ≡ Some p → 0 < k
  not_first p q = ⊎_elim (λ b. b) (λ b. let z : k ≡ 0 = omega arith in absurd (first (sym (ap (λ j. parented e j) z) ∙ g) (ap (λ j. (node e j).parent) (sym z) ∙ q))) (cases_lt 0 k)
    where
      first : parented e 0 ≡ true → (node e 0).parent ≡ Some p → ⊥
      first t r = true≢false (sym t ∙ ap (λ o. not (is_some o)) r)

  module _ (p : ℕ) (q : (node e k).parent ≡ Some p) where
    pub lower : p < k
    lower = (climb.way e c w k up k p (not_first p q) (omega arith) q).1

    pub noted_within : p < length notes
    noted_within = let a = lower in let b = d.long in let f = w.nodes_few in omega (arith, length-map notes (λ n. n.depth))

    noted : (get_or notes p blank).depth ≡ length (above (contents e c) p)
    noted = sym (field notes p noted_within (λ n. n.depth) 0) ∙ d.each p lower

    pub shallow : (get_or notes p blank).depth ≤ 64
    shallow = let b = (facts e c p (s p lower)).depth in omega (arith, noted)

    pub depth_is : (b : Bool) → is_element (node e k).kind ≡ b → cond b 1 0 + (get_or notes p blank).depth ≡ length (above (contents e c) k)
    depth_is b t = ap (λ n. cond b 1 0 + n) noted ∙ sym (climb.deeper e c w k up k p (not_first p q) (omega arith) q ∙ ap (λ x. cond x 1 0 + length (above (contents e c) p)) t)

-- the depths with one more
pub depths_more : (e : Entries) (c : TableCounts) (k d : ℕ) (notes : List Note) → k < 4096 → Depths e c k (depths notes) → d ≡ length (above (contents e c) k) → Depths e c (k + 1) (depths (with_depth notes k d))
depths_more e c k d notes l h q =
    let same : depths (with_depth notes k d) ≡ set (depths notes) k d = map-set (λ n. n.depth) notes k _ in
    subst (Depths e c (k + 1)) (sym same) (record {
      long = length-set (depths notes) k d ∙ h.long;
      each = λ j u. ⊎_elim
          (λ b. get_or-set_other (depths notes) k j d 0 (λ z. omega arith) ∙ h.each j b)
          (λ b. let z : k ≡ j = omega arith in subst (λ i. get_or (set (depths notes) k d) i 0 ≡ length (above (contents e c) i)) z (get_or-set_same (depths notes) k d 0 (let n = h.long in omega arith) ∙ q))
          (cases_lt j k);
    })

-- one more node in order
pub sound_more : (e : Entries) (c : TableCounts) (k : ℕ) → SoundBelow e c k → in_order e c k ≡ true → SoundBelow e c (k + 1)
sound_more e c k s h j u = ⊎_elim (λ b. s j b) (λ b. subst (λ i. in_order e c i ≡ true) (let z : k ≡ j = omega arith in z) h) (cases_lt j k)

-- the end of the attributes with one more node
pub end_more : (e : Entries) (k : ℕ) → end_by (node e k).kind (attributes_end e k) ≡ attributes_end e (k + 1)
unfolding attributes_end
end_more e k = sym (ap (attributes_end e) (add-one k))

pub none_ended : (e : Entries) → 0 ≡ attributes_end e 0
unfolding attributes_end
none_ended e = refl
