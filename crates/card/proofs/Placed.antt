-- The place of one node, as a check of its kind and its parent link finds it.
use Rattle.std.proofs.Common.{◌≡◌, ℕ, zero, suc, ◌-◌, ◌<◌, ◌≤◌, Bool, false, not, ◌&&◌, eqb, is_some, Some, None, Option, unwrap_or, sym, refl, ap, ◌∙◌, arith}
use Rattle.std.proofs.lemmas.Bool.{ne_eqb}
use Rattle.names.specs.declared.EId.TheVariants as tag
use Rattle.card.specs.declared.record.NodeKind.{NodeKind}
use Rattle.card.specs.declared.record.NodeKind.TheVariants as kind
use Rattle.card.specs.declared.record.TableCounts.{TableCounts}
use Rattle.card.specs.Lists.{member}
use Rattle.card.specs.Contents.{item, parent_of, tagged, above}
use Rattle.card.specs.Order.{is_root, in_place}
use Rattle.card.specs.Tables.{Entries, node, item_by, contents, Whole}
use Rattle.card.specs.TableOrder.{is_root_kind, is_svg, parented}
use Rattle.card.proofs.Checked.{item_at}

root_by : (e : Entries) (p : ℕ) (k : NodeKind) → is_root (item_by e p k) ≡ is_root_kind k
root_by e p kind.Root = refl
root_by e p (kind.Element t run) = refl
root_by e p (kind.Text run) = refl

svg_by : (e : Entries) (p : ℕ) (k : NodeKind) → (tagged tag.Svg (item_by e p k) && eqb (parent_of (item_by e p k)) 0) ≡ (is_svg k && eqb p 0)
svg_by e p kind.Root = refl
svg_by e p (kind.Element t run) = refl
svg_by e p (kind.Text run) = refl

inside_by : (e : Entries) (p : ℕ) (k : NodeKind) (f : ℕ → Bool) → (not (is_root (item_by e p k)) && f (parent_of (item_by e p k))) ≡ (not (is_root_kind k) && f p)
inside_by e p kind.Root f = refl
inside_by e p (kind.Element t run) f = refl
inside_by e p (kind.Text run) f = refl

module _ (e : Entries) (c : TableCounts) (w : Whole e c) where
  at_item : (k : ℕ) (o : Option ℕ) → k < c.nodes → (node e k).parent ≡ o → item (contents e c) k ≡ item_by e (unwrap_or o 0) (node e k).kind
  at_item k o l q = item_at e c k w.nodes l ∙ ap (λ x. item_by e (unwrap_or x 0) (node e k).kind) q

  pub place_rootless : (k : ℕ) → k < c.nodes → (node e k).parent ≡ None → (parented e k && in_place (contents e c) k) ≡ (eqb k 0 && is_root_kind (node e k).kind)
  place_rootless zero l q = ap (λ o. not (is_some o) && in_place (contents e c) 0) q ∙ ap is_root (at_item 0 None l q) ∙ root_by e 0 (node e 0).kind
  place_rootless (suc k) l q = ap (λ o. is_some o && in_place (contents e c) (suc k)) q ∙ sym (ap (λ b. b && is_root_kind (node e (suc k)).kind) (ne_eqb (suc k) 0 (λ z. omega arith)))

  module _ (p : ℕ) where
    pub place_first : (k : ℕ) → k ≡ 0 → (node e k).parent ≡ Some p → (parented e k && in_place (contents e c) k) ≡ false
    place_first zero z q = ap (λ o. not (is_some o) && in_place (contents e c) 0) q
    place_first (suc k) z q = absurd (omega arith)

    pub place_second : (k : ℕ) → k ≡ 1 → k < c.nodes → (node e k).parent ≡ Some p → (parented e k && in_place (contents e c) k) ≡ (is_svg (node e k).kind && eqb p 0)
    place_second zero z l q = absurd (omega arith)
    place_second (suc zero) z l q = ap (λ o. is_some o && in_place (contents e c) 1) q ∙ ap (λ it. tagged tag.Svg it && eqb (parent_of it) 0) (at_item 1 (Some p) l q) ∙ svg_by e p (node e 1).kind
    place_second (suc (suc k)) z l q = absurd (omega arith)

    pub place_later : (k : ℕ) → 2 ≤ k → k < c.nodes → (node e k).parent ≡ Some p → (parented e k && in_place (contents e c) k) ≡ (not (is_root_kind (node e k).kind) && member p (above (contents e c) (k - 1)))
    place_later zero z l q = absurd (omega arith)
    place_later (suc zero) z l q = absurd (omega arith)
    place_later (suc (suc k)) z l q =
        let back : suc (suc k) - 1 ≡ suc k = omega arith in
        ap (λ o. is_some o && in_place (contents e c) (suc (suc k))) q
        ∙ ap (λ it. not (is_root it) && member (parent_of it) (above (contents e c) (suc k))) (at_item (suc (suc k)) (Some p) l q)
        ∙ inside_by e p (node e (suc (suc k))).kind (λ x. member x (above (contents e c) (suc k)))
        ∙ ap (λ j. not (is_root_kind (node e (suc (suc k))).kind) && member p (above (contents e c) j)) (sym back)
