-- The way up along the links of the tables, where the nodes up to some number are in order.
use Rattle.std.proofs.Common.{◌≡◌, ℕ, zero, suc, ◌+◌, ◌<◌, ◌≤◌, true, false, cond, ◌||◌, List, [], ◌∷◌, length, is_some, Some, None, Option, unwrap_or, sym, refl, ap, ◌∙◌, subst, ⊎_elim, true≢false, zero-add, one-add, arith}
use mathlib.Core.Bool.{false≢true}
use Rattle.std.proofs.lemmas.Bool.{cases_Bool, cases_lt, ne_eqb}
use Rattle.card.specs.declared.record.NodeKind.{NodeKind}
use Rattle.card.specs.declared.record.NodeKind.TheVariants as kind
use Rattle.card.specs.declared.record.TableCounts.{TableCounts}
use Rattle.card.specs.Lists.{member}
use Rattle.card.specs.Contents.{root, Card, item, parent_of, parent, above}
use Rattle.card.specs.Order.{is_root, in_place}
use Rattle.card.specs.Tables.{Entries, node, item_of, item_by, contents, Whole}
use Rattle.card.specs.TableOrder.{is_element, parented, SoundBelow}
use Rattle.card.proofs.Checked.{item_at, facts}
use Rattle.card.proofs.Upward.{Rises, rises_to, rises_less, root_way, element_way, text_way, found, member_first, not_root}

parent_by : (e : Entries) (p : ℕ) (k : NodeKind) → (k ≡ kind.Root → ⊥) → parent_of (item_by e p k) ≡ p
parent_by e p kind.Root h = absurd (h refl)
parent_by e p (kind.Element tag run) h = refl
parent_by e p (kind.Text run) h = refl

-- the nodes up to a number are in their places and have parents
pub record Climbs (e : Entries) (c : TableCounts) (top : ℕ) : Type 0 where
  pub present : top < c.nodes
  pub place : (j : ℕ) → j ≤ top → in_place (contents e c) j ≡ true
  pub parent : (j : ℕ) → j ≤ top → parented e j ≡ true

-- nodes in order are such
pub climbs : (e : Entries) (c : TableCounts) (top : ℕ) → SoundBelow e c (suc top) → Climbs e c top
climbs e c top s =
    record {
      present = (facts e c top (s top (omega arith))).present;
      place = λ j l. (facts e c j (s j (omega arith))).place;
      parent = λ j l. (facts e c j (s j (omega arith))).parent;
    }

-- and so is one more that is in its place and has a parent
pub climbs_more : (e : Entries) (c : TableCounts) (k : ℕ) → SoundBelow e c k → k < c.nodes → in_place (contents e c) k ≡ true → parented e k ≡ true → Climbs e c k
climbs_more e c k s l h g =
    record {
      present = l;
      place = λ j u. ⊎_elim (λ b. (facts e c j (s j b)).place) (λ b. subst (λ i. in_place (contents e c) i ≡ true) (let q : k ≡ j = omega arith in q) h) (cases_lt j k);
      parent = λ j u. ⊎_elim (λ b. (facts e c j (s j b)).parent) (λ b. subst (λ i. parented e i ≡ true) (let q : k ≡ j = omega arith in q) g) (cases_lt j k);
    }

module _ (e : Entries) (c : TableCounts) (w : Whole e c) (top : ℕ) (s : Climbs e c top) where
  abbrev card : Card
  card = contents e c

  -- the way up from node j of a kind, whose parent is p
  abbrev pub onto : ℕ → ℕ → NodeKind → List ℕ
  onto j p kind.Root = []
  onto j p (kind.Element tag run) = j ∷ above card p
  onto j p (kind.Text run) = above card p

  pub within : (j : ℕ) → j ≤ top → j < c.nodes
  within j l = let t = s.present in omega arith

  pub item_is : (j : ℕ) → j ≤ top → item card j ≡ item_of e (node e j)
  item_is j l = item_at e c j w.nodes (within j l)

  pub rises : Rises card top
  rises = rises_to card top s.place

  has_parent : (j : ℕ) → 0 < j → j ≤ top → is_some (node e j).parent ≡ true
  has_parent zero a l = absurd (omega arith)
  has_parent (suc j) a l = s.parent (suc j) (omega arith)

  -- every node but 0 has a parent
  pub linked_up : (j : ℕ) → 0 < j → j ≤ top → (node e j).parent ≡ None → ⊥
  linked_up j a l q = true≢false (sym (has_parent j a l) ∙ ap is_some q)

  kind_way : (j p : ℕ) (k : NodeKind) → 0 < j → j ≤ top → (node e j).parent ≡ Some p → (node e j).kind ≡ k → (above card j ≡ onto j p k) × (p < j)
  kind_way j p kind.Root a l q r = absurd (not_root card j a (s.place j (omega arith)) (item_is j l ∙ ap (λ x. item_by e (unwrap_or (node e j).parent 0) x) r))
  kind_way j p (kind.Element tag run) a l q r =
      let i = item_is j l ∙ ap (λ x. item_by e (unwrap_or (node e j).parent 0) x) r ∙ ap (λ o. item_by e (unwrap_or o 0) (kind.Element tag run)) q in
      (element_way card top rises j p _ _ a l i, subst (λ x. x < j) (ap parent_of i) (rises.lower j a l))
  kind_way j p (kind.Text run) a l q r =
      let i = item_is j l ∙ ap (λ x. item_by e (unwrap_or (node e j).parent 0) x) r ∙ ap (λ o. item_by e (unwrap_or o 0) (kind.Text run)) q in
      (text_way card top rises j p _ a l i, subst (λ x. x < j) (ap parent_of i) (rises.lower j a l))

  -- the way up from a node goes by its parent link, to a lower number
  pub way : (j p : ℕ) → 0 < j → j ≤ top → (node e j).parent ≡ Some p → (above card j ≡ onto j p (node e j).kind) × (p < j)
  way j p a l q = kind_way j p (node e j).kind a l q refl

  pub at_root : above card 0 ≡ []
  at_root = root_way card top rises

  -- a lower number lies above a node if it lies above its parent
  pub above_parent : (n j p : ℕ) → n < j → j ≤ top → (node e j).parent ≡ Some p → member n (above card j) ≡ member n (above card p)
  above_parent n j p l u q = kind_step (node e j).kind refl
    where
      kind_step : (k : NodeKind) → (node e j).kind ≡ k → member n (above card j) ≡ member n (above card p)
      kind_step kind.Root r = absurd (not_root card j (omega arith) (s.place j (omega arith)) (item_is j u ∙ ap (λ x. item_by e (unwrap_or (node e j).parent 0) x) r))
      kind_step (kind.Element tag run) r = ap (λ (xs : List ℕ). member n xs) (kind_way j p (kind.Element tag run) (omega arith) u q r).0 ∙ ap (λ b. b || member n (above card p)) (ne_eqb n j (λ z. omega arith))
      kind_step (kind.Text run) r = ap (λ (xs : List ℕ). member n xs) (kind_way j p (kind.Text run) (omega arith) u q r).0

  -- no higher number lies above a node
  pub above_lower : (n j : ℕ) → j < n → j ≤ top → member n (above card j) ≡ false
  above_lower n j l u = ⊎_elim (λ t. absurd (let b = (found card j (rises_less card top j u rises) n t).0 in omega arith)) (λ f. f) (cases_Bool (member n (above card j)))

  -- a node is the first on its way up if it is an element
  pub above_itself : (j : ℕ) → j ≤ top → member j (above card j) ≡ is_element (node e j).kind
  above_itself zero l =
      let r : (node e 0).kind ≡ kind.Root = root_kind (node e 0).kind (sym (item_is 0 l) ∙ rises.rooted) in
      ap (λ (xs : List ℕ). member 0 xs) at_root ∙ sym (ap is_element r)
    where
      root_kind : (k : NodeKind) → item_by e (unwrap_or (node e 0).parent 0) k ≡ root → k ≡ kind.Root
      root_kind kind.Root q = refl
      root_kind (kind.Element tag run) q = absurd (false≢true (ap is_root q))
      root_kind (kind.Text run) q = absurd (false≢true (ap is_root q))
  above_itself (suc j) l = go (node e (suc j)).parent refl
    where
      go : (o : Option ℕ) → (node e (suc j)).parent ≡ o → member (suc j) (above card (suc j)) ≡ is_element (node e (suc j)).kind
      go None q = absurd (linked_up (suc j) (omega arith) l q)
      go (Some p) q = by_kind (node e (suc j)).kind refl
        where
          by_kind : (k : NodeKind) → (node e (suc j)).kind ≡ k → member (suc j) (above card (suc j)) ≡ is_element k
          by_kind kind.Root r = absurd (not_root card (suc j) (omega arith) (s.place (suc j) (omega arith)) (item_is (suc j) l ∙ ap (λ x. item_by e (unwrap_or (node e (suc j)).parent 0) x) r))
          by_kind (kind.Element tag run) r = ap (λ (xs : List ℕ). member (suc j) xs) (kind_way (suc j) p (kind.Element tag run) (omega arith) l q r).0 ∙ member_first (suc j) (above card p)
          by_kind (kind.Text run) r =
              let z = kind_way (suc j) p (kind.Text run) (omega arith) l q r in
              let lt = z.1 in
              ap (λ (xs : List ℕ). member (suc j) xs) z.0 ∙ above_lower (suc j) p (omega arith) (omega arith)

  -- a node is as deep as its parent, and an element one deeper
  pub deeper : (j p : ℕ) → 0 < j → j ≤ top → (node e j).parent ≡ Some p → length (above card j) ≡ cond (is_element (node e j).kind) 1 0 + length (above card p)
  deeper j p a l q = by_kind (node e j).kind refl
    where
      by_kind : (k : NodeKind) → (node e j).kind ≡ k → length (above card j) ≡ cond (is_element k) 1 0 + length (above card p)
      by_kind kind.Root r = absurd (not_root card j a (s.place j (omega arith)) (item_is j l ∙ ap (λ x. item_by e (unwrap_or (node e j).parent 0) x) r))
      by_kind (kind.Element tag run) r = ap length (kind_way j p (kind.Element tag run) a l q r).0 ∙ sym (one-add (length (above card p)))
      by_kind (kind.Text run) r = ap length (kind_way j p (kind.Text run) a l q r).0 ∙ sym (zero-add (length (above card p)))

  -- the parent in the contents is the one that the link names
  pub parent_of_link : (j p : ℕ) → 0 < j → j ≤ top → (node e j).parent ≡ Some p → parent card j ≡ p
  parent_of_link j p a l q = by_kind (node e j).kind refl
    where
      by_kind : (k : NodeKind) → (node e j).kind ≡ k → parent card j ≡ p
      by_kind kind.Root r = absurd (not_root card j a (s.place j (omega arith)) (item_is j l ∙ ap (λ x. item_by e (unwrap_or (node e j).parent 0) x) r))
      by_kind (kind.Element tag run) r = ap parent_of (item_is j l ∙ ap (λ x. item_by e (unwrap_or (node e j).parent 0) x) r ∙ ap (λ o. item_by e (unwrap_or o 0) (kind.Element tag run)) q)
      by_kind (kind.Text run) r = ap parent_of (item_is j l ∙ ap (λ x. item_by e (unwrap_or (node e j).parent 0) x) r ∙ ap (λ o. item_by e (unwrap_or o 0) (kind.Text run)) q)
