-- Parents and children in a card whose items are in their places.
use Rattle.std.proofs.Common.{◌≡◌, ℕ, zero, suc, ◌+◌, ◌<◌, ◌≤◌, true, false, not, ◌&&◌, eqb, ◌∷◌, length, sym, refl, ap, ◌∙◌, subst, ⊎_elim, arith}
use Rattle.std.proofs.lemmas.Bool.{and_parts, or_cases, cases_lt, false≢true, eqb-true, eq-eqb}
use Rattle.names.specs.declared.EId.TheVariants as tag
use Rattle.card.specs.Lists.{member}
use Rattle.card.specs.Contents.{Item, root, element, text, Card, item, parent, parent_of, tagged, above}
use Rattle.card.specs.Order.{is_root, in_place}
use Rattle.card.proofs.Upward.{Rises, rises_to, found, element_way, text_way}
use Rattle.traverse.specs.Subtree.{lies_in}

-- each item is in its place
abbrev pub Placed : Card → Type 0
Placed card = (k : ℕ) → k < length card → in_place card k ≡ true

-- an item in its place, after number 0, is not the root
pub placed : (card : Card) (k : ℕ) → 0 < k → in_place card k ≡ true → not (is_root (item card k)) ≡ true
placed card zero l h = absurd (omega arith)
placed card (suc zero) l h = tag_of (item card 1) (and_parts (tagged tag.Svg (item card 1)) (eqb (parent_of (item card 1)) 0) h).0
  where
    tag_of : (it : Item) → tagged tag.Svg it ≡ true → not (is_root it) ≡ true
    tag_of root t = absurd (false≢true t)
    tag_of (element p u attrs) t = refl
    tag_of (text p bytes) t = absurd (false≢true t)
placed card (suc (suc k)) l h = (and_parts (not (is_root (item card (suc (suc k))))) (member (parent_of (item card (suc (suc k)))) (above card (suc k))) h).0

module _ (card : Card) (p : Placed card) where
  pub rises : (k : ℕ) → k < length card → Rises card k
  rises k l = rises_to card k (λ j u. p j (omega arith))

  pub not_root : (k : ℕ) → 0 < k → k < length card → not (is_root (item card k)) ≡ true
  not_root k z l = placed card k z (p k l)

  -- the root is no child
  pub root_in_none : (k : ℕ) → 0 < length card → lies_in card k 0 ≡ false
  root_in_none k l = ap (λ it. not (is_root it) && eqb (parent_of it) k) (rises 0 l).rooted

  -- any other is a child of its parent
  pub lies_by : (k j : ℕ) → 0 < j → j < length card → lies_in card k j ≡ eqb (parent card j) k
  lies_by k j z l = ap (λ b. b && eqb (parent card j) k) (not_root j z l)

  -- a child has a higher number
  pub higher : (k j : ℕ) → j < length card → lies_in card k j ≡ true → k < j
  higher k zero l h = absurd (false≢true (sym (root_in_none k l) ∙ h))
  higher k (suc j) l h =
      let q = eqb-true (parent card (suc j)) k (sym (lies_by k (suc j) (omega arith) l) ∙ h) in
      let u = (rises (suc j) l).lower (suc j) (omega arith) (omega arith) in
      omega arith

  -- there is a child of k up to m
  abbrev ChildBy : ℕ → ℕ → Type 0
  ChildBy k m = (a : ℕ) × (a ≤ m) × (lies_in card k a ≡ true)

  -- on the way up from m to k there is a child of k
  child_by : (n m k : ℕ) → m ≤ n → m < length card → k < m → member k (above card m) ≡ true → ChildBy k m
  child_by zero m k b l u h = absurd (omega arith)
  child_by (suc n) m k b l u h = let r = (rises m l).lower m (omega arith) (omega arith) in go (λ x w. child_by n (parent card m) k (omega arith) (omega arith) x w) r (item card m) refl
    where
      from_parent : (k < parent card m → member k (above card (parent card m)) ≡ true → ChildBy k (parent card m)) → parent card m < m → member k (above card (parent card m)) ≡ true → ChildBy k m
      from_parent up r w =
          let v = (found card (parent card m) (rises (parent card m) (omega arith)) k w).0 in
          ⊎_elim
          (λ x. let y = up x w in let z = y.1 in (y.0, omega arith, y.2))
          (λ x. (m, omega arith, lies_by k m (omega arith) l ∙ eq-eqb (parent card m) k (omega arith)))
          (cases_lt k (parent card m))

      go : (k < parent card m → member k (above card (parent card m)) ≡ true → ChildBy k (parent card m)) → parent card m < m → (it : Item) → item card m ≡ it → ChildBy k m
      go up r root i = absurd (false≢true (sym (ap (λ x. not (is_root x)) i) ∙ not_root m (omega arith) l))
      go up r (element q t attrs) i =
          let w : above card m ≡ m ∷ above card (parent card m) = element_way card m (rises m l) m q t attrs (omega arith) (omega arith) i ∙ ap (λ x. m ∷ above card x) (sym (ap parent_of i)) in
          ⊎_elim
          (λ x. let y = eqb-true k m x in absurd (omega arith))
          (from_parent up r)
          (or_cases (eqb k m) (member k (above card (parent card m))) (subst (λ xs. member k xs ≡ true) w h))
      go up r (text q bytes) i =
          let w : above card m ≡ above card (parent card m) = text_way card m (rises m l) m q bytes (omega arith) (omega arith) i ∙ ap (above card) (sym (ap parent_of i)) in
          from_parent up r (subst (λ xs. member k xs ≡ true) w h)

  -- a node with a child has the number after its own as a child
  pub first_born : (n k j : ℕ) → j ≤ n → j < length card → lies_in card k j ≡ true → lies_in card k (k + 1) ≡ true
  first_born n k zero b l h = absurd (false≢true (sym (root_in_none k l) ∙ h))
  first_born n k (suc zero) b l h = subst (λ j. lies_in card k j ≡ true) (let u = higher k 1 l h in let q : 1 ≡ k + 1 = omega arith in q) h
  first_born zero k (suc (suc j)) b l h = absurd (omega arith)
  first_born (suc n) k (suc (suc j)) b l h =
      let u = higher k (suc (suc j)) l h in
      let q = eqb-true (parent card (suc (suc j))) k (sym (lies_by k (suc (suc j)) (omega arith) l) ∙ h) in
      let w = (and_parts (not (is_root (item card (suc (suc j))))) (member (parent card (suc (suc j))) (above card (suc j))) (p (suc (suc j)) l)).1 in
      ⊎_elim
      (λ x. let y = child_by (suc j) (suc j) k (omega arith) (omega arith) x (subst (λ i. member i (above card (suc j)) ≡ true) q w) in let z = y.1 in first_born n k y.0 (omega arith) (omega arith) y.2)
      (λ x. subst (λ i. lies_in card k i ≡ true) (let z : suc (suc j) ≡ k + 1 = omega arith in z) h)
      (cases_lt k (suc j))
