-- What lies above what lies above: the way up passes on, and every way up ends at node 1.
use Rattle.std.proofs.Common.{◌≡◌, ℕ, zero, suc, ◌<◌, ◌≤◌, true, not, eqb, List, [], sym, refl, ap, ◌∙◌, subst, ⊎_elim, true≢false, arith}
use mathlib.Core.Bool.{false≢true}
use Rattle.std.proofs.lemmas.Bool.{and_parts, or_cases, eqb-true, cases_lt}
use Rattle.names.specs.declared.EId.TheVariants as tag
use Rattle.card.specs.Lists.{member}
use Rattle.card.specs.Contents.{Item, root, element, text, Card, item, parent_of, parent, tagged, above, climb, onward}
use Rattle.card.specs.Order.{is_root, in_place}
use Rattle.card.proofs.Upward.{Rises, Elem, rises_to, rises_less, root_way, element_way, text_way, found, member_first, member_later, not_root}

-- from a root there is no way up, whatever its number
pub orphan_way : (card : Card) (k : ℕ) → item card k ≡ root → above card k ≡ []
unfolding above climb
orphan_way card zero q = refl
orphan_way card (suc k) q = ap (λ it. onward it (suc k) (λ p. climb k card p)) q

module _ (card : Card) (top : ℕ) (r : Rises card top) where
  passes_on : (n k e x : ℕ) → k ≤ n → k ≤ top → member x (above card e) ≡ true → member e (above card k) ≡ true → member x (above card k) ≡ true
  passes_on n zero e x l u a b = absurd (false≢true (sym (ap (λ (xs : List ℕ). member e xs) (root_way card top r)) ∙ b))
  passes_on zero (suc k) e x l u a b = absurd (omega arith)
  passes_on (suc n) (suc k) e x l u a b = go (item card (suc k)) refl (let low = r.lower (suc k) (omega arith) u in passes_on n (parent card (suc k)) e x (omega arith) (omega arith) a)
    where
      go : (it : Item) → item card (suc k) ≡ it → (member e (above card (parent card (suc k))) ≡ true → member x (above card (parent card (suc k))) ≡ true) → member x (above card (suc k)) ≡ true
      go root q ih = absurd (false≢true (sym (ap (λ (xs : List ℕ). member e xs) (orphan_way card (suc k) q)) ∙ b))
      go (element p t attrs) q ih =
          let way = element_way card top r (suc k) p t attrs (omega arith) u q in
          let same : parent card (suc k) ≡ p = ap parent_of q in
          ⊎_elim
          (λ h. subst (λ j. member x (above card j) ≡ true) (eqb-true e (suc k) h) a)
          (λ h. ap (λ (xs : List ℕ). member x xs) way ∙ member_later x (suc k) (above card p) (ap (λ j. member x (above card j)) (sym same) ∙ ih (ap (λ j. member e (above card j)) same ∙ h)))
          (or_cases (eqb e (suc k)) (member e (above card p)) (sym (ap (λ (xs : List ℕ). member e xs) way) ∙ b))
      go (text p bytes) q ih =
          let way = text_way card top r (suc k) p bytes (omega arith) u q in
          let same : parent card (suc k) ≡ p = ap parent_of q in
          ap (λ (xs : List ℕ). member x xs) way ∙ ap (λ j. member x (above card j)) (sym same) ∙ ih (ap (λ j. member e (above card j)) same ∙ sym (ap (λ (xs : List ℕ). member e xs) way) ∙ b)

  -- what lies above an element above k lies above k
  pub within : (k e x : ℕ) → k ≤ top → member x (above card e) ≡ true → member e (above card k) ≡ true → member x (above card k) ≡ true
  within k e x u a b = passes_on k k e x (omega arith) u a b

  -- an element is the first on its own way up
  pub elem_itself : (e : ℕ) → e ≤ top → Elem card e → member e (above card e) ≡ true
  elem_itself zero u h = absurd (true≢false (ap is_root (sym r.rooted ∙ h.3)))
  elem_itself (suc e) u h = ap (λ (xs : List ℕ). member (suc e) xs) (element_way card top r (suc e) h.0 h.1 h.2 (omega arith) u h.3) ∙ member_first (suc e) (above card h.0)

-- node 1 lies above every later node
module _ (card : Card) (top : ℕ) (placed : (j : ℕ) → j ≤ top → in_place card j ≡ true) where
  rises : Rises card top
  rises = rises_to card top placed

  -- a parent of a later node is an element, so not the root
  parent_later : (k : ℕ) → suc (suc k) ≤ top → 0 < parent card (suc (suc k))
  parent_later k u =
      let m = (and_parts (not (is_root (item card (suc (suc k))))) (member (parent card (suc (suc k))) (above card (suc k))) (placed (suc (suc k)) u)).1 in
      let f = (found card (suc k) (rises_less card top (suc k) (omega arith) rises) (parent card (suc (suc k))) m).1 in
      ⊎_elim (λ l. l) (λ l. absurd (true≢false (ap is_root (sym rises.rooted ∙ ap (λ j. item card j) (let z : 0 ≡ parent card (suc (suc k)) = omega arith in z) ∙ f.3)))) (cases_lt 0 (parent card (suc (suc k))))

  svg_from : (n k : ℕ) → k ≤ n → 0 < k → k ≤ top → member 1 (above card k) ≡ true
  svg_from n zero l a u = absurd (omega arith)
  svg_from zero (suc k) l a u = absurd (omega arith)
  svg_from (suc n) (suc zero) l a u = go (item card 1) refl
    where
      go : (it : Item) → item card 1 ≡ it → member 1 (above card 1) ≡ true
      go root q = absurd (not_root card 1 (omega arith) (placed 1 u) q)
      go (element p t attrs) q = ap (λ (xs : List ℕ). member 1 xs) (element_way card top rises 1 p t attrs (omega arith) u q) ∙ member_first 1 (above card p)
      go (text p bytes) q = absurd (false≢true (sym (ap (tagged tag.Svg) q) ∙ (and_parts (tagged tag.Svg (item card 1)) (eqb (parent_of (item card 1)) 0) (placed 1 u)).0))
  svg_from (suc n) (suc (suc k)) l a u =
      let low = rises.lower (suc (suc k)) (omega arith) u in
      go (item card (suc (suc k))) refl (svg_from n (parent card (suc (suc k))) (omega arith) (parent_later k u) (omega arith))
    where
      go : (it : Item) → item card (suc (suc k)) ≡ it → member 1 (above card (parent card (suc (suc k)))) ≡ true → member 1 (above card (suc (suc k))) ≡ true
      go root q ih = absurd (not_root card (suc (suc k)) (omega arith) (placed (suc (suc k)) u) q)
      go (element p t attrs) q ih =
          ap (λ (xs : List ℕ). member 1 xs) (element_way card top rises (suc (suc k)) p t attrs (omega arith) u q)
          ∙ member_later 1 (suc (suc k)) (above card p) (ap (λ j. member 1 (above card j)) (sym (ap parent_of q)) ∙ ih)
      go (text p bytes) q ih = ap (λ (xs : List ℕ). member 1 xs) (text_way card top rises (suc (suc k)) p bytes (omega arith) u q) ∙ ap (λ j. member 1 (above card j)) (sym (ap parent_of q)) ∙ ih

  pub svg_above : (k : ℕ) → 0 < k → k ≤ top → member 1 (above card k) ≡ true
  svg_above k a u = svg_from k k (omega arith) a u
