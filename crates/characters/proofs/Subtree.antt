-- What lies below a number: the numbers after it, up to the first whose parent is lower.
use Rattle.std.proofs.Common.{◌≡◌, ℕ, zero, suc, ◌+◌, ◌-◌, ◌<◌, ◌≤◌, Bool, true, false, not, ◌&&◌, eqb, ltb, List, length, None, sym, refl, ap, ◌∙◌, subst, ⊎_elim, arith}
use mathlib.Core.Bool.{false≢true}
use Rattle.std.proofs.lemmas.Bool.{and_parts, and_from, and_left, and_right, or_cases, eqb-true, cases_lt, cases_Bool, lt-ltb, le-ltb}
use Rattle.card.specs.Lists.{member}
use Rattle.card.specs.Contents.{Item, root, element, text, Card, item, parent_of, parent, above, below}
use Rattle.card.specs.Order.{is_root, in_place, InOrder}
use Rattle.card.proofs.Upward.{Rises, Elem, rises_all, element_way, text_way, found, member_later, not_root, past_end}
use Rattle.card.proofs.Within.{within, elem_itself, svg_above}
use Rattle.document.specs.Reads.{is_element, is_element_item, Leads}
use Rattle.characters.specs.Subtrees.{LiesBetween}

-- r is the first number after e whose parent is lower than e, or the end of the card
pub record Ends (card : Card) (e r : ℕ) : Type 0 where
  pub after : e < r
  pub within : r ≤ length card
  pub inside : (k : ℕ) → e < k → k < r → e ≤ parent card k
  pub outside : r < length card → parent card r < e

-- one number more has a parent from e on
pub one_further : (card : Card) (e r : ℕ) → ((k : ℕ) → e < k → k < r → e ≤ parent card k) → e ≤ parent card r → (k : ℕ) → e < k → k < r + 1 → e ≤ parent card k
one_further card e r h here k a b = ⊎_elim (λ l. h k a l) (λ l. subst (λ j. e ≤ parent card j) (let q : r ≡ k = omega arith in q) here) (cases_lt k r)

module _ (card : Card) (order : InOrder card) where
  placed : (k : ℕ) → k < length card → in_place card k ≡ true
  placed k l = (order.each k l).place

  pub rises : (top : ℕ) → Rises card top
  rises top = let t = order.two in rises_all card (length card - 1) (λ j l. placed j (omega arith)) (omega arith) top

  -- what lies above the parent lies above the child
  up_to_child : (k x : ℕ) → 0 < k → k < length card → member x (above card (parent card k)) ≡ true → member x (above card k) ≡ true
  up_to_child k x a l m = go (item card k) refl
    where
      go : (it : Item) → item card k ≡ it → member x (above card k) ≡ true
      go root q = absurd (not_root card k a (placed k l) q)
      go (element p t attrs) q =
          ap (λ (xs : List ℕ). member x xs) (element_way card k (rises k) k p t attrs a (omega arith) q)
          ∙ member_later x k (above card p) (ap (λ j. member x (above card j)) (sym (ap parent_of q)) ∙ m)
      go (text p bytes) q = ap (λ (xs : List ℕ). member x xs) (text_way card k (rises k) k p bytes a (omega arith) q) ∙ ap (λ j. member x (above card j)) (sym (ap parent_of q)) ∙ m

  -- what lies above the child, and is not the child, lies above the parent
  down_to_parent : (k x : ℕ) → 0 < k → k < length card → (x ≡ k → ⊥) → member x (above card k) ≡ true → member x (above card (parent card k)) ≡ true
  down_to_parent k x a l ne m = go (item card k) refl
    where
      go : (it : Item) → item card k ≡ it → member x (above card (parent card k)) ≡ true
      go root q = absurd (not_root card k a (placed k l) q)
      go (element p t attrs) q =
          ap (λ j. member x (above card j)) (ap parent_of q)
          ∙ ⊎_elim (λ e. absurd (ne (eqb-true x k e))) (λ h. h) (or_cases (eqb x k) (member x (above card p)) (sym (ap (λ (xs : List ℕ). member x xs) (element_way card k (rises k) k p t attrs a (omega arith) q)) ∙ m))
      go (text p bytes) q = ap (λ j. member x (above card j)) (ap parent_of q) ∙ sym (ap (λ (xs : List ℕ). member x xs) (text_way card k (rises k) k p bytes a (omega arith) q)) ∙ m

  -- the parent of a later number lies above the number before it
  parent_above : (k : ℕ) → suc (suc k) < length card → member (parent card (suc (suc k))) (above card (suc k)) ≡ true
  parent_above k l = (and_parts (not (is_root (item card (suc (suc k))))) (member (parent card (suc (suc k))) (above card (suc k))) (placed (suc (suc k)) l)).1

  parent_elem : (k : ℕ) → 1 < k → k < length card → Elem card (parent card k)
  parent_elem zero a l = absurd (omega arith)
  parent_elem (suc zero) a l = absurd (omega arith)
  parent_elem (suc (suc k)) a l = (found card (suc k) (rises (suc k)) (parent card (suc (suc k))) (parent_above k l)).1

  module _ (e r : ℕ) (later : 0 < e) (ends : Ends card e r) where
    inside_from : (n k : ℕ) → k ≤ n → e < k → k < r → member e (above card (parent card k)) ≡ true
    inside_from zero k b a l = absurd (omega arith)
    inside_from (suc n) k b a l =
        let w = ends.within in
        let p = ends.inside k a l in
        let low = (rises k).lower k (omega arith) (omega arith) in
        ⊎_elim
        (λ lt. up_to_child (parent card k) e (omega arith) (omega arith) (inside_from n (parent card k) (omega arith) lt (omega arith)))
        (λ le. let q : parent card k ≡ e = omega arith in subst (λ j. member e (above card j) ≡ true) (sym q) (elem_itself card e (rises e) e (omega arith) (subst (Elem card) q (parent_elem k (omega arith) (omega arith)))))
        (cases_lt e (parent card k))

    not_past : (k : ℕ) → r ≤ k → k < length card → member e (above card k) ≡ true → ⊥
    not_past zero a l m = let f = ends.after in omega arith
    not_past (suc zero) a l m = let f = ends.after in omega arith
    not_past (suc (suc k)) a l m =
        let f = ends.after in
        let up = down_to_parent (suc (suc k)) e (omega arith) l (λ q. omega arith) m in
        ⊎_elim
        (λ lt. not_past (suc k) (omega arith) (omega arith) (within card (suc k) (rises (suc k)) (suc k) (parent card (suc (suc k))) e (omega arith) up (parent_above k l)))
        (λ le.
        let q : r ≡ suc (suc k) = omega arith in
        let o = subst (λ j. parent card j < e) q (ends.outside (omega arith)) in
        let u = (found card (parent card (suc (suc k))) (rises (parent card (suc (suc k)))) e up).0 in
        omega arith)
        (cases_lt r (suc (suc k)))

    not_before : (k : ℕ) → k ≤ e → member e (above card (parent card k)) ≡ true → ⊥
    not_before zero a m =
        let q : parent card 0 ≡ 0 = ap parent_of (rises 0).rooted in
        let u = (found card (parent card 0) (rises (parent card 0)) e m).0 in
        omega arith
    not_before (suc k) a m =
        let low = (rises (suc k)).lower (suc k) (omega arith) (omega arith) in
        let u = (found card (parent card (suc k)) (rises (parent card (suc k))) e m).0 in
        omega arith

    refuted : (b : Bool) → (b ≡ true → ⊥) → b ≡ false
    refuted b h = ⊎_elim (λ t. absurd (h t)) (λ f. f) (cases_Bool b)

    below_is : (k : ℕ) → k < length card → below card e k ≡ (ltb e k && ltb k r)
    below_is k l =
        ⊎_elim
        (λ a. ⊎_elim
        (λ b. inside_from k k (omega arith) a b ∙ sym (and_from (ltb e k) (ltb k r) (lt-ltb e k a) (lt-ltb k r b)))
        (λ b. refuted (below card e k) (λ m. not_past k b l (up_to_child k e (omega arith) l m)) ∙ sym (and_right (ltb e k) (ltb k r) (le-ltb k r b)))
        (cases_lt k r))
        (λ a. refuted (below card e k) (not_before k a) ∙ sym (and_left (ltb e k) (ltb k r) (le-ltb e k a)))
        (cases_lt e k)

    pub lies_between : LiesBetween card e r
    lies_between = record { after = ends.after; within = ends.within; exact = below_is }

  -- every number has an end
  end_from : (d e k : ℕ) → e < k → k + d ≡ length card → ((j : ℕ) → e < j → j < k → e ≤ parent card j) → (r : ℕ) × Ends card e r
  end_from zero e k a q h = (k, record { after = a; within = omega arith; inside = h; outside = λ l. absurd (omega arith) })
  end_from (suc d) e k a q h =
      ⊎_elim
      (λ l. (k, record { after = a; within = omega arith; inside = h; outside = λ u. l }))
      (λ l. end_from d e (k + 1) (omega arith) (omega arith) (one_further card e k h l))
      (cases_lt (parent card k) e)

  pub end_of : (e : ℕ) → e < length card → (r : ℕ) × Ends card e r
  end_of e l = end_from (length card - suc e) e (suc e) (omega arith) (omega arith) (λ j a b. absurd (omega arith))

  -- what has no way up has no parent either
  pub no_parent : (k : ℕ) → Leads card k None → parent card k ≡ 0
  no_parent zero h = ap parent_of (rises 0).rooted
  no_parent (suc k) h =
      ⊎_elim
      (λ l. absurd (false≢true (sym (ap (λ (xs : List ℕ). member 1 xs) h) ∙ svg_above card (suc k) (λ j u. placed j (omega arith)) (suc k) (omega arith) (omega arith))))
      (λ l. ap parent_of (past_end card (suc k) l))
      (cases_lt (suc k) (length card))

  -- an element is a number of the card, and not 0
  pub element_within : (e : ℕ) → is_element card e ≡ true → (0 < e) × (e < length card)
  element_within e h = (positive e h, ⊎_elim (λ l. l) (λ l. absurd (false≢true (sym (ap is_element_item (past_end card e l)) ∙ h))) (cases_lt e (length card)))
    where
      positive : (k : ℕ) → is_element card k ≡ true → 0 < k
      positive zero g = absurd (false≢true (sym (ap is_element_item (rises 0).rooted) ∙ g))
      positive (suc k) g = omega arith
