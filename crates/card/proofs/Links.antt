-- What the links of the nodes ought to be when there is one node more.
use Rattle.std.proofs.Common.{◌≡◌, ℕ, suc, ◌<◌, true, false, ltb, is_some, Some, None, Option, sym, refl, ap, ◌∙◌, subst, ⊎_elim, arith}
use Rattle.std.proofs.lemmas.Bool.{and_parts, and_from, cases_Bool, cases_lt, true≢false, false≢true, lt-ltb, ltb-true, eqb-true, eq-eqb}
use Rattle.card.specs.Lists.{highest, lowest}
use Rattle.card.specs.Tables.{Entries, node}
use Rattle.card.specs.TableOrder.{same_link, child, siblings, later_sibling}
use Rattle.card.proofs.Numbers.{option_cases, highest_some, highest_none, lowest_skip, lowest_had, lowest_here, lowest_nowhere, lowest_none}

pub same_link_true : (a b : Option ℕ) → same_link a b ≡ true → a ≡ b
same_link_true None None h = refl
same_link_true None (Some b) h = absurd (false≢true h)
same_link_true (Some a) None h = absurd (false≢true h)
same_link_true (Some a) (Some b) h = ap {B = Option ℕ} (λ x. Some x) (eqb-true a b h)

same_link_self : (a : Option ℕ) → same_link a a ≡ true
same_link_self None = refl
same_link_self (Some a) = eq-eqb a a refl

pub link_same : (a b : Option ℕ) → a ≡ b → same_link a b ≡ true
link_same a b h = subst (λ x. same_link a x ≡ true) h (same_link_self a)

pub link_other : (a b : Option ℕ) → (a ≡ b → ⊥) → same_link a b ≡ false
link_other a b h = ⊎_elim (λ t. absurd (h (same_link_true a b t))) (λ f. f) (cases_Bool (same_link a b))

module _ (e : Entries) where
  -- a child is one whose parent link says so
  pub child_is : (k j : ℕ) → child e k j ≡ true → (node e j).parent ≡ Some k
  child_is k j h = same_link_true (node e j).parent (Some k) h

  pub child_from : (k j : ℕ) → (node e j).parent ≡ Some k → child e k j ≡ true
  child_from k j h = link_same (node e j).parent (Some k) h

  later_from : (k j p : ℕ) → k < j → (node e k).parent ≡ Some p → (node e j).parent ≡ Some p → later_sibling e k j ≡ true
  later_from k j p l a b =
      and_from (ltb k j) (siblings e k j) (lt-ltb k j l)
      (and_from (is_some (node e k).parent) (same_link (node e k).parent (node e j).parent) (ap is_some a) (link_same (node e k).parent (node e j).parent (a ∙ sym b)))

  later_is : (k j : ℕ) → later_sibling e k j ≡ true → (k < j) × ((is_some (node e k).parent ≡ true) × ((node e k).parent ≡ (node e j).parent))
  later_is k j h =
      let a = and_parts (ltb k j) (siblings e k j) h in
      let b = and_parts (is_some (node e k).parent) (same_link (node e k).parent (node e j).parent) a.1 in
      (ltb-true k j a.0, (b.0, same_link_true (node e k).parent (node e j).parent b.1))

  no_later : (k j : ℕ) → (later_sibling e k j ≡ true → ⊥) → later_sibling e k j ≡ false
  no_later k j h = ⊎_elim (λ t. absurd (h t)) (λ f. f) (cases_Bool (later_sibling e k j))

  -- a node without a parent is nobody's next sibling
  pub next_after_none : (k j : ℕ) → (node e j).parent ≡ None → lowest (later_sibling e k) (suc j) ≡ lowest (later_sibling e k) j
  next_after_none k j h = lowest_skip (later_sibling e k) j (no_later k j (λ t. let w = later_is k j t in true≢false (sym w.1.0 ∙ ap is_some (w.1.1 ∙ h))))

  -- a node without a parent has no next sibling
  pub next_of_orphan : (k n : ℕ) → (node e k).parent ≡ None → lowest (later_sibling e k) n ≡ None
  next_of_orphan k n h = lowest_nowhere (later_sibling e k) n (λ j l. no_later k j (λ t. true≢false (sym (later_is k j t).1.0 ∙ ap is_some h)))

  -- a node with another parent is not the next sibling
  pub next_after_other : (k j : ℕ) → ((node e k).parent ≡ (node e j).parent → ⊥) → lowest (later_sibling e k) (suc j) ≡ lowest (later_sibling e k) j
  next_after_other k j h = lowest_skip (later_sibling e k) j (no_later k j (λ t. h (later_is k j t).1.1))

  -- the next sibling of a node comes after it
  pub next_after_self : (k : ℕ) → lowest (later_sibling e k) (suc k) ≡ None
  next_after_self k = lowest_nowhere (later_sibling e k) (suc k) (λ j l. no_later k j (λ t. let w = (later_is k j t).0 in omega arith))

  module _ (j p : ℕ) (h : (node e j).parent ≡ Some p) where
    -- a new child is the next sibling of the child that was the highest
    pub next_after_last : (k : ℕ) → highest (child e p) j ≡ Some k → lowest (later_sibling e k) (suc j) ≡ Some j
    next_after_last k q =
        let w = highest_some (child e p) j k q in
        let a = child_is p k w.1.0 in
        let none : lowest (later_sibling e k) j ≡ None =
        lowest_nowhere (later_sibling e k) j (λ m l. no_later k m (λ t. let u = later_is k m t in true≢false (sym (child_from p m (sym u.1.1 ∙ a)) ∙ w.1.1 m l u.0))) in
        lowest_here (later_sibling e k) j none (later_from k j p w.0 a h)

    -- and of no other
    pub next_after_kept : (k : ℕ) → (highest (child e p) j ≡ Some k → ⊥) → lowest (later_sibling e k) (suc j) ≡ lowest (later_sibling e k) j
    next_after_kept k q = ⊎_elim (λ l. ⊎_elim (λ s. before l (child_is p k s)) (λ f. next_after_other k j (λ s. true≢false (sym (child_from p k (s ∙ h)) ∙ f))) (cases_Bool (child e p k))) (λ l. lowest_skip (later_sibling e k) j (no_later k j (λ t. let w = (later_is k j t).0 in omega arith))) (cases_lt k j)
      where
        -- a child before the highest one has a next sibling already
        before : k < j → (node e k).parent ≡ Some p → lowest (later_sibling e k) (suc j) ≡ lowest (later_sibling e k) j
        before l a = ⊎_elim (λ n. absurd (true≢false (sym (child_from p k a) ∙ highest_none (child e p) j n k l))) at_highest (option_cases (highest (child e p) j))
          where
            at_highest : (m : ℕ) × (highest (child e p) j ≡ Some m) → lowest (later_sibling e k) (suc j) ≡ lowest (later_sibling e k) j
            at_highest s =
                let m = s.0 in
                let w = highest_some (child e p) j m s.1 in
                let above : k < m =
                ⊎_elim (λ u. u) (λ u. ⊎_elim (λ v. absurd (true≢false (sym (child_from p k a) ∙ w.1.1 k l v))) (λ v. absurd (q (s.1 ∙ ap {B = Option ℕ} (λ x. Some x) (let z : m ≡ k = omega arith in z)))) (cases_lt m k)) (cases_lt k m) in
                let t = later_from k m p above a (child_is p m w.1.0) in
                ⊎_elim (λ n. absurd (true≢false (sym t ∙ lowest_none (later_sibling e k) j n m w.0))) (λ z. lowest_had (later_sibling e k) j z.0 z.1 ∙ sym z.1) (option_cases (lowest (later_sibling e k) j))
