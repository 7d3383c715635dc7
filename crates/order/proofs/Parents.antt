-- What one step of the pass over the parents keeps.
use Rattle.std.proofs.Common.{◌≡◌, ℕ, suc, ◌+◌, ◌<◌, ◌≤◌, false, cond, List, length, get_or, set, replicate, Some, None, Option, sym, ap, ◌∙◌, subst, ⊎_elim, add-one, arith}
use Rattle.std.proofs.lemmas.List.{get_or-set_same, get_or-set_other, get_or-replicate}
use Rattle.std.proofs.lemmas.Bool.{cases_eq, cases_lt, lt-ltb, le-ltb}
use Rattle.card.specs.Lists.{highest, lowest}
use Rattle.card.specs.Tables.{Entries, node}
use Rattle.card.specs.TableOrder.{child, later_sibling}
use Rattle.card.proofs.Numbers.{option_cases, highest_here, highest_skip, highest_some, highest_nowhere, lowest_nowhere}
use Rattle.card.proofs.Links.{child_from, child_is, link_other, next_after_none, next_after_other, next_after_last, next_after_kept, next_of_orphan}
use Rattle.order.specs.Links.{with_next, last_noted, next_noted, Expected}

-- before the first node nothing is linked
pub none_yet : (e : Entries) (n m : ℕ) → n ≤ m → Expected e n 0 (replicate m None) (replicate m None)
none_yet e n m h =
    record {
      lasts = λ k l. get_or-replicate m k None None (omega arith) ∙ sym (highest_nowhere (child e k) 0 (λ j z. absurd (omega arith)));
      orphans = λ k l q. get_or-replicate m k None None (omega arith);
      nexts = λ k p l q u. get_or-replicate m k None None (omega arith) ∙ sym (lowest_nowhere (later_sibling e k) 0 (λ j z. absurd (omega arith)));
    }

module _ (e : Entries) (n m : ℕ) (last next : List (Option ℕ)) (h : Expected e n m last next) where
  abbrev at_next : ℕ → Type 0
  at_next j = Expected e n j last next

  -- a node without a parent links nothing
  after_none : (node e m).parent ≡ None → Expected e n (m + 1) last next
  after_none q =
      subst at_next (sym (add-one m)) (record {
        lasts = λ k l. h.lasts k l ∙ sym (highest_skip (child e k) m (link_other (node e m).parent (Some k) (λ w. let z : None ≡ Some k = sym q ∙ w in let bad : ◌≡◌ {A = ℕ} 0 1 = cc in omega arith)));
        orphans = h.orphans;
        nexts = λ k p l w u. h.nexts k p l w u ∙ sym (next_after_none e k m q);
      })

  module _ (p : ℕ) (q : (node e m).parent ≡ Some p) where
    not_child : (k : ℕ) → (k ≡ p → ⊥) → child e k m ≡ false
    not_child k ne = link_other (node e m).parent (Some k) (λ w. let z : Some p ≡ Some k = sym q ∙ w in ne (cc))

    -- a node whose parent is none of the nodes links none of them
    after_stranger : n ≤ p → Expected e n (m + 1) last next
    after_stranger far =
        subst at_next (sym (add-one m)) (record {
          lasts = λ k l. h.lasts k l ∙ sym (highest_skip (child e k) m (not_child k (λ w. omega arith)));
          orphans = h.orphans;
          nexts = λ k o l w u. h.nexts k o l w u ∙ sym (next_after_other e k m (λ s. let z : Some o ≡ Some p = sym w ∙ s ∙ q in let same : o ≡ p = cc in omega arith));
        })

    module _ (near : p < n) (lasts_long : n ≤ length last) (nexts_long : n ≤ length next) (before : m < n) where
      last_so : (k : ℕ) → k < n → get_or (set last p (Some m)) k None ≡ highest (child e k) (suc m)
      last_so k l =
          ⊎_elim
          (λ s. subst (λ j. get_or (set last p (Some m)) j None ≡ highest (child e j) (suc m)) (sym s) (get_or-set_same last p (Some m) None (omega arith) ∙ sym (highest_here (child e p) m (child_from e p m q))))
          (λ ne. get_or-set_other last p k (Some m) None ne ∙ h.lasts k l ∙ sym (highest_skip (child e k) m (not_child k ne)))
          (cases_eq k p)

      module _ (k o : ℕ) (l : k < n) (w : (node e k).parent ≡ Some o) (u : o < n) where
        abbrev NextSo : Type 0
        NextSo = get_or (with_next (get_or last p None) next m) k None ≡ lowest (later_sibling e k) (suc m)

        at_none : highest (child e p) m ≡ None → NextSo
        at_none z =
            ap (λ x. get_or (with_next x next m) k None) (h.lasts p near ∙ z) ∙ h.nexts k o l w u
            ∙ sym (next_after_kept e m p q k (λ y. let x : None ≡ Some k = sym z ∙ y in let bad : ◌≡◌ {A = ℕ} 0 1 = cc in omega arith))

        at_some : (j : ℕ) × (highest (child e p) m ≡ Some j) → NextSo
        at_some s =
            let j = s.0 in
            ap (λ x. get_or (with_next x next m) k None) (h.lasts p near ∙ s.1)
            ∙ ⊎_elim
            (λ y. ap (λ i. get_or (set next i (Some m)) k None) (sym y) ∙ get_or-set_same next k (Some m) None (omega arith) ∙ sym (next_after_last e m p q k (s.1 ∙ ap {B = Option ℕ} (λ i. Some i) (sym y))))
            (λ y. get_or-set_other next j k (Some m) None y ∙ h.nexts k o l w u ∙ sym (next_after_kept e m p q k (λ x. let same : Some j ≡ Some k = sym s.1 ∙ x in y (cc))))
            (cases_eq k j)

      orphan_so : (k : ℕ) → k < n → (node e k).parent ≡ None → get_or (with_next (get_or last p None) next m) k None ≡ None
      orphan_so k l z =
          ⊎_elim
          (λ a. ap (λ x. get_or (with_next x next m) k None) (h.lasts p near ∙ a) ∙ h.orphans k l z)
          (λ s.
          ap (λ x. get_or (with_next x next m) k None) (h.lasts p near ∙ s.1)
          ∙ get_or-set_other next s.0 k (Some m) None (λ y.
          let w : None ≡ Some p = sym z ∙ ap (λ j. (node e j).parent) y ∙ child_is e p s.0 (highest_some (child e p) m s.0 s.1).1.0 in
          let bad : ◌≡◌ {A = ℕ} 0 1 = cc in omega arith)
          ∙ h.orphans k l z)
          (option_cases (highest (child e p) m))

      -- a new child of one of the nodes
      after_child : Expected e n (m + 1) (set last p (Some m)) (with_next (get_or last p None) next m)
      after_child =
          subst (λ j. Expected e n j (set last p (Some m)) (with_next (get_or last p None) next m)) (sym (add-one m))
          (record { lasts = last_so; orphans = orphan_so; nexts = λ k o l w u. ⊎_elim (at_none k o l w u) (at_some k o l w u) (option_cases (highest (child e p) m)) })

-- one step of the pass, whatever the parent
pub after_node : (e : Entries) (n m : ℕ) (last next : List (Option ℕ)) → Expected e n m last next → n ≤ length last → n ≤ length next → m < n → (o : Option ℕ) → (node e m).parent ≡ o → Expected e n (m + 1) (last_noted last n o m) (next_noted last next n o m)
after_node e n m last next h a b l None q = after_none e n m last next h q
after_node e n m last next h a b l (Some p) q =
    ⊎_elim
    (λ near. let t = lt-ltb p n near in subst (λ x. Expected e n (m + 1) (cond x (set last p (Some m)) last) (cond x (with_next (get_or last p None) next m) next)) (sym t) (after_child e n m last next h p q near a b l))
    (λ far. let t = le-ltb p n far in subst (λ x. Expected e n (m + 1) (cond x (set last p (Some m)) last) (cond x (with_next (get_or last p None) next m) next)) (sym t) (after_stranger e n m last next h p q far))
    (cases_lt p n)

-- the links found are those that the nodes ought to have, where a parent is one of the nodes
pub next_found : (e : Entries) (n k : ℕ) (last next : List (Option ℕ)) → Expected e n n last next → k < n → ((p : ℕ) → (node e k).parent ≡ Some p → p < n) → get_or next k None ≡ lowest (later_sibling e k) n
next_found e n k last next h l near =
    ⊎_elim (λ z. h.orphans k l z ∙ sym (next_of_orphan e k n z)) (λ s. h.nexts k s.0 l s.1 (near s.0 s.1)) (option_cases (node e k).parent)
