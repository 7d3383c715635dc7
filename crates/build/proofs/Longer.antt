-- A card with one item more: the way up and the places of its items.
use Rattle.std.proofs.Common.{◌≡◌, ℕ, zero, suc, ◌-◌, ◌<◌, ◌≤◌, true, false, not, ◌&&◌, eqb, List, [], ◌∷◌, ◌++◌, length, ap, ◌∙◌, subst, ⊎_elim, arith}
use lib.ListN.{get_or-append}
use Rattle.std.proofs.lemmas.List.{get_or_push}
use Rattle.std.proofs.lemmas.Bool.{and_from, cases_lt}
use Rattle.names.specs.declared.EId.TheVariants as tag
use Rattle.card.specs.Lists.{member}
use Rattle.card.specs.Contents.{Item, root, Card, item, parent_of, parent, tagged, above}
use Rattle.card.specs.Order.{is_root, in_place}
use Rattle.card.proofs.Upward.{Rises, longer_way}

pub in_its_place : (card : Card) (n : ℕ) → 2 ≤ n → is_root (item card n) ≡ false → member (parent card n) (above card (n - 1)) ≡ true → in_place card n ≡ true
in_its_place card zero h a b = absurd (omega arith)
in_its_place card (suc zero) h a b = absurd (omega arith)
in_its_place card (suc (suc n)) h a b =
    let q : suc (suc n) - 1 ≡ suc n = omega arith in
    and_from (not (is_root (item card (suc (suc n))))) (member (parent card (suc (suc n))) (above card (suc n))) (ap not a) (subst (λ j. member (parent card (suc (suc n))) (above card j) ≡ true) q b)

module _ (card : Card) (n : ℕ) (size : length card ≡ n) (two : 2 ≤ n) (r : Rises card (n - 1)) (it : Item) where
  abbrev pub longer : Card
  longer = card ++ it ∷ []

  pub same_item : (k : ℕ) → k < n → item longer k ≡ item card k
  same_item k h = get_or-append card (it ∷ []) root k (omega arith)

  pub new_item : item longer n ≡ it
  new_item = get_or_push card it root n size

  pub same_above : (k : ℕ) → k < n → above longer k ≡ above card k
  same_above k h = longer_way card (n - 1) r it k (omega arith) (omega arith)

  pub same_place : (k : ℕ) → k < n → in_place longer k ≡ in_place card k
  same_place zero h = ap is_root (same_item 0 h)
  same_place (suc zero) h = ap (λ x. tagged tag.Svg x && eqb (parent_of x) 0) (same_item 1 h)
  same_place (suc (suc k)) h =
      ap (λ x. not (is_root x) && member (parent_of x) (above longer (suc k))) (same_item (suc (suc k)) h)
      ∙ ap (λ (xs : List ℕ). not (is_root (item card (suc (suc k)))) && member (parent card (suc (suc k))) xs) (same_above (suc k) (omega arith))

  pub longer_rises : parent_of it < n → Rises longer n
  longer_rises h = record { rooted = same_item 0 (omega arith) ∙ r.rooted; lower = λ k z l. ⊎_elim (λ u. old k z u) (λ u. subst (λ j. parent longer j < j) (let q : n ≡ k = omega arith in q) new) (cases_lt k n) }
    where
      old : (k : ℕ) → 0 < k → k < n → parent longer k < k
      old k z l = let q : parent longer k ≡ parent card k = ap parent_of (same_item k l) in let b = r.lower k z (omega arith) in omega arith

      new : parent longer n < n
      new = let q : parent longer n ≡ parent_of it = ap parent_of new_item in omega arith

  -- an item inside an element at or above the newest one is in its place
  pub new_place : is_root it ≡ false → member (parent_of it) (above card (n - 1)) ≡ true → in_place longer n ≡ true
  new_place h m =
      in_its_place longer n two (ap is_root new_item ∙ h)
      (ap (λ x. member (parent_of x) (above longer (n - 1))) new_item ∙ ap (λ (xs : List ℕ). member (parent_of it) xs) (same_above (n - 1) (omega arith)) ∙ m)
