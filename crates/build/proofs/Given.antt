-- A card with an attribute more: the way up and the places of its items stay.
use Rattle.std.proofs.Common.{◌≡◌, ℕ, zero, suc, ◌<◌, not, ◌&&◌, eqb, List, length, set, sym, refl, ap, ◌∙◌, subst, ⊎_elim}
use Rattle.std.proofs.lemmas.List.{get_or-set_same, get_or-set_other}
use Rattle.std.proofs.lemmas.Bool.{cases_eq}
use Rattle.names.specs.declared.EId.TheVariants as tag
use Rattle.card.specs.Lists.{member}
use Rattle.card.specs.Contents.{Attr, Item, root, element, text, Card, item, parent_of, parent, tagged, above, onward}
use Rattle.card.specs.Order.{is_root, in_place}
use Rattle.card.proofs.Upward.{same_way}
use Rattle.build.specs.Edits.{with_attr}

module _ (card : Card) (p : ℕ) (before : p < length card) (a : Attr) where
  abbrev pub given : Card
  given = set card p (with_attr a (item card p))

  same_by : {Y : Type 0} (f : Item → Y) → ((it : Item) → f (with_attr a it) ≡ f it) → (k : ℕ) → f (item given k) ≡ f (item card k)
  same_by f h k =
      ⊎_elim
      (λ e. subst (λ j. f (item given j) ≡ f (item card j)) (sym e) (ap f (get_or-set_same card p (with_attr a (item card p)) root before) ∙ h (item card p)))
      (λ e. ap f (get_or-set_other card p k (with_attr a (item card p)) root e)) (cases_eq k p)

  onward_same : (k : ℕ) (up : ℕ → List ℕ) (it : Item) → onward (with_attr a it) k up ≡ onward it k up
  onward_same k up root = refl
  onward_same k up (element q t attrs) = refl
  onward_same k up (text q bytes) = refl

  root_same : (it : Item) → is_root (with_attr a it) ≡ is_root it
  root_same root = refl
  root_same (element q t attrs) = refl
  root_same (text q bytes) = refl

  svg_same : (it : Item) → (tagged tag.Svg (with_attr a it) && eqb (parent_of (with_attr a it)) 0) ≡ (tagged tag.Svg it && eqb (parent_of it) 0)
  svg_same root = refl
  svg_same (element q t attrs) = refl
  svg_same (text q bytes) = refl

  placed_same : (xs : List ℕ) (it : Item) → (not (is_root (with_attr a it)) && member (parent_of (with_attr a it)) xs) ≡ (not (is_root it) && member (parent_of it) xs)
  placed_same xs root = refl
  placed_same xs (element q t attrs) = refl
  placed_same xs (text q bytes) = refl

  pub above_same : (k : ℕ) → above given k ≡ above card k
  above_same k = same_way given card (λ j up. same_by (λ it. onward it j up) (onward_same j up) j) k

  pub place_same : (k : ℕ) → in_place given k ≡ in_place card k
  place_same zero = same_by is_root root_same 0
  place_same (suc zero) = same_by (λ it. tagged tag.Svg it && eqb (parent_of it) 0) svg_same 1
  place_same (suc (suc k)) =
      same_by (λ it. not (is_root it) && member (parent_of it) (above given (suc k))) (placed_same (above given (suc k))) (suc (suc k))
      ∙ ap (λ (xs : List ℕ). not (is_root (item card (suc (suc k)))) && member (parent card (suc (suc k))) xs) (above_same (suc k))
