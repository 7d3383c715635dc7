-- The laws of a font's weight: what an element's own font-weight gives, and the way down to an element.
use Rattle.std.proofs.Common.{◌≡◌, ℕ, List, [], ◌∷◌, Option, sym, refl, ap, ◌∙◌}
use Rattle.std.specs.Option.{option_map}
use Rattle.names.specs.declared.AId.TheVariants as name
use Rattle.card.specs.Contents.{Card, above}
use Rattle.values.specs.Upward.{stepped}
use Rattle.values.specs.Values.{own}
use Rattle.values.specs.Keywords.{as_keyword}
use Rattle.std.proofs.lemmas.Iterator.Adapters.{option_map_id}
use Rattle.style.specs.declared.keyword.Weighing.{Weighing}
use Rattle.style.specs.Fonts.{weight_words, weighed, own_weight, weight_within, weight}

module _ (card : Card) where
  -- an element's own weight, by what it says
  pub own_weighed : (k around : ℕ) (o : Option Weighing) → option_map (λ x. x) o ≡ own (as_keyword weight_words) card k name.FontWeight → weighed around o ≡ own_weight card k around
  unfolding own_weight
  own_weighed k around o e = ap (weighed around) (sym (option_map_id o) ∙ e)

  -- within some elements the weight starts at 400, and each changes it
  stepped_weight : (xs : List ℕ) → stepped (own_weight card) 400 xs ≡ weight_within card xs
  unfolding weight_within
  stepped_weight [] = refl
  stepped_weight (e ∷ rest) = ap (own_weight card e) (stepped_weight rest)

  -- so it does from the root down
  pub weight_down : (k : ℕ) → stepped (own_weight card) 400 (above card k) ≡ weight card k
  unfolding weight
  weight_down k = stepped_weight (above card k)
