-- The laws of a font's size: what an element's own font-size gives, and the way down to an element.
use Rattle.std.proofs.Common.{◌≡◌, ℕ, Bool, true, false, List, [], ◌∷◌, is_some, Some, None, Option, unwrap_or, sym, refl, ap, ◌∙◌}
use lib.Ieee.{Float}
use Rattle.names.specs.declared.AId.TheVariants as name
use Rattle.card.specs.declared.record.Length.{Length}
use Rattle.card.specs.Contents.{Attr, Card, above}
use Rattle.document.specs.Said.{attribute}
use Rattle.values.specs.declared.keyword.NamedSize.{NamedSize}
use Rattle.values.specs.Upward.{stepped}
use Rattle.values.specs.Values.{bound, has, raw}
use Rattle.values.specs.Kinds.{as_length}
use Rattle.values.specs.Keywords.{as_keyword, size_words}
use Rattle.units.specs.declared.settings.Settings.{Settings}
use Rattle.units.specs.Constants.{one, times}
use Rattle.units.specs.Sizes.{size_by_length, size_by_word, size_by, own_size, size_within, size}

-- the size by what was found of a font-size: a length, a word, or whether there is any
abbrev pub chosen : Settings → Float → Option Length → Option NamedSize → Bool → Float
chosen s around (Some l) w any = size_by_length s around l
chosen s around None (Some w) any = size_by_word s around (Some w)
chosen s around None None true = times around one
chosen s around None None false = around

module _ (s : Settings) (card : Card) (k : ℕ) (around : Float) where
  by_found : (l : Option Length) (w : Option NamedSize) → size_by s around l w ≡ chosen s around l w true
  by_found None None = refl
  by_found None (Some w) = refl
  by_found (Some l) w = refl

  own_is : chosen s around (raw as_length card k name.FontSize) (raw (as_keyword size_words) card k name.FontSize) (has name.FontSize card k) ≡ own_size s card k around
  unfolding own_size raw
  own_is = go (attribute card k name.FontSize)
    where
      go : (o : Option Attr) → chosen s around (bound (λ a. as_length a.value a.reading) o) (bound (λ a. as_keyword size_words a.value a.reading) o) (is_some o) ≡ unwrap_or (bound (λ a. Some (size_by s around (as_length a.value a.reading) (as_keyword size_words a.value a.reading))) o) around
      go None = refl
      go (Some a) = sym (by_found (as_length a.value a.reading) (as_keyword size_words a.value a.reading))

  -- by what the questions answered
  pub own_chosen : (l : Option Length) (w : Option NamedSize) (any : Bool) → l ≡ raw as_length card k name.FontSize → w ≡ raw (as_keyword size_words) card k name.FontSize → any ≡ has name.FontSize card k → chosen s around l w any ≡ own_size s card k around
  own_chosen l w any p q r = (λ i. chosen s around (p i) (q i) (r i)) ∙ own_is

module _ (s : Settings) (card : Card) where
  -- within some elements the size starts at the setting, and each changes it
  stepped_size : (xs : List ℕ) → stepped (own_size s card) s.size xs ≡ size_within s card xs
  unfolding size_within
  stepped_size [] = refl
  stepped_size (e ∷ rest) = ap (own_size s card e) (stepped_size rest)

  -- so it does from the root down
  pub size_down : (k : ℕ) → stepped (own_size s card) s.size (above card k) ≡ size s card k
  unfolding size
  size_down k = stepped_size (above card k)
