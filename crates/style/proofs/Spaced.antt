-- The laws of kerning and of the length that a text is to have.
use Rattle.std.proofs.Common.{◌≡◌, ℕ, Bool, true, false, not, ◌||◌, Some, None, codes, sym, ap, ◌∙◌}
use lib.Ieee.{Float, lt, eq}
use Rattle.std.proofs.lemmas.Bool.{cond-true, cond-false}
use Rattle.names.specs.declared.AId.TheVariants as name
use Rattle.card.specs.declared.record.Length.{Length}
use Rattle.card.specs.Contents.{Card}
use Rattle.units.specs.declared.settings.Settings.{Settings}
use Rattle.units.specs.Constants.{nought}
use Rattle.units.specs.Lengths.{length_of}
use Rattle.units.specs.Measured.{measured, resolved}
use Rattle.units.specs.Sizes.{size}
use Rattle.units.proofs.Measuring.{measured_is}
use Rattle.values.specs.Values.{bound, own, nearest}
use Rattle.values.specs.Kinds.{as_text, as_length}
use Rattle.values.specs.Attributes.{says}
use Rattle.style.specs.Spacing.{minus_one, kerning, not_below_nought, long}

-- one below 0 is none
pub below_nought : (n : Float) → lt n nought ≡ true → None ≡ not_below_nought n
below_nought n h = sym (cond-true (lt n nought) None (Some n) h)

-- any other stays
pub from_nought : (n : Float) → lt n nought ≡ false → Some n ≡ not_below_nought n
from_nought n h = sym (cond-false (lt n nought) None (Some n) h)

module _ (s : Settings) (card : Card) (k : ℕ) where
  -- a length of the element itself, measured
  pub long_some : (l : Length) (z n : Float) → Some l ≡ own as_length card k name.TextLength → z ≡ size s card k → n ≡ length_of s z s.diagonal l → not_below_nought n ≡ long s card k
  long_some l z n e h q =
      ap not_below_nought (q ∙ ap (λ x. length_of s x s.diagonal l) h ∙ measured_is s card k name.TextLength l)
      ∙ ap (bound (λ m. not_below_nought (measured s card k name.TextLength m))) e

  -- what the two attributes say of kerning
  pub kerning_by : (x : Float) (a b : Bool) → x ≡ resolved s card k name.Kerning minus_one → eq x nought ≡ a → b ≡ says (nearest as_text card k name.FontKerning) (codes "none") → not (a || b) ≡ kerning s card k
  kerning_by x a b e h q = (λ i. not (h' i || q i))
    where
      h' : a ≡ eq (resolved s card k name.Kerning minus_one) nought
      h' = sym h ∙ ap (λ y. eq y nought) e
