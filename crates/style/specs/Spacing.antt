-- How far apart the characters of an element stand, and how long its text is.
use Rattle.std.specs.Prelude.{ℕ, Bool, cond, not, ◌||◌, Some, None, codes, Option, from_bits, Float}
use Rattle.std.specs.Float.{binary32}
use Rattle.std.specs.Float.Ieee.{eq, lt}
use Rattle.std.specs.Option.{unwrap_or}
use Rattle.names.specs.declared.AId.TheVariants as name
use Rattle.card.specs.Contents.{Card}
use Rattle.units.specs.declared.settings.Settings.{Settings}
use Rattle.units.specs.Constants.{nought}
use Rattle.units.specs.Measured.{measured, resolved}
use Rattle.values.specs.declared.keyword.LengthAdjust.{LengthAdjust}
use Rattle.values.specs.declared.keyword.LengthAdjust.TheVariants as adjust
use Rattle.values.specs.Values.{bound, own, nearest}
use Rattle.values.specs.Kinds.{as_text, as_length}
use Rattle.values.specs.Keywords.{as_keyword, adjust_words}
use Rattle.values.specs.Attributes.{says}

-- −1
abbrev pub minus_one : Float
minus_one = from_bits binary32 0xbf80_0000

-- pairs of characters are moved together, unless `kerning` is 0 or `font-kerning` is `none`
abbrev pub kerning : Settings → Card → ℕ → Bool
kerning s card e = not (eq (resolved s card e name.Kerning minus_one) nought || says (nearest as_text card e name.FontKerning) (codes "none"))

-- what is added between two characters: nothing without a length
abbrev pub letters_apart : Settings → Card → ℕ → Float
letters_apart s card e = resolved s card e name.LetterSpacing nought

-- what is added between two words
abbrev pub words_apart : Settings → Card → ℕ → Float
words_apart s card e = resolved s card e name.WordSpacing nought

-- a number that is not below 0
abbrev pub not_below_nought : Float → Option Float
not_below_nought x = cond (lt x nought) None (Some x)

-- the length that the element itself asks for its text
abbrev pub long : Settings → Card → ℕ → Option Float
long s card e = bound (λ l. not_below_nought (measured s card e name.TextLength l)) (own as_length card e name.TextLength)

-- what is stretched to reach it, by a word of the element itself: spaces without one
abbrev pub adjusted : Card → ℕ → LengthAdjust
adjusted card e = unwrap_or (own (as_keyword adjust_words) card e name.LengthAdjust) adjust.Spacing
