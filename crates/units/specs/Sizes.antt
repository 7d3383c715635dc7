-- The size of an element's font: from the setting, then from the outermost element down to it.
use Rattle.std.specs.Prelude.{ℕ, Bool, true, false, cond, List, [], ◌∷◌, Some, None, Option, Float}
use Rattle.std.specs.Float.Ieee.{of_bits, mul, div}
use Rattle.std.specs.Option.{unwrap_or}
use Rattle.names.specs.declared.AId.TheVariants as name
use Rattle.card.specs.declared.record.Length.{Length}
use Rattle.card.specs.Contents.{Card, above}
use Rattle.values.specs.declared.keyword.NamedSize.{NamedSize}
use Rattle.values.specs.declared.keyword.NamedSize.TheVariants as word
use Rattle.values.specs.Values.{raw}
use Rattle.values.specs.Kinds.{as_length}
use Rattle.values.specs.Keywords.{as_keyword, size_words}
use Rattle.units.specs.declared.settings.Settings.{Settings}
use Rattle.units.specs.Constants.{one, step, hundredth, times, over}
use Rattle.units.specs.Lengths.{absolute}

-- 1.2 to the power 2
abbrev pub square : Float
square = times step step

-- 1.2 to the power 3
abbrev pub cube : Float
cube = times step square

-- the factor of a word: neighbouring words lie 1.2 apart, `medium` being 1
abbrev pub scale : NamedSize → Float
scale word.XxSmall = over one cube
scale word.XSmall = over one square
scale word.Small = over one step
scale word.Medium = one
scale word.Large = step
scale word.XLarge = square
scale word.XxLarge = cube
scale word.Smaller = over one step
scale word.Larger = step

-- a word names a size of its own, or a step from the size above
abbrev pub is_absolute : NamedSize → Bool
is_absolute word.XxSmall = true
is_absolute word.XSmall = true
is_absolute word.Small = true
is_absolute word.Medium = true
is_absolute word.Large = true
is_absolute word.XLarge = true
is_absolute word.XxLarge = true
is_absolute word.Smaller = false
is_absolute word.Larger = false

-- a length as a size: a percent is of the size above
abbrev pub size_by_length : Settings → Float → Length → Float
size_by_length s around l = unwrap_or (absolute s.dpi around l) (times (times l.number around) hundredth)

-- a word as a size: a size of its own is a multiple of the setting, a step one of the size above; any other word leaves that
abbrev pub size_by_word : Settings → Float → Option NamedSize → Float
size_by_word s around None = times around one
size_by_word s around (Some w) = times (cond (is_absolute w) s.size around) (scale w)

-- a single length counts before the words
abbrev pub size_by : Settings → Float → Option Length → Option NamedSize → Float
size_by s around None w = size_by_word s around w
size_by s around (Some l) w = size_by_length s around l

-- what an element's font-size makes of the size above; without one that stays
unfoldable pub own_size : Settings → Card → ℕ → Float → Float
unfolding raw mul div of_bits
own_size s card e around = unwrap_or (raw (λ value reading. Some (size_by s around (as_length value reading) (as_keyword size_words value reading))) card e name.FontSize) around

-- the size within some elements, the nearest first
unfoldable pub size_within : Settings → Card → List ℕ → Float
unfolding own_size
size_within s card [] = s.size
size_within s card (e ∷ rest) = own_size s card e (size_within s card rest)

-- the size of an element's font
unfoldable pub size : Settings → Card → ℕ → Float
unfolding size_within above
size s card e = size_within s card (above card e)
