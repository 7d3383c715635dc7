-- Lengths where they stand: an element's own list, and the closest one from an element upward.
use Rattle.std.specs.Prelude.{ℕ, List, map, Some, None, Option, Float}
use Rattle.std.specs.Float.Ieee.{mul, div, of_bits}
use Rattle.std.specs.Option.{option_map}
use Rattle.names.specs.declared.AId.{AId}
use Rattle.card.specs.declared.record.Length.{Length}
use Rattle.card.specs.Contents.{Card}
use Rattle.values.specs.Values.{own, closest}
use Rattle.values.specs.Kinds.{as_length, as_lengths}
use Rattle.units.specs.declared.settings.Settings.{Settings}
use Rattle.units.specs.declared.list.ConvertedList.{ConvertedList}
use Rattle.units.specs.Lengths.{length_of, base_for}
use Rattle.units.specs.Sizes.{size}

-- a length of an attribute of an element
unfoldable pub measured : Settings → Card → ℕ → AId → Length → Float
unfolding size mul div of_bits
measured s card e name l = length_of s (size s card e) (base_for s name) l

-- an element's own list of lengths
unfoldable pub list_of : Settings → Card → ℕ → AId → Option (List Float)
unfolding measured own
list_of s card e name = option_map (map (measured s card e name)) (own as_lengths card e name)

-- what a converted list holds
abbrev pub list_shown : ConvertedList → List Float
list_shown c = map (length_of c.settings c.size c.base) c.lengths.now

-- an element's own length
abbrev pub length_at : Settings → Card → ℕ → AId → Option Float
length_at s card e name = option_map (measured s card e name) (own as_length card e name)

-- a length found at an element, else the default
abbrev pub measured_or : Settings → Card → ℕ → AId → Float → Option Length → Float
measured_or s card e name default None = default
measured_or s card e name default (Some l) = measured s card e name l

-- the length of the closest element with the name, whatever its value, where that is one length; else the default
abbrev pub found_or : Settings → Card → AId → Float → Option ℕ → Float
found_or s card name default None = default
found_or s card name default (Some e) = measured_or s card e name default (own as_length card e name)

unfoldable pub resolved : Settings → Card → ℕ → AId → Float → Float
unfolding closest own measured
resolved s card k name default = found_or s card name default (closest card k name)
