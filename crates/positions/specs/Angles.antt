-- The angles of an element's characters: of the lists of angles around a character that are not empty, the innermost counts.
use Rattle.std.specs.Prelude.{ℕ, ◌-◌, min, List, map, length, Option, Float}
use Rattle.std.specs.Float.Ieee.{of_bits}
use Rattle.std.specs.Float.{binary32}
use Rattle.std.specs.List.{range_with_len, slice_get}
use Rattle.std.specs.Option.{option_map, unwrap_or}
use Rattle.card.specs.declared.record.Length.{Length}
use Rattle.card.specs.Contents.{Card}
use Rattle.characters.specs.Characters.{Character, characters}
use Rattle.values.specs.Values.{bound, own}
use Rattle.values.specs.Attributes.{angles_of}
use Rattle.positions.specs.Innermost.{innermost}

-- no angle
abbrev pub level : Float
level = of_bits binary32 0

-- the number at a place of a list, or its last; an empty list has none
abbrev pub at_or_last : List Length → ℕ → Option Float
at_or_last ls j = option_map (λ l. l.number) (slice_get ls (min j (length ls - 1)))

-- the angle that an element gives its character j
abbrev pub turned : Card → ℕ → ℕ → Option Float
turned card e j = bound (λ ls. at_or_last ls j) (angles_of card e)

-- the angle of character i of c
abbrev pub angle : Card → ℕ → List Character → ℕ → Float
angle card c chars i = unwrap_or (innermost (turned card) card c chars i) level

-- the angles of all characters of c
unfoldable pub angles : Card → ℕ → List Float
unfolding innermost own characters of_bits
angles card c = let chars = characters card c in map (angle card c chars) (range_with_len 0 (length chars))
