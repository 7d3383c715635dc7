-- The positions of an element's characters: of the lists that reach a character, the innermost counts.
use Rattle.std.specs.Prelude.{ℕ, Bool, cond, ◌||◌, List, map, length, None, Option, Float}
use Rattle.std.specs.Float.Ieee.{mul, div, of_bits}
use Rattle.std.specs.List.{range_with_len, slice_get}
use Rattle.std.specs.Option.{option_or}
use Rattle.names.specs.declared.AId.{AId}
use Rattle.names.specs.declared.AId.TheVariants as name
use Rattle.names.specs.declared.EId.TheVariants as tag
use Rattle.card.specs.Contents.{Card, has_tag}
use Rattle.characters.specs.Characters.{Character, characters}
use Rattle.units.specs.declared.settings.Settings.{Settings}
use Rattle.units.specs.Measured.{list_of}
use Rattle.values.specs.Values.{bound}
use Rattle.positions.specs.declared.position.Position.{Position}
use Rattle.positions.specs.declared.position.Axis.{Axis}
use Rattle.positions.specs.declared.position.Axis.TheVariants as axis
use Rattle.positions.specs.Innermost.{innermost}

-- the attribute of each coordinate
abbrev pub name_of : Axis → AId
name_of axis.X = name.X
name_of axis.Y = name.Y
name_of axis.Dx = name.Dx
name_of axis.Dy = name.Dy

-- what an element's list says of its character j, if it reaches that far
abbrev pub listed : Settings → Card → Axis → ℕ → ℕ → Option Float
listed s card a e j = bound (λ xs. slice_get xs j) (list_of s card e (name_of a))

-- only `text` and `tspan` place their characters
abbrev pub has_lists : Card → ℕ → Bool
has_lists card e = has_tag tag.Text card e || has_tag tag.Tspan card e

abbrev pub laid : Settings → Card → Axis → ℕ → ℕ → Option Float
laid s card a e j = cond (has_lists card e) (listed s card a e j) None

-- no coordinate at all
abbrev pub nowhere : Position
nowhere = record { x = None; y = None; dx = None; dy = None }

-- a coordinate, where there is one, in place of the old
abbrev pub put : Axis → Position → Option Float → Position
put axis.X p o = record { x = option_or o p.x; y = p.y; dx = p.dx; dy = p.dy }
put axis.Y p o = record { x = p.x; y = option_or o p.y; dx = p.dx; dy = p.dy }
put axis.Dx p o = record { x = p.x; y = p.y; dx = option_or o p.dx; dy = p.dy }
put axis.Dy p o = record { x = p.x; y = p.y; dx = p.dx; dy = option_or o p.dy }

-- what an element makes of the position of its character j
abbrev pub replaced : Settings → Card → ℕ → ℕ → Position → Position
replaced s card e j p =
    record {
      x = option_or (laid s card axis.X e j) p.x;
      y = option_or (laid s card axis.Y e j) p.y;
      dx = option_or (laid s card axis.Dx e j) p.dx;
      dy = option_or (laid s card axis.Dy e j) p.dy;
    }

-- the position of character i of c
abbrev pub position : Settings → Card → ℕ → List Character → ℕ → Position
position s card c chars i =
    record {
      x = innermost (laid s card axis.X) card c chars i;
      y = innermost (laid s card axis.Y) card c chars i;
      dx = innermost (laid s card axis.Dx) card c chars i;
      dy = innermost (laid s card axis.Dy) card c chars i;
    }

-- the positions of all characters of c
unfoldable pub positions : Settings → Card → ℕ → List Position
unfolding innermost list_of characters mul div of_bits
positions s card c = let chars = characters card c in map (position s card c chars) (range_with_len 0 (length chars))
