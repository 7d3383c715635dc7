-- Lengths in the units of the view, and the settings that they are computed from. Each operation rounds once.
use Rattle.std.specs.Prelude.{Bool, cond, not, ◌&&◌, List, [], ◌∷◌, find, Some, None, Ok, Err, Option, Result, Float}
use Rattle.std.specs.Float.Ieee.{lt}
use Rattle.std.specs.Float.{float_is_finite}
use Rattle.std.specs.Option.{option_map, unwrap_or}
use Rattle.names.specs.declared.AId.{AId}
use Rattle.names.specs.declared.AId.TheVariants as name
use Rattle.names.specs.AIds as names
use Rattle.names.specs.declared.LengthUnit.TheVariants as unit
use Rattle.card.specs.declared.fault.Fault.{Fault}
use Rattle.card.specs.declared.fault.Fault.TheVariants as fault
use Rattle.card.specs.declared.fault.Setting.{Setting}
use Rattle.card.specs.declared.fault.Setting.TheVariants as setting
use Rattle.card.specs.declared.record.Length.{Length}
use Rattle.units.specs.declared.settings.Settings.{Settings}
use Rattle.units.specs.Constants.{nought, two, six, seventy_two, hundred, cm_per_inch, mm_per_inch, times, over}

-- finite and above 0
abbrev pub in_range : Float → Bool
in_range x = float_is_finite x && lt nought x

-- each setting with its value, in the order in which they are checked
abbrev pub rows : Settings → List (Setting × Float)
rows s = (setting.Dpi, s.dpi) ∷ (setting.Size, s.size) ∷ (setting.Width, s.width) ∷ (setting.Height, s.height) ∷ (setting.Diagonal, s.diagonal) ∷ []

-- the first setting that is out of range
abbrev pub first_out_of_range : Settings → Option Setting
first_out_of_range s = option_map (λ (r : Setting × Float). r.0) (find (λ r. not (in_range r.1)) (rows s))

-- a setting out of range is refused, the first
abbrev pub settings_refused : Option Setting → Result (Unit {0}) Fault
settings_refused None = Ok tt
settings_refused (Some i) = Err (fault.SettingOutOfRange i)

-- a length that is no percent: em and ex are of the font's size, the others of the dots to the inch
abbrev pub absolute : Float → Float → Length → Option Float
absolute dpi size l =
    elim l.unit [
      | unit.None ↦ Some l.number
      | unit.Px ↦ Some l.number
      | unit.Em ↦ Some (times l.number size)
      | unit.Ex ↦ Some (over (times l.number size) two)
      | unit.In ↦ Some (times l.number dpi)
      | unit.Cm ↦ Some (over (times l.number dpi) cm_per_inch)
      | unit.Mm ↦ Some (over (times l.number dpi) mm_per_inch)
      | unit.Pt ↦ Some (over (times l.number dpi) seventy_two)
      | unit.Pc ↦ Some (over (times l.number dpi) six)
      | unit.Percent ↦ None
    ]

-- a length of which a percent is of a base: base times n, divided by 100
abbrev pub length_of : Settings → Float → Float → Length → Float
length_of s size base l = unwrap_or (absolute s.dpi size l) (over (times base l.number) hundred)

-- what a percent of an attribute is of: the view's width, its height, or its diagonal
abbrev pub base_for : Settings → AId → Float
base_for s n =
    cond (names.same n name.X) s.width (cond (names.same n name.Dx) s.width (cond (names.same n name.Y) s.height (cond (names.same n name.Dy) s.height s.diagonal)))
