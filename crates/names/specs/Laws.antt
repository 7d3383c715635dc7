-- Two tags, names or units are equal where they have one place; each stands at its place in its list, and is read from its spelling.
use Rattle.std.specs.Prelude.{◌≡◌, Some}
use denote.Enum.Bare.{sameb}
use Rattle.names.specs.contracts.AId as name
use Rattle.names.specs.contracts.EId as tag
use Rattle.names.specs.contracts.LengthUnit as unit
use Rattle.names.specs.declared.AId.{AId}
use Rattle.names.specs.declared.AId.TheVariants as a
use Rattle.names.specs.declared.EId.{EId}
use Rattle.names.specs.declared.EId.TheVariants as e
use Rattle.names.specs.declared.LengthUnit.{LengthUnit}
use Rattle.names.specs.declared.LengthUnit.TheVariants as u
use Rattle.names.specs.AIds as names
use Rattle.names.specs.EIds as tags
use Rattle.names.specs.LengthUnits as units
use Rattle.names.specs.Rows.{Stands, read, sought}
use Rattle.names.specs.Spelt.{each_read, each_stands, equal_by}

pub tags_equal : (x y : EId) → sameb tag.the_type x y ≡ tags.same x y
tags_equal = equal_by tag.enum tags.place tt

pub tags_stand : (x : EId) → Stands tags.all (tags.place x) x
tags_stand = each_stands tag.enum e.A tags.all tags.place tt tt

pub tags_read : (x : EId) → read tags.spelling tags.all (tags.spelling x) ≡ Some x
unfolding sought
tags_read = each_read tag.enum tags.spelling tags.all tt tt

pub names_equal : (x y : AId) → sameb name.the_type x y ≡ names.same x y
names_equal = equal_by name.enum names.place tt

pub names_stand : (x : AId) → Stands names.all (names.place x) x
names_stand = each_stands name.enum a.AlignmentBaseline names.all names.place tt tt

pub names_read : (x : AId) → read names.spelling names.all (names.spelling x) ≡ Some x
unfolding sought
names_read = each_read name.enum names.spelling names.all tt tt

pub units_equal : (x y : LengthUnit) → sameb unit.the_type x y ≡ units.same x y
units_equal = equal_by unit.enum units.place tt

pub units_stand : (x : LengthUnit) → Stands units.all (units.place x) x
units_stand = each_stands unit.enum u.None units.all units.place tt tt

pub units_read : (x : LengthUnit) → read units.spelling units.all (units.spelling x) ≡ Some x
unfolding sought
units_read = each_read unit.enum units.spelling units.all tt tt
