-- The number of each refusal, and the place that it names.
use Rattle.std.specs.Prelude.{ℕ}
use Rattle.card.specs.declared.fault.Fault.{Fault}
use Rattle.card.specs.declared.fault.Fault.TheVariants as fault
use Rattle.card.specs.declared.fault.Setting.{Setting}
use Rattle.card.specs.declared.fault.Setting.TheVariants as setting
use Rattle.card.specs.declared.fault.Table.{Table}
use Rattle.card.specs.declared.fault.Table.TheVariants as table

-- the number of a refusal
abbrev pub number_of : Fault → ℕ
number_of (fault.TableShort p) = 1
number_of fault.NoRoomToBegin = 2
number_of (fault.TooDeep p) = 3
number_of (fault.NoNodeEntry p) = 4
number_of (fault.NotNewest p) = 5
number_of (fault.NotUtf8 p) = 6
number_of (fault.ReadingBroken p) = 7
number_of (fault.AttributesFull p) = 8
number_of (fault.BytesFull p) = 9
number_of (fault.LengthsFull p) = 10
number_of (fault.SvgOpen p) = 11
number_of (fault.StillOpen p) = 12
number_of (fault.OutOfOrder p) = 13
number_of (fault.SettingOutOfRange p) = 14
number_of (fault.NotTextElement p) = 15
number_of (fault.AnglesShort p) = 21
number_of (fault.ListShort p) = 23
number_of fault.WrongTable = 24

-- the number of a table
abbrev pub number_of_table : Table → ℕ
number_of_table table.Nodes = 0
number_of_table table.Attributes = 1
number_of_table table.Bytes = 2
number_of_table table.Lengths = 3

-- the index of a setting
abbrev pub index_of_setting : Setting → ℕ
index_of_setting setting.Dpi = 0
index_of_setting setting.Size = 1
index_of_setting setting.Width = 2
index_of_setting setting.Height = 3
index_of_setting setting.Diagonal = 4

-- the place that a refusal names, 0 where there is none
abbrev pub place_of : Fault → ℕ
place_of (fault.TableShort t) = number_of_table t
place_of fault.NoRoomToBegin = 0
place_of (fault.TooDeep p) = p
place_of (fault.NoNodeEntry p) = p
place_of (fault.NotNewest p) = p
place_of (fault.NotUtf8 p) = p
place_of (fault.ReadingBroken p) = p
place_of (fault.AttributesFull p) = p
place_of (fault.BytesFull p) = p
place_of (fault.LengthsFull p) = p
place_of (fault.SvgOpen p) = p
place_of (fault.StillOpen p) = p
place_of (fault.OutOfOrder p) = p
place_of (fault.SettingOutOfRange s) = index_of_setting s
place_of (fault.NotTextElement p) = p
place_of (fault.AnglesShort p) = p
place_of (fault.ListShort p) = p
place_of fault.WrongTable = 0
