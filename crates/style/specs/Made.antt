-- When bytes are taken for a table of a paint.
use Rattle.std.specs.Prelude.{◌≡◌, ℕ, true, false, List, Ok, Err, Result}
use Rattle.card.specs.declared.fault.Fault.{Fault}
use Rattle.card.specs.declared.fault.Fault.TheVariants as fault
use Rattle.style.specs.declared.paint_table.PaintTable.{PaintTable}
use Rattle.style.specs.Paints.{is_paint_table}

-- a table is taken as it is, and other bytes are refused
abbrev pub PaintMade : List ℕ → Result PaintTable Fault → Type 0
PaintMade bs (Ok table) = (is_paint_table bs ≡ true) × (table.table.bytes.now ≡ bs)
PaintMade bs (Err f) = (is_paint_table bs ≡ false) × (f ≡ fault.WrongTable)
