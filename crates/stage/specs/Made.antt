-- When bytes are taken for a table.
use Rattle.std.specs.Prelude.{◌≡◌, ℕ, true, false, List, Ok, Err, Result}
use Rattle.card.specs.declared.fault.Fault.{Fault}
use Rattle.card.specs.declared.fault.Fault.TheVariants as fault
use Rattle.stage.specs.declared.table.TableStage.{TableStage}
use Rattle.stage.specs.Stages.{is_table}

-- a table is taken as it is, and other bytes are refused
abbrev pub TableMade : List ℕ → Result TableStage Fault → Type 0
TableMade bs (Ok table) = (is_table bs ≡ true) × (table.table.bytes.now ≡ bs)
TableMade bs (Err f) = (is_table bs ≡ false) × (f ≡ fault.WrongTable)
