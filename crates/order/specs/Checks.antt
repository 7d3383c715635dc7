-- What the checks answer: the first condition that fails, in the order of the checks.
use Rattle.std.specs.Prelude.{◌≡◌, ℕ, ◌-◌, Bool, true, cond, List, length, Some, None, Ok, Err, Option, Result, nat_lt}
use Rattle.card.specs.declared.fault.Fault.{Fault}
use Rattle.card.specs.declared.fault.Fault.TheVariants as fault
use Rattle.card.specs.declared.fault.Table.{Table}
use Rattle.card.specs.declared.fault.Table.TheVariants as table
use Rattle.card.specs.declared.record.Length.{Length}
use Rattle.card.specs.declared.record.Marks.{Marks}
use Rattle.card.specs.declared.record.TableCounts.{TableCounts}
use Rattle.card.specs.Lists.{member}
use Rattle.card.specs.Contents.{Reading, above}
use Rattle.card.specs.Order.{is_utf8, valid_start}
use Rattle.card.specs.Tables.{Entries, contents, Whole}
use Rattle.card.specs.TableOrder.{lowest_out_of_order, TablesInOrder}

-- bytes that are not UTF-8 are refused
abbrev pub spelling_checked : List ℕ → Result (Unit {0}) Fault
spelling_checked bs = cond (is_utf8 bs) (Ok tt) (Err (fault.NotUtf8 (valid_start bs)))

-- lengths and marks as a reading
abbrev pub reading : List Length → Marks → Reading
reading lengths marks = record { lengths = lengths; single = marks.single; plain = marks.plain }

-- the first check, then the next
abbrev pub then : Result (Unit {0}) Fault → Result (Unit {0}) Fault → Result (Unit {0}) Fault
then (Ok u) next = next
then (Err f) next = Err f

-- a table shorter than its count, or a count above its limit, is refused
abbrev pub table_checked : Table → ℕ → ℕ → ℕ → Result (Unit {0}) Fault
table_checked t entries count limit = cond (nat_lt entries count) (Err (fault.TableShort t)) (cond (nat_lt limit count) (Err (fault.TableShort t)) (Ok tt))

-- each table in turn
unfoldable pub tables_checked : Entries → TableCounts → Result (Unit {0}) Fault
tables_checked e c =
    then (table_checked table.Nodes (length e.nodes) c.nodes 4096)
    (then (table_checked table.Attributes (length e.attributes) c.attributes 16384)
    (then (table_checked table.Bytes (length e.bytes) c.bytes 65536)
    (table_checked table.Lengths (length e.lengths) c.lengths 16384)))

-- a node out of order is refused, the lowest
abbrev pub order_refused : Option ℕ → Result (Unit {0}) Fault
order_refused None = Ok tt
order_refused (Some k) = Err (fault.OutOfOrder k)

-- the tables, then the order of the nodes
unfoldable pub card_checked : Entries → TableCounts → Result (Unit {0}) Fault
card_checked e c = then (tables_checked e c) (order_refused (lowest_out_of_order e c))

-- the open element is the newest node or lies above it
abbrev pub open_in_order : Entries → TableCounts → ℕ → Bool
open_in_order e c k = member k (above (contents e c) (c.nodes - 1))

-- a draft's tables, nodes, and then its open element
unfoldable pub draft_checked : Entries → TableCounts → ℕ → Result (Unit {0}) Fault
draft_checked e c k = then (card_checked e c) (cond (open_in_order e c k) (Ok tt) (Err (fault.OutOfOrder k)))

-- what a card that passed has
pub record SoundCard (e : Entries) (c : TableCounts) : Type 0 where
  pub whole : Whole e c
  pub order : TablesInOrder e c

-- what a draft that passed has
pub record SoundDraft (e : Entries) (c : TableCounts) (k : ℕ) : Type 0 where
  pub whole : Whole e c
  pub order : TablesInOrder e c
  pub inside : open_in_order e c k ≡ true
