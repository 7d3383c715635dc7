-- What each call leaves: tables in order that hold this card, with this element open.
use Rattle.std.specs.Prelude.{◌≡◌, ℕ, ◌-◌, true}
use Rattle.card.specs.declared.record.TableCounts.{TableCounts}
use Rattle.card.specs.Lists.{member}
use Rattle.card.specs.Contents.{Card, above}
use Rattle.card.specs.Tables as tables
use Rattle.card.specs.TableOrder.{TablesInOrder}

-- the open element is the newest node or lies above it
pub record Kept (e : tables.Entries) (c : TableCounts) (card : Card) (current : ℕ) : Type 0 where
  pub contents : tables.contents e c ≡ card
  pub order : TablesInOrder e c
  pub inside : member current (above (tables.contents e c) (c.nodes - 1)) ≡ true
  pub whole : tables.Whole e c
