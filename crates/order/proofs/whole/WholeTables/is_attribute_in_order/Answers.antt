use Rattle.std.proofs.Common.{rules}
use Rattle.card.specs.TableOrder.{attribute_in_order}
use Rattle.order.proofs.whole.WholeTables.is_attribute_in_order.Goals as goal

pub returns-then-not-is_in_use : goal.returns-then-not-is_in_use
unfolding attribute_in_order
returns-then-not-is_in_use c = search rules

pub returns-then-not-is_utf8 : goal.returns-then-not-is_utf8
unfolding attribute_in_order
returns-then-not-is_utf8 c = search rules

pub returns : goal.returns
unfolding attribute_in_order
returns c = search rules
