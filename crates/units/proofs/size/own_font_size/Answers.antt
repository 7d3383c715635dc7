use Rattle.std.proofs.Common.{refl, ◌∙◌}
use Rattle.units.proofs.Sizing.{own_chosen}
use Rattle.units.proofs.size.own_font_size.Goals as goal

pub returns-in-Some : goal.returns-in-Some
returns-in-Some c = c.convert_font_length.ensures ∙ own_chosen _ _ c.args.node.id _ _ _ _ c.in-Some.ensures refl refl

pub returns-in-Some-try_attribute : goal.returns-in-Some-try_attribute
returns-in-Some-try_attribute c = c.convert_named_font_size.ensures ∙ own_chosen _ _ c.args.node.id _ _ _ _ c.in_default.ensures c.in-Some-try_attribute.ensures refl

pub returns-then-has_attribute : goal.returns-then-has_attribute
returns-then-has_attribute c = own_chosen _ _ c.args.node.id _ _ _ _ c.in_default.ensures c.in_default-try_attribute.ensures c.if-has_attribute.ensures

pub returns : goal.returns
returns c = own_chosen _ _ c.args.node.id _ _ _ _ c.in_default.ensures c.in_default-try_attribute.ensures c.if-has_attribute.ensures
