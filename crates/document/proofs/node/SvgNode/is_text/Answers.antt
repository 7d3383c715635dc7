use Rattle.std.proofs.Common.{false, sym, refl, ap}
use Rattle.card.specs.Contents.{is_text_item}
use Rattle.document.proofs.Items.{item_is, no_text}
use Rattle.document.proofs.node.SvgNode.is_text.Goals as goal

pub returns-in-Text : goal.returns-in-Text
returns-in-Text c = sym (ap is_text_item (item_is c.args.self.doc c.args.self.id _ c.in-Text.ensures))

pub returns-in_default : goal.returns-in_default
returns-in_default c = no_text c.args.self.doc is_text_item false c.args.self.id c.kind.result c.kind.ensures c.in_default.not-Text refl (λ _ _ _. refl)
